-- `words::figures::read_digits`: a stretch goes on with the run, which ends where no digit is wanted or found.
use Prim.Native.Nat.{◌<◌}
use mathlib.Core.Path.{◌≡◌, ◌∙◌, sym}
use mathlib.Core.Bool.{true}
use native.Mathlib.Omega.{arith}
use Rattle.words.specs.Figures.{is_digit}
use Rattle.words.proofs.DigitRun.{run-stops, run-full, run_on}
use Rattle.words.proofs.Fetched.{fetched}
use Rattle.words.proofs.figures.read_digits.Goals as goal
use Rattle.words.proofs.figures.read_digits.Goals.{then-digits-most-via-then-digits-most, then-digits-most-via-else-digits-most+then-not-is_ascii_digit}

pub loop-front-preserved : goal.loop-front-preserved
loop-front-preserved c =
    let digit : is_digit c.in-Some.row.character ≡ true = sym c.is_ascii_digit.ensures.value ∙ c.if-not-is_ascii_digit.false in
    let more : c.loop-front.digits.count < c.args.most = omega arith in
    let on = rw (c.and.ensures.number, c.and.ensures.count) at c.read_stretch-stretch.ensures.on in
    record {
      on = c.loop-front.invariant.on ∙ rw (c.in-Some.is, fetched _ _ _ c.next_kept-front.ensures) (run_on _ _ _ _ _ _ more digit ∙ on);
      few = c.read_stretch-stretch.ensures.size.1;
    }

pub returns-then-digits-most-clause-told : goal.returns-then-digits-most-clause-told
returns-then-digits-most-clause-told c =
    elim c.then-digits-most.branch [
      | then-digits-most-via-then-digits-most w ↦ sym (c.loop-front.invariant.on ∙ rw c.in-Some.is (run-full _ _ _ _ (omega arith)))
      | then-digits-most-via-else-digits-most+then-not-is_ascii_digit w ↦
          sym (c.loop-front.invariant.on ∙ rw c.in-Some.is (run-stops _ _ _ _ (sym w.is_ascii_digit.ensures.value ∙ w.if-not-is_ascii_digit.true)))
    ]

pub returns-in_default-clause-told : goal.returns-in_default-clause-told
returns-in_default-clause-told c = sym (c.loop-front.invariant.on ∙ run-stops _ _ _ _ (rw c.in_default.is))
