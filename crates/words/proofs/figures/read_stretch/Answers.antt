-- `words::figures::read_stretch`: a digit is the next kept row, and where the tape has ended there is none.
use Prim.Native.Nat.{◌-◌, ◌<◌}
use mathlib.Core.Path.{◌≡◌, ◌∙◌, sym, ap}
use mathlib.Core.Bool.{true, false}
use lib.ListN.{length, get_or}
use native.Mathlib.Nat.{le_refl}
use native.Mathlib.Omega.{arith}
use Rattle.rows.specs.Row.{character}
use Rattle.rows.proofs.Walks.{kept-end}
use Rattle.words.specs.Figures.{is_digit, run}
use Rattle.words.proofs.DigitRun.{run_on}
use Rattle.words.proofs.Fetched.{digit-rows}
use Rattle.words.proofs.figures.read_stretch.Goals as goal

pub loop-at-preserved : goal.loop-at-preserved
loop-at-preserved c =
    let tape = c.args.tape.now in
    let digit : is_digit (character (get_or tape c.loop-at.at 0)) ≡ true = sym c.is_ascii_digit.ensures.value ∙ c.if-not-is_ascii_digit.false in
    let more : c.loop-at.digits.count < c.args.most = omega arith in
    record {
      on = rw (c.and-digits.ensures.number, c.and-digits.ensures.count)
          (c.loop-at.invariant.on ∙ rw (digit-rows tape c.loop-at.at c.loop-at-test.true digit) (run_on _ _ _ _ _ _ more digit));
      from = omega arith;
      few = omega arith;
    }

pub returns-clause-on : goal.returns-clause-on
returns-clause-on c =
    let tape = c.args.tape.now in
    let digits = c.loop-at.digits in
    c.loop-at.invariant.on
    ∙ ap (run (c.args.most - digits.count) digits.number digits.count) (kept-end tape _ false c.loop-at-test.false ∙ sym (kept-end tape (length tape) false (le_refl _)))
