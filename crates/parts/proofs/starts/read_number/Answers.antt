-- `parts::starts::read_number`: the run that was read has too few digits, one too many behind it, or neither.
use lib.ListN.{length}
use mathlib.Core.Path.{◌≡◌, ◌∙◌, sym, refl}
use Prim.Native.Nat.{ℕ}
use Rattle.rows.specs.Answer.{refusal}
use Rattle.words.specs.Figures.{Behind, figures}
use Rattle.words.specs.Front.{rows_at}
use Rattle.shorthand.specs.declared.Missing.TheVariants.{Nothing}
use Rattle.words.specs.declared.Wanted.{Wanted}
use Rattle.words.proofs.DigitRun.{figures-few, figures-many, figures-fit}
use Rattle.words.proofs.Fetched.{fetched-digit}
use Rattle.parts.proofs.starts.read_number.Goals as goal
use Rattle.parts.proofs.starts.read_number.Goals.{then-number-digits-via-then-number-digits, then-number-digits-via-else-number-digits+then-is_digit_next}

pub returns-then-number-digits : goal.returns-then-number-digits
returns-then-number-digits c =
    let a = c.args in
    let wrong : refusal {A = Behind ℕ} c.refuse_front.result ≡ figures (length a.tape.now) Wanted.Start Nothing a.digits (rows_at a.tape.now a.front) = elim c.then-number-digits.branch [
      | then-number-digits-via-then-number-digits w ↦
          figures-few _ Wanted.Start Nothing _ _ _ c.read_digits-number.ensures.told c.refuse_front.result c.refuse_front.ensures w.if-number-digits.true
      | then-number-digits-via-else-number-digits+then-is_digit_next w ↦
          figures-many _ Wanted.Start Nothing _ _ _ c.read_digits-number.ensures.told w.if-number-digits.false c.refuse_front.result c.refuse_front.ensures
          (fetched-digit c.args.tape.now c.read_digits-number.result.front ∙ sym w.is_digit_next.ensures ∙ w.if-is_digit_next.true)
    ] in
    rw (sym wrong)

pub returns : goal.returns
returns c =
    let none = fetched-digit c.args.tape.now c.read_digits-number.result.front ∙ sym c.is_digit_next.ensures ∙ c.if-is_digit_next.false in
    rw (sym (figures-fit (length c.args.tape.now) Wanted.Start Nothing _ _ _ c.read_digits-number.ensures.told c.if-number-digits.false c.read_digits-number.result.value.number refl none))
