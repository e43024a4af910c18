-- `words::figures::read_figures`: the run that was read has too few digits, one too many behind it, or neither.
use mathlib.Core.Path.{◌∙◌, sym}
use Rattle.words.proofs.DigitRun.{figures-few, figures-many, figures-fit}
use Rattle.words.proofs.Fetched.{fetched-digit}
use Rattle.words.proofs.figures.read_figures.Goals as goal
use Rattle.words.proofs.figures.read_figures.Goals.{then-digits-fewest_of-via-then-digits-fewest_of, then-digits-fewest_of-via-else-digits-fewest_of+then-is_digit_next}

pub returns-then-digits-fewest_of : goal.returns-then-digits-fewest_of
returns-then-digits-fewest_of c =
    elim c.then-digits-fewest_of.branch [
      | then-digits-fewest_of-via-then-digits-fewest_of w ↦
          figures-few _ _ _ _ _ _ c.read_digits-digits.ensures.told c.refuse_front.result c.refuse_front.ensures (rw (← c.fewest_of.ensures) w.if-digits-fewest_of.true)
      | then-digits-fewest_of-via-else-digits-fewest_of+then-is_digit_next w ↦
          figures-many _ _ _ _ _ _ c.read_digits-digits.ensures.told (rw (← c.fewest_of.ensures) w.if-digits-fewest_of.false) c.refuse_front.result c.refuse_front.ensures
          (fetched-digit c.args.tape.now c.read_digits-digits.result.front ∙ sym w.is_digit_next.ensures ∙ w.if-is_digit_next.true)
    ]

pub returns : goal.returns
returns c =
    figures-fit _ _ _ _ _ _ c.read_digits-digits.ensures.told (rw (← c.fewest_of.ensures) c.if-digits-fewest_of.false) _
    c.restore-value.ensures
    (fetched-digit c.args.tape.now c.read_digits-digits.result.front ∙ sym c.is_digit_next.ensures ∙ c.if-is_digit_next.false)
