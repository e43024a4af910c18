-- `shorthand::parse` meets its contract: the edition, the N item as it is found, and then the items.
use mathlib.Core.Path.{◌≡◌, sym}
use Rattle.std.specs.Prelude.{Ok, Err}
use Rattle.rows.specs.Answer.{taken}
use Rattle.std.proofs.lemmas.Result.{err_from_is_err_and}
use Rattle.shorthand.specs.Parse.{parsed}
use Rattle.shorthand.proofs.Walk.{parsed-opens}
use Rattle.shorthand.proofs.Fairness.{accepted-facts}
use Rattle.shorthand.proofs.parse.Goals as goal
use Rattle.shorthand.proofs.parse.Goals.{In_ok-format}

pub returns-in_err-edition : goal.returns-in_err-edition
unfolding parsed
returns-in_err-edition c =
    let p = err_from_is_err_and c.from_residual.result c.from_residual.ensures.1 in
    rw (p.1, p.2, ← c.in_err-edition.ensures)

pub returns-in_err-sequence : goal.returns-in_err-sequence
unfolding parsed
returns-in_err-sequence c =
    let p = err_from_is_err_and c.from_residual-in_err-sequence.result c.from_residual-in_err-sequence.ensures.1 in
    rw (p.1, p.2, ← c.in_ok-edition.ensures, parsed-opens _ _ (Err c.in_err-sequence.field-0.0) c.in_err-sequence.ensures)

pub returns-in_err-format : goal.returns-in_err-format
unfolding parsed
returns-in_err-format c =
    let p = err_from_is_err_and c.from_residual-in_err-format.result c.from_residual-in_err-format.ensures.1 in
    rw (p.1, p.2, ← c.in_ok-edition.ensures, parsed-opens _ _ (Ok c.in_ok-sequence.sequence) c.in_ok-sequence.ensures) c.in_err-format.ensures

given : (c : In_ok-format) → parsed c.args.edition c.args.text.now ≡ taken c.in_ok-format.format
unfolding parsed
given c = rw (← c.in_ok-edition.ensures, parsed-opens _ _ (Ok c.in_ok-sequence.sequence) c.in_ok-sequence.ensures) (sym c.in_ok-format.ensures)

pub invariant_of-result : goal.invariant_of-result
invariant_of-result c = record { facts = accepted-facts _ _ _ (given c) }

pub returns : goal.returns
returns c = sym (given (goal.at.returns c).In_ok-format)
