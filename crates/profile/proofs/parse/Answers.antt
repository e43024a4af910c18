-- `profile::parse` meets its contract: a refusal of the detailed shorthand comes first, and one in order is held to the profile.
use Rattle.std.proofs.lemmas.Result.{err_from_is_err_and}
use Rattle.shorthand.specs.Parse.{parsed}
use Rattle.profile.specs.Answers.{agreed}
use Rattle.profile.proofs.Reading.{asked}
use Rattle.profile.proofs.parse.Goals as goal

pub returns-in_err-edition : goal.returns-in_err-edition
unfolding parsed agreed
returns-in_err-edition c =
    let p = err_from_is_err_and c.from_residual.result c.from_residual.ensures.1 in
    rw (p.1, p.2, ← c.in_err-edition.ensures)

pub returns-in_err-usable : goal.returns-in_err-usable
unfolding agreed
returns-in_err-usable c =
    let p = err_from_is_err_and c.from_residual-in_err-usable.result c.from_residual-in_err-usable.ensures.1 in
    rw (p.1, p.2, ← c.in_err-usable.ensures)

pub returns : goal.returns
unfolding agreed
returns c = rw (← c.in_ok-usable.ensures, asked _ _ c.in_ok-edition.ensures) c.hold_profile.ensures
