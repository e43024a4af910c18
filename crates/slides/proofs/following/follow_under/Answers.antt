-- `slides::following::follow_under`: by what the survey answered.
use mathlib.Core.Path.{◌∙◌}
use Rattle.std.proofs.lemmas.Result.{err_from_is_err_and}
use Rattle.slides.proofs.FollowedTapes.{tape-refused, block-refused, tape-followed}
use Rattle.slides.proofs.following.follow_under.Goals as goal

pub returns-in_err-survey : goal.returns-in_err-survey
returns-in_err-survey c =
    let p = err_from_is_err_and c.from_residual.result c.from_residual.ensures.1 in
    rw (p.1, p.2) (tape-refused _ _ _ _ _ _ c.in_err-survey.ensures.count)

pub returns-in_err-among : goal.returns-in_err-among
returns-in_err-among c =
    let p = err_from_is_err_and c.from_residual-in_err-among.result c.from_residual-in_err-among.ensures.1 in
    rw (p.1, p.2) (block-refused _ _ _ _ _ c.in_ok-survey.ensures.count _ _ c.in_err-among.ensures)

pub returns : goal.returns
returns c = c.follow_blocks.ensures ∙ tape-followed _ _ _ _ _ c.in_ok-survey.ensures.count c.in_ok-among.ensures
