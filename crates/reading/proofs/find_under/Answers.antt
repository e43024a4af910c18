-- `reading::find_under`: by what the survey counted and found.
use mathlib.Core.Path.{◌∙◌, ap}
use Rattle.std.proofs.lemmas.Result.{err_from_is_err_and}
use Rattle.rows.specs.Answer.{Answer, taken, ◌>>◌}
use Rattle.reading.proofs.Numbered.{part-found, part-refused}
use Rattle.reading.proofs.find_under.Goals as goal

pub returns-in_err-survey : goal.returns-in_err-survey
returns-in_err-survey c =
    let p = err_from_is_err_and c.from_residual.result c.from_residual.ensures.1 in
    rw (p.1, p.2) (part-refused c.args.n _ _ _ c.in_err-survey.ensures.count)

pub returns-in_err-among : goal.returns-in_err-among
returns-in_err-among c =
    let p = err_from_is_err_and c.from_residual-in_err-among.result c.from_residual-in_err-among.ensures.1 in
    let s = c.in_ok-survey in
    rw (p.1, p.2) (ap (λ (a : Answer (Unit {0})). a >> taken s.survey.part) c.in_err-among.ensures ∙ part-found c.args.n _ _ _ s.ensures.count s.ensures.part)

pub returns : goal.returns
returns c =
    let s = c.in_ok-survey in
    ap (λ (a : Answer (Unit {0})). a >> taken s.survey.part) c.in_ok-among.ensures ∙ part-found c.args.n _ _ _ s.ensures.count s.ensures.part
