-- `images::take_off_under`: by what the survey told, and then the last block's rows are DEL.
use Prim.Native.Nat.{◌≤◌}
use mathlib.Core.Path.{◌∙◌, sym, ap}
use native.Mathlib.Omega.{arith}
use Rattle.std.proofs.lemmas.Result.{err_from_is_err_and}
use lib.ListN.{length, take}
use lib.Seq.{length-take-le}
use Rattle.images.specs.Images.{overpunched}
use Rattle.images.proofs.TapesSeen.{SurveyTold, survey-told, survey-refused}
use Rattle.images.proofs.Shrinking.{last-refused, last_none, last_some, part-rubbed, stays, shrinks}
use Rattle.images.proofs.take_off_under.Goals as goal
use Rattle.images.proofs.take_off_under.Goals.{In_ok-survey}

-- the survey of a tape that is read
surveys : (c : In_ok-survey) → let a = c.args in SurveyTold a.usable.format (take a.rows a.image.now) c.in_ok-survey.survey.count c.in_ok-survey.survey.last
surveys c = survey-told c.args.usable.format (take c.args.rows c.args.image.now) _ _ c.in_ok-survey.ensures.count c.in_ok-survey.ensures.last

-- the last block stands within the image
stands : (c : In_ok-survey) → let p = c.in_ok-survey.survey.last in (p.from ≤ p.to) × (p.to ≤ length c.args.image.now)
stands c =
    let x = surveys c in
    let w = rw (← x.ended) at x.seen.last in
    let within = c.requires.rows_in_bounds in
    (w.0, omega (arith, w.1, length-take-le c.args.rows c.args.image.now within, within))

pub returns-in_err-survey : goal.returns-in_err-survey
returns-in_err-survey c =
    let a = c.args in
    let t = take a.rows a.image.now in
    let p = err_from_is_err_and c.from_residual.result c.from_residual.ensures.1 in
    let stay = stays a.image.now t _ _ _ (last-refused a.usable.format t _ _ (survey-refused a.usable.format t _ _ c.in_err-survey.ensures.last)) in
    rw (p.1, p.2) (record { image = stay.0; buffer = stay.1 })

pub returns-then-survey-eq0 : goal.returns-then-survey-eq0
returns-then-survey-eq0 c =
    let a = c.args in
    let t = take a.rows a.image.now in
    let x = surveys (goal.at.returns-then-survey-eq0 c).In_ok-survey in
    let stay = stays a.image.now t _ _ _ (last_none a.usable.format t x.survey x.surveys (omega (arith, x.many, c.if-survey-eq0.true))) in
    rw c.at.ensures (record { image = stay.0; buffer = stay.1 })

pub slice_bounds-rub_out-count : goal.slice_bounds-rub_out-count
slice_bounds-rub_out-count c = (stands (goal.at.slice_bounds-rub_out-count c).In_ok-survey).0

pub slice_bounds-rub_out-start : goal.slice_bounds-rub_out-start
slice_bounds-rub_out-start c = (stands (goal.at.slice_bounds-rub_out-start c).In_ok-survey).0

pub slice_bounds-rub_out-end : goal.slice_bounds-rub_out-end
slice_bounds-rub_out-end c = (stands (goal.at.slice_bounds-rub_out-end c).In_ok-survey).1

pub returns : goal.returns
returns c =
    let l = c.args.image.now in
    let t = take c.args.rows l in
    let x = surveys (goal.at.returns c).In_ok-survey in
    let w = stands (goal.at.returns c).In_ok-survey in
    let rubbed = part-rubbed l c.in_ok-survey.survey.last w.0 w.1 _ c.rub_out.ensures in
    let shrunk = shrinks l t _ x.survey (last_some c.args.usable.format t x.survey x.surveys (omega (arith, x.many, c.if-survey-eq0.false))) _ (rubbed ∙ ap (overpunched l) x.ended) _ _
    (sym (length-take-le c.args.rows l c.requires.rows_in_bounds)) x.many in
    record { image = shrunk.0; buffer = shrunk.1 }
