-- `images::append_under`: by what each judge said in turn; what is planned has room, and is then done.
use native.Mathlib.Omega.{arith}
use Rattle.std.proofs.lemmas.Result.{err_from_is_err_and}
use lib.ListN.{length, take}
use lib.Seq.{length-take-le}
use Rattle.images.proofs.TapesSeen.{SurveyTold, survey-told}
use Rattle.images.proofs.Planning.{Fitting, plan_of, unsurveyed, one_more, unmeasured, sites, unindexed, unsited, fitting}
use Rattle.images.proofs.Growing.{never-unwritten, part-written, keeps, grows}
use Rattle.images.proofs.append_under.Goals as goal
use Rattle.images.proofs.append_under.Goals.{In_ok-survey, In_ok-site}

-- the survey of a tape that is read
surveys : (c : In_ok-survey) → let a = c.args in SurveyTold a.usable.format (take a.rows a.image.now) c.in_ok-survey.survey.count c.in_ok-survey.survey.last
surveys c = survey-told c.args.usable.format (take c.args.rows c.args.image.now) _ _ c.in_ok-survey.ensures.count c.in_ok-survey.ensures.last

pub returns-in_err-survey : goal.returns-in_err-survey
returns-in_err-survey c =
    let a = c.args in
    let p = err_from_is_err_and c.from_residual.result c.from_residual.ensures.1 in
    let kept = keeps a.image.now a.firsts.now a.numbers.now a.block _ _ _ (unsurveyed a.usable.format (take a.rows a.image.now) _ _ _ a.block _ _ c.in_err-survey.ensures.last) in
    rw (p.1, p.2) (record { image = kept.0; buffer = kept.1.0; firsts = kept.1.1.0; numbers = kept.1.1.1 })

pub returns-in_err-size : goal.returns-in_err-size
returns-in_err-size c =
    let a = c.args in
    let p = err_from_is_err_and c.from_residual-in_err-size.result c.from_residual-in_err-size.ensures.1 in
    let kept = keeps a.image.now a.firsts.now a.numbers.now a.block _ _ _ (unmeasured a.usable.format (take a.rows a.image.now) _ _ _ a.block (surveys (goal.at.returns-in_err-size c).In_ok-survey) _ _ c.in_err-size.ensures) in
    rw (p.1, p.2) (record { image = kept.0; buffer = kept.1.0; firsts = kept.1.1.0; numbers = kept.1.1.1 })

pub overflow_add-n : goal.overflow_add-n
overflow_add-n c =
    let a = c.args in
    omega (arith, one_more a.usable.format (take a.rows a.image.now) (length a.image.now) (length a.firsts.now) (length a.numbers.now) a.block (surveys (goal.at.overflow_add-n c).In_ok-survey))

pub returns-in_err-judge_room : goal.returns-in_err-judge_room
returns-in_err-judge_room c =
    let a = c.args in
    let p = err_from_is_err_and c.from_residual-in_err-judge_room.result c.from_residual-in_err-judge_room.ensures.1 in
    let kept = keeps a.image.now a.firsts.now a.numbers.now a.block _ _ _ (unindexed a.usable.format (take a.rows a.image.now) _ _ _ a.block (surveys (goal.at.returns-in_err-judge_room c).In_ok-survey) _ c.in_ok-size.ensures _ _ c.in_err-judge_room.ensures) in
    rw (p.1, p.2) (record { image = kept.0; buffer = kept.1.0; firsts = kept.1.1.0; numbers = kept.1.1.1 })

pub find_site-requires : goal.find_site-requires
find_site-requires c =
    let a = c.args in
    let fits = sites a.usable.format (take a.rows a.image.now) (length a.image.now) (length a.firsts.now) (length a.numbers.now) a.block (surveys (goal.at.find_site-requires c).In_ok-survey) c.args.usable.facts _ c.in_ok-size.ensures in
    (fits.0, fits.2)

pub returns-in_err-site : goal.returns-in_err-site
returns-in_err-site c =
    let a = c.args in
    let p = err_from_is_err_and c.from_residual-in_err-site.result c.from_residual-in_err-site.ensures.1 in
    let kept = keeps a.image.now a.firsts.now a.numbers.now a.block _ _ _ (unsited a.usable.format (take a.rows a.image.now) _ _ _ a.block (surveys (goal.at.returns-in_err-site c).In_ok-survey) _ c.in_ok-size.ensures c.in_ok-judge_room.ensures _ _ c.in_err-site.ensures) in
    rw (p.1, p.2) (record { image = kept.0; buffer = kept.1.0; firsts = kept.1.1.0; numbers = kept.1.1.1 })

-- what is planned fits
fits : (c : In_ok-site)
    → let a = c.args in
    Fitting a.usable.format (take a.rows a.image.now) (length a.image.now) (length a.firsts.now) (length a.numbers.now) a.block (plan_of c.in_ok-survey.survey.count c.in_ok-survey.survey.last.to c.in_ok-size.size c.in_ok-site.site)
fits c =
    let a = c.args in
    let within = c.requires.rows_in_bounds in
    let x = survey-told a.usable.format (take a.rows a.image.now) _ _ c.in_ok-survey.ensures.count c.in_ok-survey.ensures.last in
    fitting a.usable.format (take a.rows a.image.now) _ _ _ a.block x _ c.in_ok-size.ensures c.in_ok-judge_room.ensures (omega (arith, length-take-le a.rows a.image.now within, within)) _ c.in_ok-site.ensures

pub overflow_add-end : goal.overflow_add-end
overflow_add-end c = omega (arith, (fits (goal.at.overflow_add-end c).In_ok-site).buffer)

pub slice_bounds-write_under-end : goal.slice_bounds-write_under-end
slice_bounds-write_under-end c = (fits (goal.at.slice_bounds-write_under-end c).In_ok-site).buffer

pub returns-in_err-write_under : goal.returns-in_err-write_under
returns-in_err-write_under c =
    let a = c.args in
    absurd (never-unwritten a.usable.format a.block _ c.in_ok-size.ensures a.image.now _ (fits (goal.at.returns-in_err-write_under c).In_ok-site).buffer _ _ c.in_err-write_under.ensures.rows)

pub offset_bounds-firsts-n : goal.offset_bounds-firsts-n
offset_bounds-firsts-n c = omega (arith, (fits (goal.at.offset_bounds-firsts-n c).In_ok-site).first)

pub bounds-firsts-n : goal.bounds-firsts-n
bounds-firsts-n c = (fits (goal.at.bounds-firsts-n c).In_ok-site).first

pub offset_bounds-numbers-n : goal.offset_bounds-numbers-n
offset_bounds-numbers-n c = omega (arith, (fits (goal.at.offset_bounds-numbers-n c).In_ok-site).number)

pub bounds-numbers-n : goal.bounds-numbers-n
bounds-numbers-n c = (fits (goal.at.bounds-numbers-n c).In_ok-site).number

pub overflow_add-result : goal.overflow_add-result
overflow_add-result c = omega (arith, (fits (goal.at.overflow_add-result c).In_ok-site).number)

pub returns : goal.returns
returns c =
    let a = c.args in
    let k = fits (goal.at.returns c).In_ok-site in
    let rows = part-written a.usable.format a.block _ c.in_ok-size.ensures a.image.now _ k.buffer _ c.in_ok-write_under.ensures.buffer in
    let grown = grows a.image.now a.firsts.now a.numbers.now a.block _ _ _ k.whole _ rows _ c.mark_number.ensures in
    record { image = grown.0; buffer = grown.1.0; firsts = grown.1.1.0; numbers = grown.1.1.1 }
