-- `reading::walk::survey_blocks`: a loop over steps that counts the blocks and holds where the rows of one of them stand.
use mathlib.Core.Path.{◌≡◌, refl}
use native.Mathlib.Omega.{arith}
use lib.ListN.{length}
use Rattle.std.proofs.lemmas.Result.{err_from_is_err_and}
use Rattle.words.specs.Front.{rows_at}
use Rattle.steps.specs.declared.Event.{Event}
use Rattle.steps.specs.Front.{spot_told}
use Rattle.reading.proofs.StepLaws.{Under, ready}
use Rattle.reading.proofs.Counting.{Behind, counts-none, counts-on, counts-quiet, counts-halt}
use Rattle.reading.proofs.walk.survey_blocks.Goals as goal
use Rattle.reading.proofs.walk.survey_blocks.Goals.{In_ok-step, At-loop-step}

-- what each step is handed is the Format's
under : (c : At-loop-step) → Under c.args.usable.format c.guide_of-guide.result.rules c.guide_of-guide.result.leads
under c = record { facts = c.args.usable.facts; ruled = c.guide_of-guide.ensures.rules; led = c.guide_of-guide.ensures.leads }

-- behind a step
after : (c : In_ok-step) (e : Event) → c.in_ok-step.step.event ≡ e →
    let args = c.args in
    let walk = c.loop-step in
    Behind args.n (length args.tape.now) args.usable.format args.first (rows_at args.tape.now args.front) (spot_told args.tape.now walk.cursor) walk.survey.count walk.survey.part walk.survey.last
    (spot_told args.tape.now c.in_ok-step.step.cursor) e
after c e q =
    let u : Under c.args.usable.format c.guide_of-guide.result.rules c.guide_of-guide.result.leads = record { facts = c.args.usable.facts; ruled = c.guide_of-guide.ensures.rules; led = c.guide_of-guide.ensures.leads } in
    counts-on _ _ _ _ _ u c.loop-step.invariant _ c.in_ok-step.ensures e q

pub loop-step-init : goal.loop-step-init
loop-step-init c = counts-none _ _ _ _ _ _ refl c.requires.rising

pub take_step-requires : goal.take_step-requires
take_step-requires c = ready _ _ _ _ _ c.args.usable.facts _ _ c.loop-step.invariant.walk

pub returns-in_err-step : goal.returns-in_err-step
returns-in_err-step c =
    let p = err_from_is_err_and c.from_residual.result c.from_residual.ensures.1 in
    let told = counts-halt _ _ _ _ _ (under (goal.at.returns-in_err-step c).At-loop-step) c.loop-step.invariant _ _ c.in_err-step.ensures in
    rw (p.1, p.2) (record { count = told.0; part = told.1.0; last = told.1.1 })

pub returns-in-Finished : goal.returns-in-Finished
returns-in-Finished c =
    let told = after (goal.at.returns-in-Finished c).In_ok-step _ c.in-Finished.is in
    record { count = told.0; part = told.1.0; last = told.1.1 }

pub overflow_add-lf : goal.overflow_add-lf
overflow_add-lf c = omega (arith, (after (goal.at.overflow_add-lf c).In_ok-step _ c.in-Closed.is).3)

pub with-survey-requires : goal.with-survey-requires
with-survey-requires c = omega (arith, (after (goal.at.with-survey-requires c).In_ok-step _ c.in-Closed.is).2)

pub loop-step-smaller-in-Closed : goal.loop-step-smaller-in-Closed
loop-step-smaller-in-Closed c = rw c.with-survey.ensures (after (goal.at.loop-step-smaller-in-Closed c).In_ok-step _ c.in-Closed.is).1

pub loop-step-preserved-in-Closed : goal.loop-step-preserved-in-Closed
loop-step-preserved-in-Closed c = rw c.with-survey.ensures ((after (goal.at.loop-step-preserved-in-Closed c).In_ok-step _ c.in-Closed.is).0 _ refl)

pub loop-step-smaller : goal.loop-step-smaller
loop-step-smaller c = (counts-quiet _ _ _ _ _ (under (goal.at.loop-step-smaller c).At-loop-step) c.loop-step.invariant _ c.in_ok-step.ensures c.in_default.not-Finished c.in_default.not-Closed).1

pub loop-step-preserved : goal.loop-step-preserved
loop-step-preserved c = (counts-quiet _ _ _ _ _ (under (goal.at.loop-step-preserved c).At-loop-step) c.loop-step.invariant _ c.in_ok-step.ensures c.in_default.not-Finished c.in_default.not-Closed).0
