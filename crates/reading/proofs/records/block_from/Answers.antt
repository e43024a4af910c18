-- `reading::records::block_from`: a loop over the steps of one block that stores its words.
use mathlib.Core.Path.{◌≡◌, sym}
use native.Mathlib.Omega.{arith}
use lib.ListN.{length}
use Rattle.std.proofs.lemmas.Result.{err_from_is_err_and}
use Rattle.rows.specs.Kept.{kept_at}
use Rattle.words.proofs.Fetched.{fetched}
use Rattle.steps.specs.declared.Event.{Event}
use Rattle.steps.specs.Front.{spot_told}
use Rattle.reading.specs.Survey.{entry_from}
use Rattle.reading.proofs.Places.{rising-at}
use Rattle.reading.proofs.StepLaws.{Under, ready}
use Rattle.reading.proofs.Gathering.{After, gathers-none, gathers-on, gathers-halt}
use Rattle.reading.proofs.records.block_from.Goals as goal
use Rattle.reading.proofs.records.block_from.Goals.{In_ok-step, At-loop-step}

-- what each step is handed is the Format's
under : (c : At-loop-step) → Under c.args.usable.format c.guide_of-guide.result.rules c.guide_of-guide.result.leads
under c = record { facts = c.args.usable.facts; ruled = c.guide_of-guide.ensures.rules; led = c.guide_of-guide.ensures.leads }

-- behind a step
after : (c : In_ok-step) (e : Event) → c.in_ok-step.step.event ≡ e →
    let args = c.args in
    let walk = c.loop-step in
    After (length args.tape.now) args.usable.format args.from (kept_at args.tape.now args.from) (spot_told args.tape.now walk.cursor) walk.block
    (spot_told args.tape.now c.in_ok-step.step.cursor) e
after c e q =
    let u : Under c.args.usable.format c.guide_of-guide.result.rules c.guide_of-guide.result.leads = record { facts = c.args.usable.facts; ruled = c.guide_of-guide.ensures.rules; led = c.guide_of-guide.ensures.leads } in
    gathers-on _ _ _ _ u c.loop-step.invariant _ c.in_ok-step.ensures e q

pub loop-step-init : goal.loop-step-init
loop-step-init c = rw (fetched _ _ _ c.next_kept.ensures) (gathers-none _ _ _ _ _ c.empty_block-block.ensures (rising-at _ _))

pub take_step-requires : goal.take_step-requires
take_step-requires c = ready _ _ _ _ _ c.args.usable.facts _ _ c.loop-step.invariant.walk

pub returns-in_err-step : goal.returns-in_err-step
unfolding entry_from
returns-in_err-step c =
    let p = err_from_is_err_and c.from_residual.result c.from_residual.ensures.1 in
    rw (p.1, p.2) (sym (gathers-halt _ _ _ _ (under (goal.at.returns-in_err-step c).At-loop-step) c.loop-step.invariant _ _ c.in_err-step.ensures))

pub loop-step-smaller-in-Opened : goal.loop-step-smaller-in-Opened
loop-step-smaller-in-Opened c = (after (goal.at.loop-step-smaller-in-Opened c).In_ok-step _ c.in-Opened.is).1

pub loop-step-preserved-in-Opened : goal.loop-step-preserved-in-Opened
loop-step-preserved-in-Opened c = (after (goal.at.loop-step-preserved-in-Opened c).In_ok-step _ c.in-Opened.is).0 _ c.new_block-block.ensures

pub with_word-block-requires : goal.with_word-block-requires
with_word-block-requires c = (after (goal.at.with_word-block-requires c).In_ok-step _ c.in-Read.is).0

pub loop-step-smaller-in-Read : goal.loop-step-smaller-in-Read
loop-step-smaller-in-Read c = (after (goal.at.loop-step-smaller-in-Read c).In_ok-step _ c.in-Read.is).2

pub loop-step-preserved-in-Read : goal.loop-step-preserved-in-Read
loop-step-preserved-in-Read c = (after (goal.at.loop-step-preserved-in-Read c).In_ok-step _ c.in-Read.is).1 _ c.with_word-block.ensures

pub overflow_add-result : goal.overflow_add-result
overflow_add-result c = omega (arith, (after (goal.at.overflow_add-result c).In_ok-step _ c.in-Closed.is).1)

pub returns-in-Closed : goal.returns-in-Closed
unfolding entry_from
returns-in-Closed c = sym (after (goal.at.returns-in-Closed c).In_ok-step _ c.in-Closed.is).0

pub returns-in-Finished : goal.returns-in-Finished
unfolding entry_from
returns-in-Finished c = rw c.at.ensures (sym (after (goal.at.returns-in-Finished c).In_ok-step _ c.in-Finished.is))

pub loop-step-smaller : goal.loop-step-smaller
loop-step-smaller c = (after (goal.at.loop-step-smaller c).In_ok-step _ c.in-Out.is).1

pub loop-step-preserved : goal.loop-step-preserved
loop-step-preserved c = (after (goal.at.loop-step-preserved c).In_ok-step _ c.in-Out.is).0
