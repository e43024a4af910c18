-- `index::building::fill_index`: a loop over steps that lays the first row and the number of each block into the arrays.
use native.Mathlib.Omega.{arith}
use mathlib.Core.Path.{◌≡◌}
use lib.ListN.{length}
use Rattle.rows.specs.Kept.{kept_at}
use Rattle.words.proofs.Fetched.{fetched}
use Rattle.steps.specs.declared.Event.{Event}
use Rattle.steps.specs.Front.{spot_told}
use Rattle.reading.proofs.Places.{rising-at}
use Rattle.reading.proofs.StepLaws.{Under, ready}
use Rattle.index.specs.Index.{entries_of}
use Rattle.index.proofs.Filling.{On, Behind, all_come, fills-none, fills-on, fills-halt, fills-quiet}
use Rattle.index.proofs.building.fill_index.Goals as goal
use Rattle.index.proofs.building.fill_index.Goals.{In-Ok, In_default-event, At-loop-step}

-- what each step is handed is the Format's
under : (c : At-loop-step) → Under c.args.usable.format c.guide_of-guide.result.rules c.guide_of-guide.result.leads
under c = record { facts = c.args.usable.facts; ruled = c.guide_of-guide.ensures.rules; led = c.guide_of-guide.ensures.leads }

-- behind a step
after : (c : In-Ok) (e : Event) → c.in-Ok.step.event ≡ e →
    let args = c.args in
    let walk = c.loop-step in
    Behind (length args.tape.now) args.usable.format args.first (kept_at args.tape.now args.first) args.firsts.now args.numbers.now (entries_of args.usable.format args.tape.now)
    (spot_told args.tape.now walk.cursor) walk.firsts walk.numbers walk.from walk.number walk.n (spot_told args.tape.now c.in-Ok.step.cursor) e
after c e q =
    let u : Under c.args.usable.format c.guide_of-guide.result.rules c.guide_of-guide.result.leads = record { facts = c.args.usable.facts; ruled = c.guide_of-guide.ensures.rules; led = c.guide_of-guide.ensures.leads } in
    fills-on _ _ _ _ _ _ _ (all_come _ _ _ c.requires.nonzero) c.requires.tape_in_bounds u c.loop-step.invariant _ c.in-Ok.ensures e q

-- behind a step that neither opened nor ended a block
quiet : (c : In_default-event) → Under c.args.usable.format c.guide_of-guide.result.rules c.guide_of-guide.result.leads →
    let args = c.args in
    let walk = c.loop-step in
    On (length args.tape.now) args.usable.format args.first (kept_at args.tape.now args.first) args.firsts.now args.numbers.now
    (spot_told args.tape.now walk.cursor) walk.firsts walk.numbers walk.from walk.number walk.n (spot_told args.tape.now c.in-Ok.step.cursor)
quiet c u =
    let d = c.in_default-event in
    fills-quiet _ _ _ _ _ _ _ (all_come _ _ _ c.requires.nonzero) c.requires.tape_in_bounds u c.loop-step.invariant _ c.in-Ok.ensures d.not-Finished d.not-Opened d.not-Closed

pub loop-step-init : goal.loop-step-init
loop-step-init c = rw (fetched _ _ _ c.next_kept.ensures) (fills-none _ _ _ _ _ _ _ (rising-at _ _))

pub take_step-requires : goal.take_step-requires
take_step-requires c = ready _ _ _ _ _ c.args.usable.facts _ _ c.loop-step.invariant.walk

pub returns-in_default : goal.returns-in_default
returns-in_default c = absurd (fills-halt _ _ _ _ _ _ _ (all_come _ _ _ c.requires.nonzero) c.requires.tape_in_bounds (under (goal.at.returns-in_default c).At-loop-step) c.loop-step.invariant _ _ c.in_default.ensures)

pub loop-step-smaller-in-Opened : goal.loop-step-smaller-in-Opened
loop-step-smaller-in-Opened c = (after (goal.at.loop-step-smaller-in-Opened c).In-Ok _ c.in-Opened.is).1

pub loop-step-preserved-in-Opened : goal.loop-step-preserved-in-Opened
loop-step-preserved-in-Opened c = (after (goal.at.loop-step-preserved-in-Opened c).In-Ok _ c.in-Opened.is).0 _ c.mark_number-number.ensures

pub bounds-firsts-n : goal.bounds-firsts-n
bounds-firsts-n c = (after (goal.at.bounds-firsts-n c).In-Ok _ c.in-Closed.is).row_room

pub bounds-numbers-n : goal.bounds-numbers-n
bounds-numbers-n c = (after (goal.at.bounds-numbers-n c).In-Ok _ c.in-Closed.is).mark-room

pub overflow_add-from : goal.overflow_add-from
overflow_add-from c = omega (arith, (after (goal.at.overflow_add-from c).In-Ok _ c.in-Closed.is).lf-within)

pub loop-step-smaller-in-Closed : goal.loop-step-smaller-in-Closed
loop-step-smaller-in-Closed c = (after (goal.at.loop-step-smaller-in-Closed c).In-Ok _ c.in-Closed.is).nearer

pub loop-step-preserved-in-Closed : goal.loop-step-preserved-in-Closed
loop-step-preserved-in-Closed c = (after (goal.at.loop-step-preserved-in-Closed c).In-Ok _ c.in-Closed.is).filled

pub returns-in-Finished : goal.returns-in-Finished
returns-in-Finished c =
    let all = after (goal.at.returns-in-Finished c).In-Ok _ c.in-Finished.is in
    record { firsts = all.0; numbers = all.1 }

pub loop-step-smaller : goal.loop-step-smaller
loop-step-smaller c = (quiet (goal.at.loop-step-smaller c).In_default-event (under (goal.at.loop-step-smaller c).At-loop-step)).1

pub loop-step-preserved : goal.loop-step-preserved
loop-step-preserved c = (quiet (goal.at.loop-step-preserved c).In_default-event (under (goal.at.loop-step-preserved c).At-loop-step)).0
