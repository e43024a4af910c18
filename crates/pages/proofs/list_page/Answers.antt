-- `pages::list_page` meets its contract: a step opens a block, reads a word, closes a line, passes on, or finds the end, and behind each the page is as far.
use Rattle.std.proofs.Common.{◌≡◌, ℕ, length, arith}
use Rattle.rows.specs.Kept.{kept_at}
use Rattle.words.proofs.Fetched.{fetched}
use Rattle.steps.specs.declared.Event.{Event}
use Rattle.steps.specs.Steps.{step_at}
use Rattle.steps.specs.Front.{spot_told}
use Rattle.parts.specs.Items.{item_at}
use Rattle.rows.specs.Answer.{refusal}
use Rattle.rows.specs.declared.refusals.Refusal.{Refusal}
use Rattle.reading.proofs.Places.{rising-at}
use Rattle.reading.proofs.Remaining.{remains-are}
use Rattle.reading.proofs.StepLaws.{Under, ready}
use Rattle.std.proofs.Math.ListN.{length-replicate}
use Rattle.pages.proofs.Paging.{After, none_yet, page-on, never-refused, paged-are}
use Rattle.pages.proofs.list_page.Goals as goal
use Rattle.pages.proofs.list_page.Goals.{In_ok-step, At-loop-step}

-- what each step is handed is the Format's
under : (c : At-loop-step) → Under c.args.usable.format c.guide_of-guide.result.rules c.guide_of-guide.result.leads
under c = record { facts = c.args.usable.facts; ruled = c.guide_of-guide.ensures.rules; led = c.guide_of-guide.ensures.leads }

-- behind a step
after : (c : In_ok-step) (e : Event) → c.in_ok-step.step.event ≡ e
    → After (length c.args.tape.now) c.args.usable.format c.args.from (kept_at c.args.tape.now c.args.from) c.args.buffer.now c.requires.remains.0
    (spot_told c.args.tape.now c.loop-step.cursor) c.loop-step.sheet c.loop-step.buffer c.loop-step.line c.loop-step.used (spot_told c.args.tape.now c.in_ok-step.step.cursor) e
after c e q =
    let u : Under c.args.usable.format c.guide_of-guide.result.rules c.guide_of-guide.result.leads = record { facts = c.args.usable.facts; ruled = c.guide_of-guide.ensures.rules; led = c.guide_of-guide.ensures.leads } in
    page-on _ _ _ _ _ _ (remains-are _ _ c.requires.remains.1) u c.loop-step.invariant _ c.in_ok-step.ensures e q

pub loop-step-init : goal.loop-step-init
loop-step-init c = rw (c.empty-sheet.ensures, fetched _ _ _ c.next_kept.ensures) (none_yet _ _ _ _ _ _ _ (length-replicate {A = ℕ} 540 0) (rising-at _ _))

pub take_step-requires : goal.take_step-requires
take_step-requires c = ready _ _ _ _ _ c.args.usable.facts _ _ c.loop-step.invariant.walk

never : (c : At-loop-step) (r : Refusal) → refusal r ≡ step_at (length c.args.tape.now) c.guide_of-guide.result.rules c.guide_of-guide.result.leads (item_at c.args.usable.format c.loop-step.cursor.item) (spot_told c.args.tape.now c.loop-step.cursor) → ⊥
never c r e = never-refused _ _ _ _ _ _ (remains-are _ _ c.requires.remains.1) (under c) c.loop-step.invariant _ _ e

pub returns-in_err-step-clause-page : goal.returns-in_err-step-clause-page
returns-in_err-step-clause-page c = absurd (never (goal.at.returns-in_err-step-clause-page c).At-loop-step _ c.in_err-step.ensures)

pub returns-in_err-step-clause-buffer : goal.returns-in_err-step-clause-buffer
returns-in_err-step-clause-buffer c = absurd (never (goal.at.returns-in_err-step-clause-buffer c).At-loop-step _ c.in_err-step.ensures)

pub loop-step-smaller-in-Opened : goal.loop-step-smaller-in-Opened
loop-step-smaller-in-Opened c = (after (goal.at.loop-step-smaller-in-Opened c).In_ok-step _ c.in-Opened.is).2

pub loop-step-preserved-in-Opened : goal.loop-step-preserved-in-Opened
loop-step-preserved-in-Opened c = (after (goal.at.loop-step-preserved-in-Opened c).In_ok-step _ c.in-Opened.is).1 _ _ c.put_start-used.ensures.put c.put_start-used.ensures.end

pub put_word-used-requires : goal.put_word-used-requires
put_word-used-requires c = (after (goal.at.put_word-used-requires c).In_ok-step _ c.in-Read.is).0

pub loop-step-smaller-in-Read : goal.loop-step-smaller-in-Read
loop-step-smaller-in-Read c = (after (goal.at.loop-step-smaller-in-Read c).In_ok-step _ c.in-Read.is).2

pub loop-step-preserved-in-Read : goal.loop-step-preserved-in-Read
loop-step-preserved-in-Read c = (after (goal.at.loop-step-preserved-in-Read c).In_ok-step _ c.in-Read.is).1 _ _ c.put_word-used.ensures.put c.put_word-used.ensures.end

pub overflow_add-lf : goal.overflow_add-lf
overflow_add-lf c = omega (arith, (after (goal.at.overflow_add-lf c).In_ok-step _ c.in-Closed.is).lf-within)

pub add_line-requires-clause-used_in_bounds : goal.add_line-requires-clause-used_in_bounds
add_line-requires-clause-used_in_bounds c = (after (goal.at.add_line-requires-clause-used_in_bounds c).In_ok-step _ c.in-Closed.is).used-room

pub loop-step-smaller-in-Ok : goal.loop-step-smaller-in-Ok
loop-step-smaller-in-Ok c = (after (goal.at.loop-step-smaller-in-Ok c).In_ok-step _ c.in-Closed.is).nearer _ c.in-Ok.ensures.added

pub loop-step-preserved-in-Ok : goal.loop-step-preserved-in-Ok
loop-step-preserved-in-Ok c =
    (after (goal.at.loop-step-preserved-in-Ok c).In_ok-step _ c.in-Closed.is).listed _ _ _ c.in-Ok.ensures.added c.in-Ok.ensures.line c.in-Ok.ensures.buffer

pub returns-in-Err-clause-page : goal.returns-in-Err-clause-page
returns-in-Err-clause-page c =
    rw (paged-are _ _ _ _ _ (remains-are _ _ c.requires.remains.1))
    ((after (goal.at.returns-in-Err-clause-page c).In_ok-step _ c.in-Closed.is).filled _ _ c.in-Err.ensures.added c.in-Err.ensures.buffer _ c.full_page.ensures).0

pub returns-in-Err-clause-buffer : goal.returns-in-Err-clause-buffer
returns-in-Err-clause-buffer c =
    rw (paged-are _ _ _ _ _ (remains-are _ _ c.requires.remains.1))
    ((after (goal.at.returns-in-Err-clause-buffer c).In_ok-step _ c.in-Closed.is).filled _ _ c.in-Err.ensures.added c.in-Err.ensures.buffer _ c.full_page.ensures).1.0

pub returns-in-Finished-clause-page : goal.returns-in-Finished-clause-page
returns-in-Finished-clause-page c =
    rw (paged-are _ _ _ _ _ (remains-are _ _ c.requires.remains.1)) (after (goal.at.returns-in-Finished-clause-page c).In_ok-step _ c.in-Finished.is).0

pub returns-in-Finished-clause-buffer : goal.returns-in-Finished-clause-buffer
returns-in-Finished-clause-buffer c =
    rw (paged-are _ _ _ _ _ (remains-are _ _ c.requires.remains.1)) (after (goal.at.returns-in-Finished-clause-buffer c).In_ok-step _ c.in-Finished.is).1.0

pub loop-step-smaller : goal.loop-step-smaller
loop-step-smaller c = (after (goal.at.loop-step-smaller c).In_ok-step _ c.in-Out.is).1

pub loop-step-preserved : goal.loop-step-preserved
loop-step-preserved c = (after (goal.at.loop-step-preserved c).In_ok-step _ c.in-Out.is).0
