-- `pages::list_page`: the lines of the blocks done stand in the buffer, and in the line what is known of the open one; each step is nearer to the tape's end.
use Rattle.std.proofs.Common.{length}
use Rattle.rows.specs.Kept.{kept_at}
use Rattle.steps.specs.Front.{spot_told}
use Rattle.reading.proofs.StepLaws.{effort}
use Rattle.pages.proofs.Paging.{Pages}
use Rattle.pages.proofs.list_page.Given as goal

abbrev pub invariant-loop-step : goal.invariant-loop-step
invariant-loop-step l = Pages (length l.tape) l.fn.usable.format l.from (kept_at l.tape l.from) l.initial.buffer (spot_told l.tape l.cursor) l.sheet l.buffer l.line l.used

abbrev pub decreases-loop-step : goal.decreases-loop-step
decreases-loop-step l = effort (length l.tape) l.sheet.next l.cursor.stage l.cursor.item
