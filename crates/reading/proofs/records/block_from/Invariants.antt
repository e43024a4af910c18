-- `reading::records::block_from`: a loop over the steps of one block that stores its words.
use lib.ListN.{length}
use Rattle.rows.specs.Kept.{kept_at}
use Rattle.steps.specs.Front.{spot_told}
use Rattle.reading.proofs.StepLaws.{effort}
use Rattle.reading.proofs.Gathering.{Gathers}
use Rattle.reading.proofs.records.block_from.Given as goal

abbrev pub invariant-loop-step : goal.invariant-loop-step
invariant-loop-step l =
    Gathers (length l.tape) l.usable.format l.from (kept_at l.tape l.from) (spot_told l.tape l.cursor) l.block

abbrev pub decreases-loop-step : goal.decreases-loop-step
decreases-loop-step l = effort (length l.tape) l.from l.cursor.stage l.cursor.item
