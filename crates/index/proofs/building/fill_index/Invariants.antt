-- `index::building::fill_index`: a loop over steps that lays the first row and the number of each block into the arrays.
use lib.ListN.{length}
use Rattle.rows.specs.Kept.{kept_at}
use Rattle.steps.specs.Front.{spot_told}
use Rattle.reading.proofs.StepLaws.{effort}
use Rattle.index.proofs.Filling.{Fills}
use Rattle.index.proofs.building.fill_index.Given as goal

abbrev pub invariant-loop-step : goal.invariant-loop-step
invariant-loop-step l =
    Fills (length l.tape) l.usable.format l.first (kept_at l.tape l.first) l.initial.firsts l.initial.numbers (spot_told l.tape l.cursor) l.firsts l.numbers l.from l.number l.n

abbrev pub decreases-loop-step : goal.decreases-loop-step
decreases-loop-step l = effort (length l.tape) l.from l.cursor.stage l.cursor.item
