-- `reading::walk::survey_blocks`: a loop over steps that counts the blocks and holds where the rows of one of them stand.
use lib.ListN.{length}
use Rattle.words.specs.Front.{rows_at}
use Rattle.steps.specs.Front.{spot_told}
use Rattle.reading.proofs.StepLaws.{effort}
use Rattle.reading.proofs.Counting.{Counts}
use Rattle.reading.proofs.walk.survey_blocks.Given as goal

abbrev pub invariant-loop-step : goal.invariant-loop-step
invariant-loop-step l =
    Counts l.n (length l.tape) l.usable.format l.first (rows_at l.tape l.initial.cursor.front) (spot_told l.tape l.cursor) l.survey.count l.survey.part l.survey.last

abbrev pub decreases-loop-step : goal.decreases-loop-step
decreases-loop-step l = effort (length l.tape) l.survey.last.to l.cursor.stage l.cursor.item
