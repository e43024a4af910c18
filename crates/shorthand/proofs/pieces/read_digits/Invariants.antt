-- `shorthand::pieces::read_digits` meets its contract: the loop keeps `Running`, and each way out of it is an end of the run.
use Rattle.shorthand.proofs.Runs.{Running}
use Rattle.shorthand.proofs.pieces.read_digits.Given as goal

abbrev pub invariant-loop-after : goal.invariant-loop-after
invariant-loop-after l = Running l.text l.at l.value l.after
