-- `vectors::run_lines` is safe and ends, and what it answers is within what was read.
use Prim.Native.Nat.{◌≤◌, ◌-◌}
use lib.ListN.{length}
use Rattle.vectors.proofs.run_lines.Given as goal

abbrev pub invariant-loop-from : goal.invariant-loop-from
invariant-loop-from l = l.from ≤ length l.read

abbrev pub decreases-loop-from : goal.decreases-loop-from
decreases-loop-from l = length l.read - l.from
