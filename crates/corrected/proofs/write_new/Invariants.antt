-- `corrected::write_new`: at most a line is written for each block.
use Rattle.std.proofs.Common.{◌≤◌}
use Rattle.corrected.proofs.write_new.Given as goal

abbrev pub invariant-loop-n : goal.invariant-loop-n
invariant-loop-n g l = l.written ≤ l.n
