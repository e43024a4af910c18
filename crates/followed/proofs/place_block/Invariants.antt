-- `followed::place_block` is safe: no more words are put than axes are passed.
use Rattle.std.proofs.Common.{◌≤◌}
use Rattle.followed.proofs.place_block.Given as goal

abbrev pub invariant-loop-a : goal.invariant-loop-a
invariant-loop-a l = l.count ≤ l.a
