-- `vectors::index_cases::list_of` is safe: each entry is read from within the list.
use Rattle.std.proofs.Common.{◌≤◌, length}
use Rattle.vectors.proofs.index_cases.list_of.Given as goal

abbrev pub invariant-loop-n : goal.invariant-loop-n
invariant-loop-n g l = l.at ≤ length l.list
