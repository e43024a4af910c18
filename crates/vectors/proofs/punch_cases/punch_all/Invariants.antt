-- `vectors::punch_cases::punch_all` is safe: what was punched stands within the buffer.
use Rattle.std.proofs.Common.{◌≤◌, length}
use Rattle.vectors.proofs.punch_cases.punch_all.Given as goal

abbrev pub invariant-loop-n : goal.invariant-loop-n
invariant-loop-n l = l.at ≤ length l.punched
