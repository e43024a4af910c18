-- `printing::put_block`: one word behind another, and LF.
use Rattle.std.proofs.Common.{◌+◌, ◌*◌, ◌≤◌}
use Rattle.printing.proofs.BlockLine.{Comes}
use Rattle.printing.proofs.put_block.Given as goal

abbrev pub invariant-loop-word : goal.invariant-loop-word
invariant-loop-word l = (l.at ≤ l.digits + 24 + 23 * l.word-index) × Comes l.initial.line l.initial.at l.word-items l.line l.at l.word-index
