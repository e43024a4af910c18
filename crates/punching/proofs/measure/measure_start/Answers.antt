-- `punching::measure::measure_start`: one row for "/", and one more than the digits for a number.
use mathlib.Core.Path.{◌≡◌}
use mathlib.Core.Bool.{cond}
use Prim.Native.Nat.{◌+◌}
use Rattle.reading.specs.Record.{start_of}
use Rattle.punching.proofs.Measures.{start-length}
use Rattle.punching.proofs.measure.measure_start.Goals as goal
use Rattle.punching.proofs.measure.measure_start.Goals.{Joined-block, Joined-block-2, then-block, else-block, then-block-2, else-block-2}

skip_is : (c : Joined-block) → c.if-block.skip ≡ cond c.args.block.skip 1 0
skip_is c = elim c.if-block.branch [ then-block w ↦ rw w.if-block.true w.skip-is | else-block w ↦ rw w.if-block.false w.skip-is ]

sequence-is : (c : Joined-block-2) → c.if-block-2.sequence ≡ cond c.args.block.numbered (1 + c.args.digits) 0
sequence-is c = elim c.if-block-2.branch [ then-block-2 w ↦ rw w.if-block-2.true w.sequence-is | else-block-2 w ↦ rw w.if-block-2.false w.sequence-is ]

pub returns : goal.returns
returns c =
    let a = c.args in
    rw (start-length a.digits (start_of a.block), skip_is (goal.at.returns c).Joined-block, sequence-is (goal.at.returns c).Joined-block-2)
