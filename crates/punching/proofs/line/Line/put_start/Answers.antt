-- `punching::line::Line::put_start`: the puts one behind the other; without a number "/" alone, or nothing.
use Prim.Native.Nat.{◌+◌}
use mathlib.Core.Path.{ap, ◌∙◌}
use mathlib.Core.Bool.{cond}
use native.Mathlib.Omega.{arith}
use lib.ListN.{length-append}
use Rattle.reading.specs.Relation.{skip_rows, sequence_rows}
use Rattle.punching.proofs.Measures.{sequence-length}
use Rattle.punching.proofs.line.Line.put_start.Goals as goal

pub put_digits-requires : goal.put_digits-requires
put_digits-requires c =
    let a = c.args in
    let sign = c.put_either.ensures.put in
    let skip = c.put_skip.ensures.put in
    (omega (arith, sign.end, sign.same, skip.end, skip.same, length-append (skip_rows a.start.skip) (sequence_rows a.digits a.start), sequence-length a.digits a.start ∙ ap (λ x. cond x (1 + a.digits) 0) c.if-start.true, c.requires.0), c.requires.1 c.if-start.true)
