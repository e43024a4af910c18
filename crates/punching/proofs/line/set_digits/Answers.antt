-- `punching::line::set_digits`: the digits still to come stand before those that are put.
use mathlib.Core.Path.{◌∙◌}
use native.Mathlib.Omega.{arith}
use lib.Arith.{le-zero}
use lib.ListN.{length-set}
use Rattle.reading.specs.Relation.{digits}
use Rattle.reading.proofs.DigitRows.{digits-length}
use Rattle.punching.proofs.Lines.{put-sets}
use Rattle.punching.proofs.DigitTurns.{digit-put, tenth-small}
use Rattle.punching.proofs.line.set_digits.Goals as goal

pub loop-i-preserved : goal.loop-i-preserved
loop-i-preserved c =
    let l = c.loop-i in
    let some = c.loop-i-test.true in
    (simp length-set l.invariant.0, tenth-small l.i l.rest some l.invariant.1, rw c.row_of.ensures (l.invariant.2 ∙ digit-put l.rows c.args.start l.i l.rest some l.invariant.1))

pub returns : goal.returns
returns c =
    let l = c.loop-i in
    let a = c.args in
    let n = digits-length a.n a.v in
    let put = put-sets a.rows.now a.start (digits a.n a.v) (omega (arith, n, c.requires.0)) in
    rw (rw (le-zero c.loop-i-test.false) at l.invariant.2, n) at put
