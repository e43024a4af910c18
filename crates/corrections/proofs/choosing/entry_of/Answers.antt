-- `corrections::choosing::entry_of`: one of the master's entries, or one of the new ones behind them.
use Prim.Native.Nat.{◌<◌}
use mathlib.Core.Path.{◌∙◌, sym, ap}
use native.Mathlib.Omega.{arith}
use lib.ListN.{length}
use Rattle.rows.specs.Answer.{taken, refusal}
use Rattle.corrections.proofs.Listings.{listed-master}
use Rattle.corrections.proofs.NewEntries.{step-new, step-old, listed-found, listed-ended}
use Rattle.corrections.proofs.choosing.entry_of.Goals as goal
use Rattle.corrections.proofs.choosing.entry_of.Goals.{then-is_new+else-left-eq0, else-is_new}

pub returns-then-n-masters : goal.returns-then-n-masters
returns-then-n-masters g c = ap taken c.master_entry.ensures ∙ sym (listed-master _ _ _ (omega (arith, c.if-n-masters.true, c.count-masters.ensures)))

pub returns-then-left-eq0 : goal.returns-then-left-eq0
returns-then-left-eq0 g c =
    listed-found _ _ _ (omega (arith, c.if-n-masters.false, c.count-masters.ensures)) c.loop-block.invariant (omega (arith, c.loop-block-test.true, c.count-block-end.ensures)) c.is_new.ensures
    c.if-is_new.true c.if-left-eq0.true

pub loop-block-preserved : goal.loop-block-preserved
loop-block-preserved g c =
    let seen = c.loop-block.invariant in
    let some : c.loop-block.block < length (g.N.Numbers.numbers c.args.correction.now) = omega (arith, c.loop-block-test.true, c.count-block-end.ensures) in
    elim c.if-is_new.branch [
      | then-is_new+else-left-eq0 w ↦ rw w.left-is (step-new _ _ _ _ seen some c.is_new.ensures w.if-is_new.true w.if-left-eq0.false)
      | else-is_new w ↦ rw w.left-is (step-old _ _ _ _ seen some c.is_new.ensures w.if-is_new.false)
    ]

pub returns : goal.returns
returns g c =
    ap refusal c.at.ensures
    ∙ listed-ended _ _ _ (omega (arith, c.if-n-masters.false, c.count-masters.ensures)) c.loop-block.invariant (omega (arith, c.loop-block-test.false, c.count-block-end.ensures))
