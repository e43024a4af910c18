-- `shorthand::pieces::see_item` meets its contract: the item goes on behind its dot, and its mark and digits are read at places.
use native.Mathlib.Omega.{arith}
use borrow.Author.Tests.{eq-eqb, ne_eqb}
use Rattle.shorthand.proofs.Stands.{Fronts, front-dotted, front-plain, sees-nothing, sees-item}
use Rattle.shorthand.proofs.pieces.see_item.Goals as goal
use Rattle.shorthand.proofs.pieces.see_item.Goals.{Joined-dot, then-dot, else-dot}

front : (c : Joined-dot) → Fronts c.args.text.now c.args.at c.if-dot.front
front c =
    let t = c.args.text.now in
    let at = c.args.at in
    elim c.if-dot.branch [ then-dot w ↦ rw w.front-is (front-dotted t at c.requires (eq-eqb _ 46 w.if-dot.true)) | else-dot w ↦ rw w.front-is (front-plain t at c.requires (ne_eqb _ 46 w.if-dot.false)) ]

pub returns-then-text-front : goal.returns-then-text-front
returns-then-text-front c =
    let f = front (goal.at.returns-then-text-front c).Joined-dot in
    record { dot = f.dot; stands = λ e dots o. rw (sees-nothing f c.if-text-front.true, f.dot); behind = omega arith; within = f.within }

pub returns : goal.returns
returns c =
    let f = front (goal.at.returns c).Joined-dot in
    let mark = c.read_mark-mark in
    let run = c.read_digits-digits in
    record {
      dot = f.dot;
      stands = rw f.dot (sees-item f (omega arith) mark.result run.result mark.ensures.mark mark.ensures.after run.ensures.digits run.ensures.after);
      behind = omega (arith, f.behind, mark.ensures.after.behind, run.ensures.after.behind);
      within = omega (arith, mark.ensures.after.within, run.ensures.after.within);
    }
