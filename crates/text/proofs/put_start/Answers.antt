-- `text::put_start` meets its contract: one put behind another.
use Rattle.std.proofs.Common.{◌≡◌, cond}
use Rattle.text.proofs.Puts.{put-more}
use Rattle.text.proofs.put_start.Goals as goal
use Rattle.text.proofs.put_start.Goals.{then-begun, else-begun, then-begun-2, else-begun-2}

pub returns-clause-put : goal.returns-clause-put
returns-clause-put c =
    let front : c.if-begun.put ≡ cond c.args.begun.alignment 58 78 = elim c.if-begun.branch [ then-begun w ↦ rw (w.put-is, w.if-begun.true) | else-begun w ↦ rw (w.put-is, w.if-begun.false) ] in
    let end : c.if-begun-2.put ≡ cond c.args.begun.skip 47 45 = elim c.if-begun-2.branch [ then-begun-2 w ↦ rw (w.put-is, w.if-begun-2.true) | else-begun-2 w ↦ rw (w.put-is, w.if-begun-2.false) ] in
    let first = rw front at c.put-at.ensures in
    let last = rw end at c.put.ensures in
    put-more (put-more first c.put-number.ensures) (put-more c.put_sequence-next.ensures.put (put-more c.put-mark.ensures last))
