-- `lines::closing::put_count` meets its contract: one put behind another.
use Rattle.text.proofs.Puts.{put-more}
use Rattle.lines.proofs.closing.put_count.Goals as goal

pub returns-clause-put : goal.returns-clause-put
returns-clause-put c = put-more c.put_all-at.ensures (put-more c.put_decimal-end.ensures.put c.put.ensures)
