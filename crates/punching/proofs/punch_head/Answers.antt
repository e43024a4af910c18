-- `punching::punch_head`: by the room in the buffer.
use borrow.Author.Tests.{le-leb}
use Rattle.punching.proofs.WholeRecords.{head-set}
use Rattle.punching.proofs.punch_head.Goals as goal

pub returns-clause-buffer : goal.returns-clause-buffer
returns-clause-buffer c = rw (le-leb 2 _ c.if-buffer-lt2.false) (head-set c.args.buffer.now c.if-buffer-lt2.false)
