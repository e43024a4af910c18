-- `lines::last_line` meets its contract: the line was composed whole, and stands at the buffer's front where it fits.
use Rattle.lines.proofs.Printing.{in-room}
use Rattle.lines.proofs.last_line.Goals as goal

pub returns-clause-buffer : goal.returns-clause-buffer
returns-clause-buffer c = in-room c.put_closing-size.ensures.put c.put_closing-size.ensures.end c.if-buffer-size.false c.put_all.ensures
