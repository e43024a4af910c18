-- `text::put_all` meets its contract: a part of the line is overwritten.
use Rattle.text.proofs.Puts.{put_part}
use Rattle.std.proofs.Common.{refl}
use Rattle.text.proofs.put_all.Goals as goal

pub returns : goal.returns
returns c = put_part _ _ _ _ _ c.requires c.copy_from_slice.ensures.after refl
