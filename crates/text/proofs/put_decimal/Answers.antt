-- `text::put_decimal` meets its contract: the fewest digits that hold a number are those of plain decimal.
use Rattle.std.proofs.Common.{◌∙◌}
use Rattle.text.proofs.Puts.{put_as}
use Rattle.text.proofs.Decimals.{plain}
use Rattle.text.proofs.put_decimal.Goals as goal

pub returns-clause-put : goal.returns-clause-put
returns-clause-put c = put_as (c.decimal-k.ensures.digits ∙ plain _ _ c.decimal-k.ensures.len c.ranges.v.fits) c.put_all.ensures
