-- `shorthand::formats::after_star` meets its contract: nothing stands behind "*", or a byte does.
use Rattle.shorthand.proofs.Runs.{from_place}
use Rattle.shorthand.proofs.formats.after_star.Goals as goal

pub returns-then-at-text : goal.returns-then-at-text
returns-then-at-text c = rw (from_place _ _ c.if-at-text.true, c.at.ensures)
