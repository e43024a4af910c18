-- `slides::following::step_under`: the block that was found is full.
use mathlib.Core.Path.{sym}
use Rattle.slides.proofs.WordWidths.{found-full}
use Rattle.slides.proofs.following.step_under.Goals as goal

pub move_block-requires-clause-full : goal.move_block-requires-clause-full
move_block-requires-clause-full c = found-full _ c.args.usable.facts _ _ _ _ (sym c.in_ok-found.ensures)
