-- `slides::moves::choose`: a loop over the words of a block.
use Rattle.slides.proofs.WordChoices.{choose-on, choose-end}
use Rattle.slides.proofs.moves.choose.Goals as goal

pub loop-word-preserved : goal.loop-word-preserved
loop-word-preserved c = choose-on _ _ _ c.loop-word.invariant c.loop-word-test.true _ _ c.chosen_by-chosen.ensures

pub returns : goal.returns
returns c = rw c.if-not-chooses.false (choose-end _ _ _ c.loop-word.invariant c.loop-word-test.false)
