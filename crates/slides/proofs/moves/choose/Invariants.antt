-- `slides::moves::choose`: a loop over the words of a block.
use Rattle.slides.proofs.WordChoices.{Choosing}
use Rattle.slides.proofs.moves.choose.Given as goal

abbrev pub invariant-loop-word : goal.invariant-loop-word
invariant-loop-word l = Choosing l.word-items l.old l.word-index l.chosen
