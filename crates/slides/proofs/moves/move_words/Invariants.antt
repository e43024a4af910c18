-- `slides::moves::move_words`: a loop over the words of a block.
use Rattle.slides.proofs.WordTrials.{Trying}
use Rattle.slides.proofs.moves.move_words.Given as goal

abbrev pub invariant-loop-word : goal.invariant-loop-word
invariant-loop-word l = Trying l.rule l.increments l.word-items l.initial.at l.word-index l.at
