-- `slides::rules::deltas_of`: a loop over the axes that stores whether each has a "D" item.
use Rattle.slides.specs.Moves.{is_delta}
use Rattle.slides.proofs.RuleItems.{Filled}
use Rattle.slides.proofs.rules.deltas_of.Given as goal

abbrev pub invariant-loop-a : goal.invariant-loop-a
invariant-loop-a l = Filled (is_delta l.usable.format) l.deltas l.a
