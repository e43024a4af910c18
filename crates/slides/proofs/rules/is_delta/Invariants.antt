-- `slides::rules::is_delta`: a loop over the items to the first "D" item of the letter.
use Rattle.slides.proofs.RuleItems.{Unmet}
use Rattle.slides.proofs.rules.is_delta.Given as goal

abbrev pub invariant-loop-item : goal.invariant-loop-item
invariant-loop-item l = Unmet l.letter l.item-items l.item-index
