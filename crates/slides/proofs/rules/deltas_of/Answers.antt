-- `slides::rules::deltas_of`: a loop over the axes that stores whether each has a "D" item.
use Rattle.slides.proofs.RuleItems.{fill-goes-on}
use Rattle.slides.proofs.rules.deltas_of.Goals as goal

pub loop-a-preserved : goal.loop-a-preserved
loop-a-preserved c = fill-goes-on _ c.loop-a.invariant c.loop-a-test.true c.is_delta.ensures
