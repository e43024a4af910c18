-- `parts::items::lead_letters`: the letters of the items done so far lead to them.
use mathlib.Core.Path.{refl}
use native.Mathlib.Omega.{arith}
use Rattle.parts.proofs.Leading.{led-none, led-more}
use Rattle.parts.proofs.items.lead_letters.Goals as goal

pub loop-k-init : goal.loop-k-init
loop-k-init c = led-none _ _ refl

pub loop-k-preserved : goal.loop-k-preserved
loop-k-preserved c = led-more _ c.args.usable.facts c.loop-k.invariant c.loop-k-test.true (omega arith)
