-- `speeds::coding::exact_code`: the code of the speed, read back, means the speed or not.
use mathlib.Core.Path.{◌≡◌}
use borrow.Author.Rules.{rules}
use Rattle.speeds.proofs.ExactCode.{exact_none, exact-unread, exact_same, exact_other}
use Rattle.speeds.proofs.coding.exact_code.Goals as goal

pub returns-in_default : goal.returns-in_default
returns-in_default c = exact_none _ _ c.in_default.ensures

pub returns-in_default-speed_of : goal.returns-in_default-speed_of
returns-in_default-speed_of c = exact-unread _ _ c.in-Ok.ensures c.in_default-speed_of.ensures

pub returns-then-eq : goal.returns-then-eq
returns-then-eq c = exact_same _ _ c.in-Ok.ensures c.in-Ok-speed_of.ensures (search rules)

pub returns-else-eq : goal.returns-else-eq
returns-else-eq c = let other : c.in-Ok-speed_of.meant ≡ c.args.speed → ⊥ = search rules in exact_other _ _ c.in-Ok.ensures c.in-Ok-speed_of.ensures other
