-- `shorthand::orders::rank_reached` meets its contract: each way is one case of `reached`.
use Rattle.shorthand.specs.Order.{rank}
use Rattle.shorthand.proofs.orders.rank_reached.Goals as goal

pub returns-in-70 : goal.returns-in-70
unfolding rank
returns-in-70 c = rw (c.in-Speed.is, c.in-70.is)
