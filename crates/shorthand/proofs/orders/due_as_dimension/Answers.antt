-- `shorthand::orders::due_as_dimension` meets its contract: the letter's rank says what it is, by the computed law `due-by-rank`.
use Rattle.std.proofs.Common.{arith}
use Rattle.std.proofs.lemmas.Bool.Decides.{nat_tests}
use Rattle.shorthand.proofs.LetterBytes.{due-by-rank}
use Rattle.shorthand.proofs.orders.due_as_dimension.Goals as goal

pub returns-then-rank-order : goal.returns-then-rank-order
returns-then-rank-order c = rw (due-by-rank c.args.order c.ranges.letter.fits, ← c.rank_of-rank.ensures) (grind (arith, nat_tests))

pub returns : goal.returns
returns c = rw (due-by-rank c.args.order c.ranges.letter.fits, ← c.rank_of-rank.ensures, c.is_used.ensures) (grind (arith, nat_tests))
