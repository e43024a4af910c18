-- `shorthand::items::judge_item` meets its contract: each way is one test of `stand`.
use mathlib.Core.Path.{◌≡◌, sym, ◌∙◌}
use mathlib.Core.Bool.{true}
use borrow.Author.Tests.{lt-ltb, le-ltb}
use lib.ListN.{drop_of_length-le}
use Rattle.shorthand.specs.Order.{rank}
use Rattle.shorthand.specs.Stand.{dot_fits, stand}
use Rattle.shorthand.proofs.Runs.{from_place}
use Rattle.shorthand.proofs.Stands.{stand-undotted, lacks-at_end, unfit-within}
use Rattle.shorthand.proofs.items.judge_item.Goals as goal
use Rattle.shorthand.proofs.items.judge_item.Goals.{Else-not-dot_fits}

dotted : (c : Else-not-dot_fits)
    → let a = c.args in
    dot_fits a.edition a.dots a.seen.dot ≡ true
dotted c = sym c.dot_fits.ensures ∙ c.if-not-dot_fits.false

pub returns-then-not-dot_fits : goal.returns-then-not-dot_fits
returns-then-not-dot_fits c = rw (stand-undotted _ _ _ _ _ _ (sym c.dot_fits.ensures ∙ c.if-not-dot_fits.true))

pub returns-then-order-lt-LAST : goal.returns-then-order-lt-LAST
unfolding stand rank
returns-then-order-lt-LAST c = rw (c.in_default.is, dotted (goal.at.returns-then-order-lt-LAST c).Else-not-dot_fits, lt-ltb _ _ c.if-order-lt-LAST.true)

pub returns-else-order-lt-LAST : goal.returns-else-order-lt-LAST
unfolding stand rank
returns-else-order-lt-LAST c = rw (c.in_default.is, dotted (goal.at.returns-else-order-lt-LAST c).Else-not-dot_fits, le-ltb _ _ c.if-order-lt-LAST.false)

pub returns-in-Ok : goal.returns-in-Ok
unfolding stand
returns-in-Ok c = rw (c.in-Some.is, dotted (goal.at.returns-in-Ok c).Else-not-dot_fits, ← (c.in-Ok.ensures _))

pub returns-in-Err : goal.returns-in-Err
unfolding stand
returns-in-Err c =
    rw (c.in-Some.is, dotted (goal.at.returns-in-Err c).Else-not-dot_fits, ← (c.in-Err.ensures _), drop_of_length-le _ c.if-text-seen.true) (lacks-at_end _ c.in-Err.unmade)

pub returns-in-Err-2 : goal.returns-in-Err-2
unfolding stand
returns-in-Err-2 c =
    rw (c.in-Some.is, dotted (goal.at.returns-in-Err-2 c).Else-not-dot_fits, ← (c.in-Err.ensures _), from_place _ _ c.if-text-seen.false) (unfit-within _ c.in-Err.unmade _ _)
