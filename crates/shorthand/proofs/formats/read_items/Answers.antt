-- `shorthand::formats::read_items` meets its contract: the loop keeps `Walked`, and each way out of it gives the answer of the walk.
use Rattle.shorthand.proofs.Walk.{walk_ends, walk-runs-out, Met, walk_meets}
use Rattle.shorthand.proofs.formats.read_items.Goals as goal
use Rattle.shorthand.proofs.formats.read_items.Goals.{After-judge_item}

met : (c : After-judge_item) → Met c.loop-at.invariant c.loop-at-test.true c.see_item-seen.result c.judge_item.result
met c = walk_meets c.loop-at.invariant c.loop-at-test.true c.if-text-at-eq42.false c.see_item-seen.result c.see_item-seen.ensures c.judge_item.result c.judge_item.ensures

pub returns-then-text-at-eq42 : goal.returns-then-text-at-eq42
returns-then-text-at-eq42 c = rw (walk_ends c.loop-at.invariant c.loop-at-test.true c.if-text-at-eq42.true) c.after_star.ensures

pub push_item-format-requires : goal.push_item-format-requires
push_item-format-requires c = (rw c.in-Ok.is at (met (goal.at.push_item-format-requires c).After-judge_item)).0

pub loop-at-preserved : goal.loop-at-preserved
loop-at-preserved c =
    rw (c.push_item-format.ensures, c.order_after-order.ensures) (rw c.in-Ok.is at (met (goal.at.loop-at-preserved c).After-judge_item)).1

pub returns-in-Err-Short : goal.returns-in-Err-Short
returns-in-Err-Short c = rw (c.at.ensures, rw (c.in-Err-Short.is, c.in-Err-Short.field-0-is) at (met (goal.at.returns-in-Err-Short c).After-judge_item))

pub returns-in-Err-Unfit : goal.returns-in-Err-Unfit
returns-in-Err-Unfit c = rw (c.at-in-Err-Unfit.ensures, c.fault.ensures, rw (c.in-Err-Unfit.is, c.in-Err-Unfit.field-0-is) at (met (goal.at.returns-in-Err-Unfit c).After-judge_item))

pub returns : goal.returns
returns c = rw (c.at-2.ensures, walk-runs-out c.loop-at.invariant c.loop-at-test.false)
