-- `speeds::preferred::nearest_code` meets its contract: the climb from the code at hand is the climb from the first.
use mathlib.Core.Path.{sym, ◌∙◌}
use native.Mathlib.Omega.{arith}
use borrow.Author.Rules.{rules}
use Rattle.speeds.proofs.PreferredRates.{sum-most, climb-on, climb-stop, climb-end}
use Rattle.speeds.proofs.preferred.nearest_code.Goals as goal

pub overflow_add-rates : goal.overflow_add-rates
overflow_add-rates c = let m = sum-most _ c.lay_out-rates.ensures 0 _ c.loop-at-test.true in search (rules, m)

pub returns-then-rate-rates : goal.returns-then-rate-rates
returns-then-rate-rates c = sym (c.loop-at.invariant ∙ climb-stop _ c.lay_out-rates.ensures _ _ c.loop-at-test.true c.if-rate-rates.true)

pub loop-at-preserved : goal.loop-at-preserved
loop-at-preserved c = c.loop-at.invariant ∙ climb-on _ c.lay_out-rates.ensures _ _ c.loop-at-test.true c.if-rate-rates.false

pub returns : goal.returns
returns c = sym (c.loop-at.invariant ∙ climb-end _ _ (omega (arith, c.loop-at-test.false)))
