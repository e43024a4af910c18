-- `speeds::preferred::code_of`: each case is one of the definition's.
use mathlib.Core.Path.{sym, ap, ◌∙◌}
use native.Mathlib.Omega.{arith}
use Rattle.rows.specs.Answer.{taken}
use Rattle.speeds.proofs.PreferredRates.{first-rate, last-rate}
use Rattle.speeds.proofs.Answers.{code-preferred, rate-too-slow, rate-too-fast, rate-taken}
use Rattle.speeds.proofs.preferred.code_of.Goals as goal

pub returns-then-rate-rate_of : goal.returns-then-rate-rate_of
returns-then-rate-rate_of c = rw c.in-Rate.is (sym (rate-too-slow _ (omega (arith, c.if-rate-rate_of.true, c.rate_of.ensures ∙ first-rate))))

pub returns-then-rate_of-rate : goal.returns-then-rate_of-rate
returns-then-rate_of-rate c = rw c.in-Rate.is (sym (rate-too-fast _ (omega (arith, c.if-rate_of-rate.true, c.rate_of-in-Rate.ensures ∙ last-rate))))

pub nearest_code-requires : goal.nearest_code-requires
nearest_code-requires c = omega (arith, c.if-rate_of-rate.false, c.rate_of-in-Rate.ensures ∙ last-rate)

pub returns-in-Stop : goal.returns-in-Stop
returns-in-Stop c = rw c.in-Stop.is (sym (code-preferred _))

pub returns-in-Rapid : goal.returns-in-Rapid
returns-in-Rapid c = rw c.in-Rapid.is (sym (code-preferred _))

pub returns-else-rate_of-rate : goal.returns-else-rate_of-rate
returns-else-rate_of-rate c =
    rw c.in-Rate.is (ap taken c.nearest_code.ensures ∙ sym (rate-taken _ (omega (arith, c.if-rate-rate_of.false, c.rate_of.ensures ∙ first-rate))
    (omega (arith, c.if-rate_of-rate.false, c.rate_of-in-Rate.ensures ∙ last-rate))))
