-- `speeds::preferred::speed_of`: each case is one of the definition's.
use mathlib.Core.Path.{sym, ap, ◌∙◌}
use native.Mathlib.Omega.{arith}
use lib.Dec.{lit<}
use Rattle.rows.specs.Answer.{taken}
use Rattle.speeds.specs.declared.Speed.TheVariants.{Rate}
use Rattle.speeds.proofs.Answers.{speed-preferred, speed-rate, speed-more-digits}
use Rattle.speeds.proofs.preferred.speed_of.Goals as goal

pub returns-in-0 : goal.returns-in-0
returns-in-0 c = rw c.in-0.is (sym (speed-preferred 0 (lit< tt)))

pub returns-in-99 : goal.returns-in-99
returns-in-99 c = rw c.in-99.is (sym (speed-preferred 99 (lit< tt)))

pub returns-in-1-to-98 : goal.returns-in-1-to-98
returns-in-1-to-98 c = ap (λ n. taken (Rate n)) c.rate_of.ensures ∙ sym (speed-rate _ (omega arith) (omega arith))

pub returns-in_default : goal.returns-in_default
returns-in_default c = sym (speed-more-digits 2 _ (omega arith))
