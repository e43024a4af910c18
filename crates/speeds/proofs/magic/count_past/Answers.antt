-- `speeds::magic::count_past`: v has one digit more than its logarithm, and none where it is zero.
use Prim.Native.Nat.{◌+◌}
use mathlib.Core.Path.{sym}
use native.Mathlib.Omega.{arith}
use Rattle.speeds.proofs.Tens.{ten-positive}
use Rattle.speeds.proofs.Past.{past_is, past_digits}
use Rattle.speeds.proofs.magic.count_past.Goals as goal

pub returns-in-None : goal.returns-in-None
returns-in-None c =
    sym (past_is c.args.s c.args.v 0 (record { under = omega (arith, ten-positive (c.args.s + 0), c.in-None.ensures.none); over = λ l. absurd (omega arith) }))

pub returns-in-Some : goal.returns-in-Some
returns-in-Some c = past_digits _ _ c.in-Some.n _ c.in-Some.ensures.power_le c.in-Some.ensures.next_power_gt c.saturating_sub.ensures
