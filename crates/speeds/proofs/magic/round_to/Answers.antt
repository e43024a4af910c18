-- `speeds::magic::round_to`: what stands over a multiple of the unit is dropped where it is less than half, and else filled up.
use native.Mathlib.Omega.{arith}
use mathlib.Core.Path.{sym}
use Rattle.speeds.specs.Rounding.{rounded}
use Rattle.speeds.proofs.Tens.{ten-positive}
use Rattle.speeds.proofs.Past.{past-most}
use Rattle.speeds.proofs.Nearest.{nearest-down, nearest-up}
use Rattle.speeds.proofs.magic.round_to.Goals as goal

pub ten-unit-requires : goal.ten-unit-requires
ten-unit-requires c =
    omega (arith, c.count_past.ensures, past-most c.args.s c.args.v 13 (omega arith) (omega arith))

pub nonzero_rem-rest : goal.nonzero_rem-rest
nonzero_rem-rest c = rw c.ten-unit.ensures (ten-positive _)

pub returns-then-rest-unit : goal.returns-then-rest-unit
unfolding rounded
returns-then-rest-unit c =
    rw (← c.count_past.ensures, ← c.ten-unit.ensures)
    (sym (nearest-down c.ten-unit.result c.args.v (omega arith)))

pub returns-else-rest-unit : goal.returns-else-rest-unit
unfolding rounded
returns-else-rest-unit c =
    rw (← c.count_past.ensures, ← c.ten-unit.ensures)
    (sym (nearest-up c.ten-unit.result c.args.v (rw c.ten-unit.ensures (ten-positive _)) (omega arith)))
