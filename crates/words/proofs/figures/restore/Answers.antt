-- `words::figures::restore`: the number with all its zeros has n digits, so it fits.
use mathlib.Core.List.{[]}
use native.Mathlib.Nat.{lt_of_lt_of_le}
use native.Mathlib.Omega.{arith}
use Rattle.speeds.proofs.Tens.{ten-grows}
use Rattle.shorthand.specs.declared.Missing.TheVariants.{Trailing}
use Rattle.words.proofs.DigitRun.{restored-below}
use Rattle.words.proofs.figures.restore.Goals as goal

pub overflow_mul-result : goal.overflow_mul-result
overflow_mul-result c =
    let digits = c.args.digits in
    let below = restored-below Trailing c.args.n (record { number = digits.number; count = digits.count; rest = [] }) (record { few = c.requires.0; small = digits.small }) in
    rw c.ten.ensures (omega (arith, lt_of_lt_of_le below (ten-grows c.requires.1)))
