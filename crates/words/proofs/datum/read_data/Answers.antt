-- `words::datum::read_data`: a number that was read has at most 18 digits.
use Prim.Native.Nat.{◌≤◌}
use mathlib.Core.Path.{sym, ap}
use native.Mathlib.Nat.{lt_of_lt_of_le}
use Rattle.speeds.proofs.Tens.{ten-grows}
use Rattle.words.specs.declared.Shape.{Shape}
use Rattle.words.proofs.DigitRun.{figures-below}
use Rattle.words.proofs.Widths.{width-most}
use Rattle.words.proofs.datum.read_data.Goals as goal

pub mean-requires : goal.mean-requires
mean-requires c =
    let most : c.from-shape.result.digits ≤ 18 = rw (ap (λ (s : Shape). s.digits) c.from-shape.ensures) (width-most c.args.kind c.requires) in
    lt_of_lt_of_le (figures-below _ _ _ _ _ _ _ (sym c.in_ok-figures.ensures)) (ten-grows most)
