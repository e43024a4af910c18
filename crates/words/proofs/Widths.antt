-- A word of a fair item has 18 digits at most.
use Prim.Native.Nat.{◌≤◌}
use native.Mathlib.Omega.{arith}
use Rattle.shorthand.specs.declared.Kind.{Kind}
use Rattle.shorthand.specs.declared.Kind.TheVariants.{Plain, Speed, Dimension}
use Rattle.shorthand.specs.Layout.{width}
use Rattle.shorthand.specs.Facts.{Widths}

pub width-most : (k : Kind) → Widths k → width k ≤ 18
width-most (Plain n) w = omega arith
width-most (Speed n) w = omega arith
width-most (Dimension d) w = omega arith
