-- Two near numbers are added without wrapping.
use Prim.Native.Nat.{ℕ, suc, ◌+◌, ◌-◌, ◌≤◌, ◌<◌, ◌^◌}
use mathlib.Core.Path.{◌≡◌}
use mathlib.Core.Bool.{Bool, true, false, cond}
use native.Mathlib.Omega.{arith}
use lib.Dec.{ltb, lit<}
use lib.IntN.{ℤ, pos, negsuc, nat_abs, ◌+ℤ◌}
use lib.Signed.{mag}
use mir.Syntax.{w64}
use mir.Val.{SFits, to_z, of_z}
use Rattle.slides.specs.Axes.{farthest}
use Rattle.slides.proofs.ReadBack.{seen}

either : (t : Bool) (p q k : ℕ) → p < k → q < k → mag (cond t (negsuc p) (pos q)) < k
either true p q k h g = h
either false p q k h g = g

mag-add : (m n k : ℕ) (x y : ℤ) → nat_abs x ≤ m → nat_abs y ≤ n → m + n < k → mag (x +ℤ y) < k
mag-add m n k (pos a) (pos b) h g s = omega arith
mag-add m n k (pos a) (negsuc b) h g s = either (ltb a (suc b)) (suc b - suc a) (a - suc b) k (omega arith) (omega arith)
mag-add m n k (negsuc a) (pos b) h g s = either (ltb b (suc a)) (suc a - suc b) (b - suc a) k (omega arith) (omega arith)
mag-add m n k (negsuc a) (negsuc b) h g s = omega arith

module _ (x y : ℤ) (hx : SFits w64 x) (hy : SFits w64 y) (near : nat_abs x ≤ farthest) (by : nat_abs y ≤ farthest) where
  fits : SFits w64 (x +ℤ y)
  fits = record { sfits = mag-add farthest farthest (2 ^ 63) x y near by (lit< tt) }

  pub sum-asked : SFits w64 (to_z w64 (of_z w64 x) +ℤ to_z w64 (of_z w64 y))
  sum-asked = rw (seen hx, seen hy) fits

  pub sum-seen : to_z w64 (of_z w64 (to_z w64 (of_z w64 x) +ℤ to_z w64 (of_z w64 y))) ≡ x +ℤ y
  sum-seen = rw (seen hx, seen hy, seen fits)
