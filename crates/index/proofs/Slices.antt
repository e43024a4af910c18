-- Facts about parts of a list.
use Prim.Native.Nat.sub
use Prim.Native.Nat.{ℕ, zero, suc, ◌-◌}
use mathlib.Core.Path.{◌≡◌, sym}
use mathlib.Core.List.{List, [], ◌∷◌}
use native.Mathlib.Omega.{arith}
use lib.ListN.{take, drop}
use lib.Seq.{take-nil, drop-nil}

pub drop-take : {A : Type 0} (j i : ℕ) (l : List A) → drop i (take j l) ≡ take (j - i) (drop i l)
drop-take zero i l = let z : 0 - i ≡ 0 = omega arith in rw z (drop-nil i)
drop-take (suc j) zero l = let z : suc j - 0 ≡ suc j = omega arith in rw z
drop-take (suc j) (suc i) [] = sym (take-nil (suc j - suc i))
drop-take (suc j) (suc i) (x ∷ l) = rw (sub.suc-suc j i) (drop-take j i l)
