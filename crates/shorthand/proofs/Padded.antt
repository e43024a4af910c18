-- A list that is filled up to a fixed size, as an array holds it with unused places behind.
use Prim.Native.Nat.{ℕ, suc, ◌-◌, ◌<◌}
use mathlib.Core.Path.{◌≡◌, sym}
use mathlib.Core.List.{List, [], ◌∷◌, ◌++◌}
use native.Mathlib.Omega.{arith}
use lib.ListN.{length, set, replicate, length-append}
use lib.Seq.{append_snoc, set-append_seam}

-- to store behind the last element is to put one element more
pub padded-set : {A : Type 0} (n : ℕ) (d a : A) (xs : List A) → length xs < n
    → set (xs ++ replicate (n - length xs) d) (length xs) a ≡ (xs ++ (a ∷ [])) ++ replicate (n - length (xs ++ (a ∷ []))) d
padded-set n d a xs h =
    let k = n - suc (length xs) in
    let before : n - length xs ≡ suc k = omega arith in
    let after : n - length (xs ++ (a ∷ [])) ≡ k = rw length-append (omega arith) in
    rw (before, after, set-append_seam) (sym (append_snoc xs a (replicate k d)))
