-- The first row that a test takes, as a split of the rows: there is one or none, and no second split.
use mathlib.Core.Path.{◌≡◌, refl}
use mathlib.Core.Bool.{Bool, true, false}
use mathlib.Core.List.{List, [], ◌∷◌, ◌++◌}
use Prim.Native.Nat.{ℕ, ◌≤◌, zero-le, suc-le-suc}
use native.Mathlib.Omega.{arith}
use lib.ListN.{length}
use Rattle.rows.specs.Passes.{Every}

module _ (f : ℕ → Bool) where
  abbrev pub Missed : List ℕ → Type 0
  Missed r = Every (λ b. f b ≡ false) r

  pub data Splits : List ℕ → Type 0 where
    nowhere : {t : List ℕ} → Missed t → Splits t
    first : (r : List ℕ) (c : ℕ) (u : List ℕ) → Missed r → f c ≡ true → Splits (r ++ (c ∷ u))

  pub splits : (t : List ℕ) → Splits t
  splits [] = nowhere tt
  splits (b ∷ t) = by (f b) refl (splits t)
    where
      by : {u : List ℕ} (x : Bool) → f b ≡ x → Splits u → Splits (b ∷ u)
      by {u} true q s = first [] b u tt q
      by {u} false q (nowhere m) = nowhere {t = b ∷ u} (q, m)
      by false q (first r c u m e) = first (b ∷ r) c u (q, m) e

  clash : {x : Bool} → x ≡ true → x ≡ false → ⊥
  clash p q = let z : ◌≡◌ {A = ℕ} 0 1 = cc in omega arith

  -- rows that the test misses have no first
  pub missed-none : (r u : List ℕ) (c : ℕ) → f c ≡ true → Missed (r ++ (c ∷ u)) → ⊥
  missed-none [] u c e m = clash e m.0
  missed-none (b ∷ r) u c e m = missed-none r u c e m.1

  -- one first
  pub one-first : (r s u v : List ℕ) (c d : ℕ) → Missed r → Missed s → f c ≡ true → f d ≡ true → r ++ (c ∷ u) ≡ s ++ (d ∷ v) → (r ≡ s) × (u ≡ v)
  one-first [] [] u v c d m n p q e = (refl, cc)
  one-first [] (b ∷ s) u v c d m n p q e = let h : c ≡ b = cc in absurd (clash p (rw h n.0))
  one-first (b ∷ r) [] u v c d m n p q e = let h : d ≡ b = cc in absurd (clash q (rw h m.0))
  one-first (b ∷ r) (a ∷ s) u v c d m n p q e =
      let h : b ≡ a = cc in
      let t : r ++ (c ∷ u) ≡ s ++ (d ∷ v) = cc in
      let k = one-first r s u v c d m.1 n.1 p q t in
      (rw (h, k.0), k.1)

  -- it stands no later than any other row that the test takes
  pub first-least : (r s u v : List ℕ) (c d : ℕ) → Missed r → f d ≡ true → r ++ (c ∷ u) ≡ s ++ (d ∷ v) → length r ≤ length s
  first-least [] s u v c d m q e = zero-le
  first-least (b ∷ r) [] u v c d m q e = let h : d ≡ b = cc in absurd (clash q (rw h m.0))
  first-least (b ∷ r) (a ∷ s) u v c d m q e = let t : r ++ (c ∷ u) ≡ s ++ (d ∷ v) = cc in suc-le-suc (first-least r s u v c d m.1 q t)
