-- The lowest row of which something holds, against what a walk found: one or none.
use mathlib.Core.Path.{◌≡◌, refl, ap}
use mathlib.Core.Bool.{Bool, true, false, cond}
use mathlib.Core.List.{List, [], ◌∷◌}
use Prim.Native.Nat.{ℕ, zero, suc, ◌+◌, ◌<◌, zero-le, suc-le-suc}
use native.Mathlib.Nat.{le_of_suc-le-suc, not-suc-le-zero, add-zero, add-suc}
use native.Mathlib.Omega.{arith}
use lib.ListN.{length, get_or}
use Rattle.rows.specs.Stages.{lowest}
use Rattle.rows.specs.Faults.{Lowest, None}
use Rattle.std.specs.Prelude.{Option}
use Rattle.std.specs.Prelude.{None as Nowhere, Some}

-- what was found of the rows of which P holds, counted from i
pub data Finds (P : ℕ → Type 0) (i : ℕ) : Option ℕ → Type 0 where
  nothing : None P → Finds P i Nowhere
  lowest_one : (p : ℕ) → Lowest P p → Finds P i (Some (i + p))

module _ {P : ℕ → Type 0} where
  pub finds-none : {i : ℕ} {x : Option ℕ} → Finds P i x → None P → x ≡ Nowhere
  finds-none (nothing n) h = refl
  finds-none (lowest_one p l) h = absurd (h p l.is)

  pub finds-lowest : {x : Option ℕ} {p : ℕ} → Finds P 0 x → Lowest P p → x ≡ Some p
  finds-lowest {p = p} (nothing n) l = absurd (n p l.is)
  finds-lowest {p = p} (lowest_one q k) l =
      let a = k.least p l.is in
      let b = l.least q k.is in
      ap Some (omega (arith, a, b))

  -- the same rows, k further on
  pub finds-further : {Q : ℕ → Type 0} (i k : ℕ) {x : Option ℕ} → ((q : ℕ) → P q → Q (k + q)) → ((q : ℕ) → Q q → (r : ℕ) × (q ≡ k + r) × P r) → Finds P (i + k) x → Finds Q i x
  finds-further {Q} i k f g (nothing n) = nothing (λ p h. let r = g p h in n r.0 r.2)
  finds-further {Q} i k f g (lowest_one p l) =
      let further : Lowest Q (k + p) = record { is = f p l.is; least = λ q h. let r = g q h in let m = l.least r.0 r.2 in omega (arith, m, r.1) } in
      let at : i + (k + p) ≡ i + k + p = omega arith in
      let found : Finds Q i (Some (i + (k + p))) = lowest_one (k + p) further in
      rw at at found

  -- the same rows in other words
  pub finds-same : {Q : ℕ → Type 0} {i : ℕ} {x : Option ℕ} → ((q : ℕ) → P q → Q q) → ((q : ℕ) → Q q → P q) → Finds P i x → Finds Q i x
  finds-same f g (nothing n) = nothing (λ p h. n p (g p h))
  finds-same f g (lowest_one p l) = lowest_one p (record { is = f p l.is; least = λ q h. l.least q (g q h) })

-- the lowest row that a test takes
module _ (f : ℕ → Bool) where
  abbrev pub Takes : List ℕ → ℕ → Type 0
  Takes t p = (p < length t) × (f (get_or t p 0) ≡ true)

  pub test-finds : (t : List ℕ) (i : ℕ) → Finds (Takes t) i (lowest f i t)
  unfolding lowest
  test-finds [] i = nothing (λ p h. not-suc-le-zero h.0)
  test-finds (b ∷ t) i = by (f b) refl (test-finds t (suc i))
    where
      back : (f b ≡ false) → (q : ℕ) → Takes (b ∷ t) q → (r : ℕ) × (q ≡ 1 + r) × Takes t r
      back e zero h = let z : ◌≡◌ {A = ℕ} 0 1 = cc in absurd (omega arith)
      back e (suc q) h = (q, omega arith, (le_of_suc-le-suc h.0, h.1))

      by : (x : Bool) → f b ≡ x → Finds (Takes t) (suc i) (lowest f (suc i) t) → Finds (Takes (b ∷ t)) i (cond x (Some i) (lowest f (suc i) t))
      by true e s = let found : Finds (Takes (b ∷ t)) i (Some (i + 0)) = lowest_one 0 (record { is = (suc-le-suc zero-le, e); least = λ q h. zero-le }) in rw add-zero at found
      by false e s = finds-further {P = Takes t} {Q = Takes (b ∷ t)} i 1 (λ q h. let next : 1 + q ≡ suc q = omega arith in rw next (suc-le-suc h.0, h.1)) (back e) (rw (add-suc, add-zero) s)
