-- Laws of the lowest row that a test takes.
use mathlib.Core.Path.{◌≡◌, refl, ap, ◌∙◌}
use mathlib.Core.Bool.{Bool, true, false, cond}
use mathlib.Core.List.{List, [], ◌∷◌}
use Prim.Native.Nat.{ℕ, zero, suc, ◌+◌, ◌<◌, zero-le, suc-le-suc}
use native.Mathlib.Nat.{le_of_suc-le-suc, not-suc-le-zero, add-zero, zero-add, add-suc, suc-add}
use native.Mathlib.Omega.{arith}
use lib.ListN.{length, get_or}
use Rattle.rows.specs.Stages.{lowest}
use Rattle.rows.specs.Passes.{Every}
use Rattle.std.specs.Prelude.{None, Some}

module _ (f : ℕ → Bool) where
  from : (t : List ℕ) (i k : ℕ) → k < length t → f (get_or t k 0) ≡ true → ((j : ℕ) → j < k → f (get_or t j 0) ≡ false) → lowest f i t ≡ Some (i + k)
  unfolding lowest
  from [] i k h e l = absurd (not-suc-le-zero h)
  from (b ∷ t) i zero h e l = rw (e, add-zero)
  from (b ∷ t) i (suc k) h e l =
      rw (l zero (suc-le-suc zero-le), add-suc) (from t (suc i) k (le_of_suc-le-suc h) e (λ j g. l (suc j) (suc-le-suc g)) ∙ ap Some (suc-add i k))

  -- the first row that the test takes is the lowest
  pub lowest-first : (t : List ℕ) (k : ℕ) → k < length t → f (get_or t k 0) ≡ true → ((j : ℕ) → j < k → f (get_or t j 0) ≡ false) → lowest f 0 t ≡ Some k
  lowest-first t k h e l = from t 0 k h e l ∙ ap Some (zero-add k)

  -- there is none exactly where the test takes no row
  pub lowest-none : (t : List ℕ) (i : ℕ) → Every (λ b. f b ≡ false) t → lowest f i t ≡ None
  unfolding lowest
  lowest-none [] i all = refl
  lowest-none (b ∷ t) i all = rw all.0 (lowest-none t (suc i) all.1)

  pub none-lowest : (t : List ℕ) (i : ℕ) → lowest f i t ≡ None → Every (λ b. f b ≡ false) t
  unfolding lowest
  none-lowest [] i e = tt
  none-lowest (b ∷ t) i e = missed (f b) refl e (none-lowest t (suc i))
    where
      missed : (x : Bool) → f b ≡ x → cond x (Some i) (lowest f (suc i) t) ≡ None → (lowest f (suc i) t ≡ None → Every (λ c. f c ≡ false) t)
          → (f b ≡ false) × Every (λ c. f c ≡ false) t
      missed true q h rest = let z : ◌≡◌ {A = ℕ} 0 1 = cc in absurd (omega arith)
      missed false q h rest = (q, rest h)
