-- A table that antt computes of a function: its entry at a place below its length is the function's value there.
use mathlib.Core.Path.{◌≡◌, ◌∙◌, sym, ap}
use mathlib.Core.Bool.{Bool, true}
use mathlib.Core.List.{List, [], ◌∷◌}
use Prim.Native.Nat.{ℕ, zero, suc, ◌+◌, ◌<◌}
use native.Mathlib.Nat.{le_of_suc-le-suc, not-suc-le-zero, add-zero, zero-add, add-suc, suc-add}
use lib.ListN.{get_or, replicate, get_or-replicate}

module _ {A : Type 0} (f : ℕ → A) where
  -- f at i and the n - 1 places after it
  abbrev pub tab : ℕ → ℕ → List A
  tab i zero = []
  tab i (suc n) = f i ∷ tab (suc i) n

  from : (i n k : ℕ) (d : A) → k < n → get_or (tab i n) k d ≡ f (i + k)
  from i zero k d h = absurd (not-suc-le-zero h)
  from i (suc n) zero d h = rw add-zero
  from i (suc n) (suc k) d h = from (suc i) n k d (le_of_suc-le-suc h) ∙ ap f (suc-add i k ∙ sym (add-suc i k))

  pub tab-at : (n k : ℕ) (d : A) → k < n → get_or (tab 0 n) k d ≡ f k
  tab-at n k d h = from 0 n k d h ∙ ap f (zero-add k)

-- a test that antt computes to pass at each of n places passes there
pub tab-passes : (f : ℕ → Bool) (n : ℕ) → tab f 0 n ≡ replicate n true → (k : ℕ) → k < n → f k ≡ true
tab-passes f n e k h = sym (tab-at f n k true h) ∙ ap (λ l. get_or l k true) e ∙ get_or-replicate n k true true h
