-- A test that antt computes over a range of numbers, or over a list, holds of each of them.
use Prim.Native.Nat.{ℕ, zero, suc, ◌+◌, ◌-◌, ◌≤◌, ◌<◌}
use mathlib.Core.Path.{◌≡◌}
use mathlib.Core.Bool.{Bool, true, ◌&&◌}
use mathlib.Core.Logic.{⊎_elim}
use mathlib.Core.List.{List, [], ◌∷◌}
use native.Mathlib.Nat.{add-zero, add-suc, suc-add, le_of_suc-le-suc, not-suc-le-zero}
use native.Mathlib.Omega.{arith}
use lib.Dec.{T, eqb, eqb→eq}
use Rattle.shorthand.specs.Edition.{any_of}
use Rattle.shorthand.proofs.Tests.{first, second, either}
use Rattle.shorthand.proofs.Ranks.{all_of}

module _ (g : ℕ → Bool) where
  -- i and the n - 1 numbers after it
  unfoldable pub all_from : ℕ → ℕ → Bool
  all_from i zero = true
  all_from i (suc n) = g i && all_from (suc i) n

  from : (i n k : ℕ) → T (all_from i n) → k < n → T (g (i + k))
  unfolding all_from
  from i zero k a h = absurd (not-suc-le-zero h)
  from i (suc n) zero a h = rw add-zero (first (g i) _ a)
  from i (suc n) (suc k) a h = rw (add-suc, ← suc-add) (from (suc i) n k (second (g i) _ a) (le_of_suc-le-suc h))

  pub in-range : (i n k : ℕ) → T (all_from i n) → i ≤ k → k < i + n → T (g k)
  in-range i n k a l h = let e : i + (k - i) ≡ k = omega arith in rw e at (from i n (k - i) a (omega arith))

  pub in_list : (l : List ℕ) (c : ℕ) → T (all_of g l) → T (any_of (λ x. eqb x c) l) → T (g c)
  in_list [] c a h = absurd h
  in_list (x ∷ l) c a h =
      ⊎_elim (λ t. rw (eqb→eq x c t) at (first (g x) (all_of g l) a)) (λ t. in_list l c (second (g x) (all_of g l) a) t) (either (eqb x c) (any_of (λ y. eqb y c) l) h)
