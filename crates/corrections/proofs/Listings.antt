-- The corrected listing entry by entry: the master's entries, and behind them the new ones.
use Prim.Native.Nat.{ℕ, zero, suc, ◌+◌, ◌-◌, ◌≤◌, ◌<◌}
use mathlib.Core.Path.{◌≡◌, refl, ◌∙◌, ap}
use mathlib.Core.List.{List}
use native.Mathlib.Omega.{arith}
use lib.ListN.{length, get_or}
use Rattle.rows.specs.Answer.{taken}
use Rattle.corrections.specs.declared.Named.{Named}
use Rattle.corrections.specs.Listing.{on_master, entry_for, masters_from, new_from, listing}
use Rattle.corrections.specs.Answers.{nth_named}
use Rattle.corrections.proofs.NthEntry.{counted_behind, nth-first, nth-behind}

module _ (cs ms : List ℕ) where
  masters-length : (k i : ℕ) → length (masters_from cs ms k i) ≡ k
  unfolding masters_from
  masters-length zero i = refl
  masters-length (suc k) i = ap suc (masters-length k (suc i))

  masters-at : (k i j : ℕ) (d : Named) → j < k → get_or (masters_from cs ms k i) j d ≡ entry_for cs ms (i + j)
  unfolding masters_from
  masters-at zero i j d l = absurd (omega (arith, l))
  masters-at (suc k) i zero d l = let e : i ≡ i + 0 = omega arith in ap (entry_for cs ms) e
  masters-at (suc k) i (suc j) d l =
      let e : suc i + j ≡ i + suc j = omega arith in
      masters-at k (suc i) j d (omega (arith, l)) ∙ ap (entry_for cs ms) e

  module _ (n : ℕ) where
    pub listed-master : n < length ms → nth_named n (listing cs ms) ≡ taken (entry_for cs ms n)
    unfolding listing
    listed-master l =
        let e : 0 + n ≡ n = omega arith in
        nth-first n (masters_from cs ms (length ms) 0) (new_from cs ms (length cs) 0) (omega (arith, l, masters-length (length ms) 0))
        ∙ ap taken (masters-at (length ms) 0 n (on_master 0) l ∙ ap (entry_for cs ms) e)

    pub listed-new : length ms ≤ n → nth_named n (listing cs ms) ≡ counted_behind (length ms) (nth_named (n - length ms) (new_from cs ms (length cs) 0))
    unfolding listing
    listed-new l =
        let size = masters-length (length ms) 0 in
        let e : n ≡ length (masters_from cs ms (length ms) 0) + (n - length ms) = omega (arith, l, size) in
        ap (λ m. nth_named m (listing cs ms)) e
        ∙ nth-behind (n - length ms) (masters_from cs ms (length ms) 0) (new_from cs ms (length cs) 0)
        ∙ ap (λ m. counted_behind m (nth_named (n - length ms) (new_from cs ms (length cs) 0))) size
