-- The first entry that holds a number: it holds it, none before it does, and where none is found none does.
use Prim.Native.Nat.{ℕ, zero, suc, ◌+◌, ◌<◌}
use mathlib.Core.Path.{◌≡◌, refl, sym, ap, ◌∙◌}
use mathlib.Core.Bool.{Bool, true, false}
use mathlib.Core.List.{List, [], ◌∷◌}
use native.Mathlib.Nat.{le_of_suc-le-suc, not-suc-le-zero, add-zero, add-suc, suc-add}
use native.Mathlib.Omega.{arith}
use lib.Dec.{eqb}
use lib.ListN.{length, get_or}
use borrow.Author.Tests.{eqb-true, eqb-false, eq-eqb}
use Rattle.rows.specs.Answer.{Answer, taken, refused}
use Rattle.reading.proofs.Outcomes.{never}
use Rattle.index.specs.Index.{mark}
use Rattle.index.specs.Finding.{first_at, number_found}

-- entry j is the first that holds q
pub record First (q : ℕ) (ns : List ℕ) (j : ℕ) : Type 0 where
  pub within : j < length ns
  pub holds : get_or ns j mark ≡ q
  pub before : (i : ℕ) → i < j → get_or ns i mark ≡ q → ⊥

-- no entry holds q
abbrev pub None : ℕ → List ℕ → Type 0
None q ns = (i : ℕ) → i < length ns → get_or ns i mark ≡ q → ⊥

-- what a search from entry i on finds
data Search (q i : ℕ) (ns : List ℕ) : Type 0 where
  at : (j : ℕ) → First q ns j → first_at q i ns ≡ taken (i + j) → Search q i ns
  nowhere : None q ns → first_at q i ns ≡ refused 25 0 → Search q i ns

module _ (q : ℕ) where
  behind : (n i : ℕ) (ns : List ℕ) → eqb n q ≡ false → first_at q i (n ∷ ns) ≡ first_at q (suc i) ns
  unfolding first_at
  behind n i ns e = rw e

  first-is : (n i : ℕ) (ns : List ℕ) → n ≡ q → first_at q i (n ∷ ns) ≡ taken i
  unfolding first_at
  first-is n i ns e = rw (eq-eqb n q e)

  one_on : (n i : ℕ) (ns : List ℕ) → eqb n q ≡ false → Search q (suc i) ns → Search q i (n ∷ ns)
  one_on n i ns e (at j f r) =
      at (suc j) (record { within = omega (arith, f.within); holds = f.holds; before = earlier }) (behind n i ns e ∙ r ∙ ap taken (rw (add-suc, ← suc-add)))
    where
      earlier : (k : ℕ) → k < suc j → get_or (n ∷ ns) k mark ≡ q → ⊥
      earlier zero l h = eqb-false n q e h
      earlier (suc k) l h = f.before k (le_of_suc-le-suc l) h
  one_on n i ns e (nowhere f r) = nowhere none (behind n i ns e ∙ r)
    where
      none : (k : ℕ) → k < suc (length ns) → get_or (n ∷ ns) k mark ≡ q → ⊥
      none zero l h = eqb-false n q e h
      none (suc k) l h = f k (le_of_suc-le-suc l) h

  search-from : (i : ℕ) (ns : List ℕ) → Search q i ns
  unfolding first_at
  search-from i [] = nowhere (λ k l h. not-suc-le-zero l) refl
  search-from i (n ∷ ns) = by (eqb n q) refl (search-from (suc i) ns)
    where
      by : (b : Bool) → eqb n q ≡ b → Search q (suc i) ns → Search q i (n ∷ ns)
      by true e s =
          at 0 (record { within = omega arith; holds = eqb-true n q e; before = λ k l h. not-suc-le-zero l }) (first-is n i ns (eqb-true n q e) ∙ ap taken (sym (add-zero i)))
      by false e s = one_on n i ns e s

-- what is found of a number
pub data Found (q : ℕ) (ns : List ℕ) : Type 0 where
  at : (j : ℕ) → (q ≡ mark → ⊥) → First q ns j → number_found ns q ≡ taken j → Found q ns
  nowhere : ((q ≡ mark → ⊥) → None q ns) → number_found ns q ≡ refused 25 0 → Found q ns

pub look : (q : ℕ) (ns : List ℕ) → Found q ns
look q ns = by (eqb q mark) refl (search-from q 0 ns)
  where
    plain : eqb q mark ≡ false → {a : Answer ℕ} → first_at q 0 ns ≡ a → number_found ns q ≡ a
    plain e r = rw e r

    by : (b : Bool) → eqb q mark ≡ b → Search q 0 ns → Found q ns
    by true e s = nowhere (λ other. absurd (other (eqb-true q mark e))) (rw e)
    by false e (Search.at j f r) = at j (eqb-false q mark e) f (plain e (r ∙ ap taken (omega arith)))
    by false e (Search.nowhere f r) = nowhere (λ other. f) (plain e r)

-- found at j: it is the first, and no mark
pub found_first : (q : ℕ) (ns : List ℕ) {j : ℕ} → number_found ns q ≡ taken j → (q ≡ mark → ⊥) × First q ns j
found_first q ns {j} e = by (look q ns)
  where
    by : Found q ns → (q ≡ mark → ⊥) × First q ns j
    by (Found.at k other f r) = let z : taken k ≡ taken j = sym r ∙ e in let same : k ≡ j = cc in (other, rw (← same) f)
    by (Found.nowhere f r) = never (sym r ∙ e)
