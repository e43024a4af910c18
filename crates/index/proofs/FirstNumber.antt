-- The search for the first of some numbers that is the one asked for, step by step.
use mathlib.Core.Path.{◌≡◌, refl}
use mathlib.Core.Bool.{Bool, true, false, not, cond}
use mathlib.Core.List.{List}
use Prim.Native.Nat.{ℕ, ◌+◌, ◌≤◌, ◌<◌}
use native.Mathlib.Numerals.{add-one}
use lib.Dec.{eqb}
use lib.ListN.{length, get_or, drop, drop_of_length-le}
use lib.Seq.{drop-cons}
use borrow.Author.Tests.{eq-eqb, ne_eqb, not-true, not-false}
use Rattle.rows.specs.Answer.{taken, refused}
use Rattle.index.specs.Index.{mark}
use Rattle.index.specs.Finding.{first_at, number_found}

module _ (ns : List ℕ) (q : ℕ) where
  -- ---- from entry n on

  module _ (n : ℕ) where
    pub first-here : n < length ns → get_or ns n 0 ≡ q → first_at q n (drop n ns) ≡ taken n
    unfolding first_at
    first-here l e = rw (drop-cons ns n 0 l, eq-eqb _ _ e)

    pub first-later : n < length ns → (get_or ns n 0 ≡ q → ⊥) → first_at q n (drop n ns) ≡ first_at q (n + 1) (drop (n + 1) ns)
    unfolding first_at
    first-later l e = rw (add-one, drop-cons ns n 0 l, ne_eqb _ _ e)

    pub first-none : length ns ≤ n → first_at q n (drop n ns) ≡ refused 25 0
    unfolding first_at
    first-none l = rw (drop_of_length-le ns {i = n} l)

  -- ---- by whether a block can have the number

  pub mark-found : not (eqb q mark) ≡ false → number_found ns q ≡ refused 25 0
  mark-found e = rw (not-false (eqb q mark) e)

  pub other-found : not (eqb q mark) ≡ true → number_found ns q ≡ first_at q 0 ns
  other-found e = rw (not-true (eqb q mark) e)

  -- where no entry holds it there is none, even for the mark
  pub none_found : first_at q 0 ns ≡ refused 25 0 → number_found ns q ≡ refused 25 0
  none_found e = by (eqb q mark)
    where
      by : (b : Bool) → cond b (refused 25 0) (first_at q 0 ns) ≡ refused 25 0
      by true = refl
      by false = e
