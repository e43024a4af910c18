-- The letters and their order: a fact over some letters is one computed test over their list, and none ranks above M.
use Prim.Native.Nat.{ℕ, suc, ◌+◌, ◌≤◌}
use native.Mathlib.Omega.{arith}
use mathlib.Core.Path.{◌≡◌, refl, subst}
use mathlib.Core.Logic.{⊎_elim}
use mathlib.Core.Bool.{Bool, true, false, ◌&&◌, not}
use mathlib.Core.List.{List, [], ◌∷◌}
use lib.Dec.{T, eqb, eqb→eq}
use lib.ListN.{length}
use borrow.Author.Tests.{le-ltb, lt-leb, ltb-false}
use Rattle.shorthand.specs.declared.Order.{Order}
use Rattle.shorthand.specs.Edition.{letters, any_of}
use Rattle.shorthand.specs.Lawful.{axes}
use Rattle.shorthand.specs.Order.{place_in, rank, used, due_in_turn, due_as_feed, due_as_dimension}
use Rattle.shorthand.proofs.Tests.{first, second, either, fails, by-test}

abbrev pub all_of : (ℕ → Bool) → List ℕ → Bool
all_of g [] = true
all_of g (c ∷ cs) = g c && all_of g cs

abbrev pub among : List ℕ → ℕ → Bool
among cs c = any_of (λ d. eqb d c) cs

-- a test that all letters of a list pass is passed by each of them
pub among-is : (g : ℕ → Bool) (cs : List ℕ) → T (all_of g cs) → (c : ℕ) → T (among cs c) → T (g c)
among-is g [] a c h = absurd h
among-is g (d ∷ cs) a c h =
    ⊎_elim {C = T (g c)}
    (λ t. subst (λ (n : ℕ). T (g n)) (eqb→eq d c t) (first (g d) (all_of g cs) a))
    (λ t. among-is g cs (second (g d) (all_of g cs) a) c t)
    (either (eqb d c) (among cs c) h)

-- ---- ranks

pub rank_most : (c : ℕ) → rank c ≤ 22
unfolding rank
rank_most c = place-most letters 0
  where
    place-most : (ls : List ℕ) (i : ℕ) → place_in ls (suc i) c ≤ i + length ls
    place-most [] i = omega arith
    place-most (l ∷ ls) i = by-test (λ (n : ℕ). n ≤ i + suc (length ls)) (eqb c l) (λ h. omega arith) (λ h. let k = place-most ls (suc i) in omega arith)

-- behind M nothing is due
module _ (o : Order) (h : T (not (due_in_turn o 77))) where
  at_end : 22 ≤ o.last
  unfolding rank
  at_end = ltb-false o.last 22 (fails (due_in_turn o 77) h)

  pub none-in-turn : (c : ℕ) → due_in_turn o c ≡ false
  none-in-turn c = let m = rank_most c in let l = at_end in le-ltb o.last (rank c) (omega (arith, m, l))

  pub none-as-feed : (c : ℕ) → due_as_feed o c ≡ false
  none-as-feed c = rw (lt-leb o.last 19 (let l = at_end in omega (arith, l)))

  pub none-as-dimension : (c : ℕ) → due_as_dimension o c ≡ false
  none-as-dimension c = rw (none-in-turn c) (by (any_of (λ d. eqb d c) axes))
    where
      by : (b : Bool) → (b && false && not (used o c)) ≡ false
      by true = refl
      by false = refl
