-- How many letters of a list pass a test.
use Prim.Native.Nat.{ℕ, ◌+◌, ◌≤◌, ◌<◌}
use native.Mathlib.Omega.{arith}
use mathlib.Core.Logic.{⊎_elim}
use mathlib.Core.Bool.{Bool, true, false, not, cond}
use mathlib.Core.List.{List, [], ◌∷◌}
use lib.Dec.{T, eqb, eqb→eq}
use Rattle.shorthand.proofs.Tests.{either, holds, fails}
use Rattle.shorthand.proofs.Ranks.{among}

abbrev pub count : (ℕ → Bool) → List ℕ → ℕ
count f [] = 0
count f (c ∷ cs) = cond (f c) 1 0 + count f cs

one-most : (a b : Bool) → (T a → T b) → cond a 1 0 ≤ cond b 1 0
one-most true true h = omega arith
one-most true false h = absurd (h tt)
one-most false true h = omega arith
one-most false false h = omega arith

-- f passes no letter that g does not
module _ (f g : ℕ → Bool) (within : (c : ℕ) → T (f c) → T (g c)) where
  pub count_most : (cs : List ℕ) → count f cs ≤ count g cs
  count_most [] = omega arith
  count_most (d ∷ cs) = omega (arith, one-most (f d) (g d) (within d), count_most cs)

  -- and fewer where one letter passes g alone
  pub count-fewer : (c : ℕ) → T (g c) → T (not (f c)) → (cs : List ℕ) → T (among cs c) → count f cs < count g cs
  count-fewer c p q [] h = absurd h
  count-fewer c p q (d ∷ cs) h =
      ⊎_elim {C = count f (d ∷ cs) < count g (d ∷ cs)}
      (λ t. rw (eqb→eq d c t, fails (f c) q, holds (g c) p) (omega (arith, count_most cs)))
      (λ t. omega (arith, one-most (f d) (g d) (within d), count-fewer c p q cs t))
      (either (eqb d c) (among cs c) h)
