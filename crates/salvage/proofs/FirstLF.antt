-- Where the first piece ends, by where the first LF row was found.
use Prim.Native.Nat.{ℕ, suc, ◌+◌, ◌<◌}
use mathlib.Core.Path.{◌≡◌, refl, ap, ◌∙◌}
use mathlib.Core.Bool.{Bool, true, false, not, cond}
use mathlib.Core.List.{List, [], ◌∷◌}
use native.Mathlib.Decide.{dec_lt}
use native.Mathlib.Omega.{arith}
use lib.Dec.{eqb, ltb}
use lib.ListN.{length, get_or}
use borrow.Author.Tests.{lt-ltb, le-ltb}
use Rattle.std.specs.Prelude.{Some, None, position, ◌==◌}
use Rattle.std.specs.List.{position_or_len}
use Rattle.salvage.specs.Pieces.{is_lf, on_first, divided, first_in, head_of}
use Rattle.salvage.proofs.Dividing.{first-longer, lf-row}

abbrev place : List ℕ → ℕ
place t = position_or_len (λ b. b == 10) t

-- how long the first piece of n rows is, its LF being at i
abbrev long : ℕ → ℕ → ℕ
long i n = cond (ltb i n) (suc i) n

long-suc : (i n : ℕ) → suc (long i n) ≡ long (suc i) (suc n)
long-suc i n =
    elim (dec_lt i n) [
      | yes h ↦ rw (lt-ltb i n h, lt-ltb (suc i) (suc n) (omega arith))
      | no h ↦ rw (le-ltb i n (omega arith), le-ltb (suc i) (suc n) (omega arith))
    ]

head-long : (t : List ℕ) → ((i : ℕ) → get_or t i 0 < 256) → length (head_of t) ≡ long (place t) (length t)
unfolding divided
head-long [] h = refl
head-long (b ∷ t) h = by (eqb b 10) (lf-row b (h 0)) (head-long t (λ i. h (suc i)))
  where
    by : (x : Bool) → is_lf b ≡ x → length (head_of t) ≡ long (place t) (length t)
        → length (first_in (cond (is_lf b) ((b ∷ []) ∷ divided t) (on_first b (divided t)))) ≡ long (cond (not x) (1 + place t) 0) (suc (length t))
    by true e r = rw (e, lt-ltb 0 (suc (length t)) (omega arith))
    by false e r = let z : 1 + place t ≡ suc (place t) = omega arith in rw (e, z) (first-longer b (divided t) ∙ ap suc r ∙ long-suc (place t) (length t))

module _ (t : List ℕ) (h : (i : ℕ) → get_or t i 0 < 256) where
  pub lf-found : (k : ℕ) → position (λ b. b == 10) t ≡ Some k → length (head_of t) ≡ k + 1
  lf-found k e = head-long t h ∙ by (ltb (place t) (length t)) e
    where
      by : (x : Bool) → cond x (Some (place t)) None ≡ Some k → cond x (suc (place t)) (length t) ≡ k + 1
      by true q = let i : place t ≡ k = cc in omega (arith, i)
      by false q = let z : ◌≡◌ {A = ℕ} 0 1 = cc in absurd (omega (arith, z))

  pub lf-missed : position (λ b. b == 10) t ≡ None → length (head_of t) ≡ length t
  lf-missed e = head-long t h ∙ by (ltb (place t) (length t)) e
    where
      by : (x : Bool) → cond x (Some (place t)) None ≡ None → cond x (suc (place t)) (length t) ≡ length t
      by true q = let z : ◌≡◌ {A = ℕ} 0 1 = cc in absurd (omega (arith, z))
      by false q = refl
