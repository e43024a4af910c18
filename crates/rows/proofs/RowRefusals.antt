-- The first three stages refuse by 4 to 7 exactly where the relation on rows says so.
use Prim.Native.Nat.{ℕ, ◌≤◌, ◌<◌}
use native.Mathlib.Nat.{zero-add}
use native.Mathlib.Omega.{arith}
use mathlib.Core.Path.{◌≡◌, refl}
use mathlib.Core.Logic.{◌↔◌}
use mathlib.Core.Bool.{Bool, true, false, cond}
use mathlib.Core.List.{List, ◌∷◌, ◌++◌}
use lib.Dec.{T, eqb, ltb}
use lib.ListN.{length, get_or, length-append}
use borrow.Author.Tests.{lt-ltb, le-ltb, ltb-true, ltb-false}
use Rattle.rows.specs.Row.{even, entry}
use Rattle.rows.specs.Stages.{limit, barred, scan, refuse_at, judged}
use Rattle.rows.specs.Answer.{taken, refused, ◌>>◌}
use Rattle.rows.specs.Faults.{Fault, stray, unclosed, inside, behind_row, behind_remark, Odd, Foreign, None, RowRefusal, long, odd, foreign, fault}
use Rattle.std.specs.Prelude.{Option}
use Rattle.rows.specs.declared.Side.TheVariants.{Outside}
use Rattle.rows.proofs.Outcomes.{Holds, refusal, value, of-refused}
use Rattle.rows.proofs.Entry.{even-entry, known-entry}
use Rattle.rows.proofs.LowestRows.{Finds, nothing, lowest_one, finds-none, finds-lowest, finds-same, test-finds}
use Rattle.rows.proofs.Faults.{scan-finds}

-- a test whose failing is something true takes a row exactly where that is not so
module _ (x y : Bool) (is : (x ≡ false) ↔ T y) where
  taken_not : x ≡ true → y ≡ false
  taken_not e = by y refl
    where
      by : (b : Bool) → y ≡ b → b ≡ false
      by true q = let f = is.1 (rw q tt) in let z : ◌≡◌ {A = ℕ} 0 1 = cc in absurd (omega arith)
      by false q = refl

  not_taken : y ≡ false → x ≡ true
  not_taken e = by x refl
    where
      by : (b : Bool) → x ≡ b → b ≡ true
      by true q = refl
      by false q = absurd (rw e at (is.0 q))

module _ (t : List ℕ) where
  odd-finds : Finds (Odd t) 0 (barred 5 0 t)
  odd-finds =
      finds-same (λ p h. (h.0, taken_not _ _ (even-entry (get_or t p 0)) h.1)) (λ p h. (h.0, not_taken _ _ (even-entry (get_or t p 0)) h.1))
      (test-finds (λ b. eqb (entry b) 133) t 0)

  all-even : None (Odd t) → (p : ℕ) → p < length t → T (even (get_or t p 0))
  all-even n p h = by (even (get_or t p 0)) refl
    where
      by : (b : Bool) → even (get_or t p 0) ≡ b → T b
      by true q = tt
      by false q = n p (h, q)

  foreign-finds : None (Odd t) → Finds (Foreign t) 0 (barred 6 0 t)
  foreign-finds n =
      finds-same (λ p h. (h.0, taken_not _ _ (known-entry (get_or t p 0) (all-even n p h.0)) h.1))
      (λ p h. (h.0, not_taken _ _ (known-entry (get_or t p 0) (all-even n p h.0)) h.1)) (test-finds (λ b. eqb (entry b) 134) t 0)

  -- 7 and nothing else is left
  third : length t ≤ limit → None (Odd t) → None (Foreign t) → {x : Option ℕ} → Finds (Fault t) 0 x → Holds (RowRefusal t) (λ u. Unit {0}) (refuse_at 7 x)
  third l o f (nothing n) = value tt
  third l o f (lowest_one p k) = rw zero-add (refusal (fault l o f k))

  second : length t ≤ limit → None (Odd t) → {x : Option ℕ} → Finds (Foreign t) 0 x → Holds (RowRefusal t) (λ u. Unit {0}) (refuse_at 6 x >> refuse_at 7 (scan Outside 0 t))
  second l o (nothing n) = third l o n (scan-finds t)
  second l o (lowest_one p k) = rw zero-add (refusal (foreign l o k))

  first : length t ≤ limit → {x : Option ℕ} → Finds (Odd t) 0 x → Holds (RowRefusal t) (λ u. Unit {0}) (refuse_at 5 x >> refuse_at 6 (barred 6 0 t) >> refuse_at 7 (scan Outside 0 t))
  first l (nothing n) = second l n (foreign-finds n)
  first l (lowest_one p k) = rw zero-add (refusal (odd l k))

  pub row-refusals : Holds (RowRefusal t) (λ u. Unit {0}) (judged t)
  unfolding judged
  row-refusals = by (ltb limit (length t)) refl
    where
      by : (b : Bool) → ltb limit (length t) ≡ b
          → Holds (RowRefusal t) (λ u. Unit {0}) (◌>>◌ {A = Unit {0}} (cond b (refused 4 limit) (taken tt)) (refuse_at 5 (barred 5 0 t) >> refuse_at 6 (barred 6 0 t) >> refuse_at 7 (scan Outside 0 t)))
      by true q = refusal (long (ltb-true limit (length t) q))
      by false q = first (ltb-false limit (length t) q) odd-finds

  refusal-judged : {n p : ℕ} → RowRefusal t n p → judged t ≡ refused n p
  unfolding judged
  refusal-judged (long l) = rw (lt-ltb limit (length t) l)
  refusal-judged (odd l k) = rw (le-ltb limit (length t) l, finds-lowest odd-finds k)
  refusal-judged (foreign l o k) = rw (le-ltb limit (length t) l, finds-none odd-finds o, finds-lowest (foreign-finds o) k)
  refusal-judged (fault l o f k) = rw (le-ltb limit (length t) l, finds-none odd-finds o, finds-none (foreign-finds o) f, finds-lowest (scan-finds t) k)

  -- refused by that number at that place where, and only where, the table calls for it
  pub refused-exactly : (n p : ℕ) → (judged t ≡ refused n p) ↔ RowRefusal t n p
  refused-exactly n p = (λ e. of-refused row-refusals e, refusal-judged)

-- a row at fault is a row of the tape
pub fault-row : {t : List ℕ} {p : ℕ} → Fault t p → p < length t
fault-row (stray k) = omega arith
fault-row (unclosed k n) = omega arith
fault-row (inside r b s c t k m q n f) = omega (arith, length-append r (b ∷ (s ++ (c ∷ t))))
fault-row (behind_row k f) = let l = fault-row f in omega (arith, l)
fault-row (behind_remark r c {t = t} k m n f) = let l = fault-row f in omega (arith, l, length-append r (c ∷ t))
