-- How many digits of a number stand past the first s: the one count p for which the number lies between powers of ten.
use Prim.Native.Nat.{ℕ, zero, suc, ◌+◌, ◌-◌, ◌*◌, ◌/◌, ◌^◌, ◌≤◌, ◌<◌}
use mathlib.Core.Path.{◌≡◌, refl, sym}
use mathlib.Core.Bool.{Bool, true, false}
use mathlib.Core.Logic.{⊎_elim}
use native.Mathlib.Nat.{pow-succ', add-suc, add-zero, le_antisymm, eq-zero-or-pos}
use native.Mathlib.Decide.{dec_lt}
use native.Mathlib.Omega.{arith}
use borrow.Author.Tests.{ltb-true, ltb-false}
use lib.Dec.{ltb}
use Rattle.speeds.specs.Rounding.{past_within, past}
use Rattle.speeds.proofs.Tens.{ten-positive, ten-grows, ten-times, ten-below}

-- v has s + p digits, or fewer where p is zero
pub record Past (s v p : ℕ) : Type 0 where
  pub under : v < 10 ^ (s + p)
  pub over : 0 < p → 10 ^ (s + p) ≤ 10 * v

none-past : (s v : ℕ) → v < 10 ^ s → Past s v zero
none-past s v h = record { under = rw add-zero h; over = λ l. absurd (omega arith) }

one_more : (s v p : ℕ) → 10 ^ s ≤ v → Past s (v / 10) p → Past s v (suc p)
one_more s v zero h q =
    record { under = rw (add-suc, pow-succ') (omega arith); over = λ l. rw (add-suc, pow-succ', add-zero) (omega arith) }
one_more s v (suc p) h q =
    record { under = rw (add-suc, pow-succ') (omega arith); over = λ l. rw (add-suc, pow-succ') (omega (arith, q.over (omega arith))) }

-- one step of the search: what the test b of v answers, where q is the count of v's tenth
stepped : (s v q : ℕ) (b : Bool) → ltb v (10 ^ s) ≡ b → (10 ^ s ≤ v → Past s (v / 10) q) → Past s v (elim b [ true ↦ zero | false ↦ suc q ])
stepped s v q true e h = none-past s v (ltb-true v (10 ^ s) e)
stepped s v q false e h = one_more s v q (ltb-false v (10 ^ s) e) (h (ltb-false v (10 ^ s) e))

-- the count that the bounded search finds, where the bound is no less than v
within-past : (n s v : ℕ) → v ≤ n → Past s v (past_within n s v)
unfolding past_within
within-past zero s v h = none-past s v (omega (arith, ten-positive s))
within-past (suc n) s v h =
    stepped s v (past_within n s (v / 10)) (ltb v (10 ^ s)) refl (λ l. within-past n s (v / 10) (omega (arith, ten-positive s)))

pub past-law : (s v : ℕ) → Past s v (past s v)
unfolding past
past-law s v = within-past v s v (omega arith)

-- the count is the only one: a larger one would need a larger v
not-less : (s v : ℕ) {p q : ℕ} → Past s v p → Past s v q → q ≤ p
not-less s v {p} {q} a b =
    elim (dec_lt p q) [ yes l ↦ absurd (more l) | no l ↦ omega arith ]
  where
    more : p < q → ⊥
    more l = omega (arith, a.under, b.over (omega arith), ten-times {i = s + p} {j = s + q} (omega arith))

pub past_is : (s v p : ℕ) → Past s v p → past s v ≡ p
past_is s v p h = le_antisymm (not-less s v h (past-law s v)) (not-less s v (past-law s v) h)

-- where v has at least s digits, it has no fewer than s and those past them
pub past-over : (s v : ℕ) → 10 ^ s ≤ 10 * v → 10 ^ (s + past s v) ≤ 10 * v
past-over s v h =
    ⊎_elim (λ (e : past s v ≡ 0). rw (e, add-zero) h) (λ l. (past-law s v).over l) (eq-zero-or-pos (past s v))

-- a number of n digits has no more than n
pub past-most : (s v n : ℕ) → s ≤ n → v < 10 ^ n → s + past s v ≤ n
past-most s v n l h =
    ⊎_elim (λ (e : past s v ≡ 0). omega arith)
    (λ p. omega (arith, ten-below {i = s + past s v} {j = suc n} (rw pow-succ' (omega (arith, (past-law s v).over p)))))
    (eq-zero-or-pos (past s v))

-- past four digits a speed has at most nine
pub past-digit : (v : ℕ) → v < 10 ^ 13 → past 4 v ≤ 9
past-digit v h = omega (arith, past-most 4 v 13 (omega arith) h)

-- v lies between powers of ten: it has n + 1 digits
pub past_digits : (s v n p : ℕ) → 10 ^ n ≤ v → v < 10 * 10 ^ n → p ≡ n + 1 - s → p ≡ past s v
past_digits s v n p l u e =
    sym (past_is s v p (record { under = omega (arith, top, ten-grows {i = n + 1} {j = s + p} (omega arith)); over = λ h. over h }))
  where
    top : 10 ^ (n + 1) ≡ 10 * 10 ^ n
    top = let h : n + 1 ≡ suc n = omega arith in rw (h, pow-succ' 10 n)

    over : 0 < p → 10 ^ (s + p) ≤ 10 * v
    over h = let same : s + p ≡ n + 1 = omega arith in rw (same, top) (omega arith)
