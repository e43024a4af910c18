-- A number in plain decimal is the fewest digits that hold it; at full length it has zeros in front of them.
use Prim.Native.Nat.{ℕ, zero, suc, ◌+◌, ◌-◌, ◌/◌, ◌%◌, ◌*◌, ◌^◌, ◌≤◌, ◌<◌}
use mathlib.Core.Path.{◌≡◌, refl, ap, sym, ◌∙◌}
use mathlib.Core.List.{[], ◌∷◌, ◌++◌}
use native.Mathlib.Nat.{pow-succ', not-suc-le-zero, le_of_suc-le-suc}
use native.Mathlib.Decide.{dec_lt}
use native.Mathlib.Omega.{arith}
use lib.ListN.{length, length-append}
use borrow.Author.Tests.{lt-ltb, le-ltb}
use Rattle.speeds.proofs.Tens.{ten-positive, ten-grows}
use Rattle.io.specs.Digits.{hex_digit_ascii, last_digits, IsDigitCount}
use Rattle.reading.specs.Relation.{zeros}
use Rattle.text.specs.Text.{decimal_in, decimal, full}

glyph-digit : (v : ℕ) → hex_digit_ascii (v % 10) ≡ 48 + v % 10
glyph-digit v = rw (lt-ltb (v % 10) 10 (omega arith))

-- what more digits than one say: the last but one would be too few
large : (k v : ℕ) → IsDigitCount 10 1 v (suc (suc k)) → 10 * 10 ^ k ≤ v
large k v f = let e : suc (suc k) - 1 ≡ suc k = omega arith in rw (e, pow-succ' 10 k) at (f.2 (omega arith))

fewer : (k v : ℕ) → IsDigitCount 10 1 v (suc (suc k)) → IsDigitCount 10 1 (v / 10) (suc k)
fewer k v f =
    let e : suc k - 1 ≡ k = omega arith in
    (omega arith, omega (arith, rw (pow-succ' 10 (suc k)) at f.1), λ (h : 1 < suc k). rw e (omega (arith, large k v f)))

spelt : (n k v : ℕ) → IsDigitCount 10 1 v k → k ≤ n → last_digits 10 k v ≡ decimal_in n v
unfolding decimal_in
spelt n zero v f h = absurd (not-suc-le-zero f.0)
spelt zero (suc k) v f h = absurd (not-suc-le-zero h)
spelt (suc n) (suc zero) v f h = let e : v % 10 ≡ v = omega (arith, f.1) in rw (lt-ltb v 10 f.1, glyph-digit v, e)
spelt (suc n) (suc (suc k)) v f h =
    rw (le-ltb v 10 (omega (arith, large k v f, ten-positive k)), glyph-digit v) (ap (λ ds. ds ++ ((48 + v % 10) ∷ [])) (spelt n (suc k) (v / 10) (fewer k v f) (le_of_suc-le-suc h)))

-- a number below 2^64 reaches no power of ten past the 19th
reached : (k v : ℕ) → 10 ^ k ≤ v → v < 2 ^ 64 → k < 20
reached k v l h =
    elim (dec_lt k 20) [
      | yes b ↦ b
      | no b ↦ absurd (omega (arith, ten-grows {i = 20} {j = k} (omega arith)))
    ]

-- 20 digits hold every number of 64 bits
pub few : (k v : ℕ) → IsDigitCount 10 1 v k → v < 2 ^ 64 → k ≤ 20
few k v f h =
    elim (dec_lt 1 k) [
      | yes l ↦ omega (arith, reached (k - 1) v (f.2 l) h)
      | no l ↦ omega arith
    ]

pub plain : (k v : ℕ) → IsDigitCount 10 1 v k → v < 2 ^ 64 → last_digits 10 k v ≡ decimal v
plain k v f h = spelt 20 k v f (few k v f h)

-- ---- at full length

pub digits-length : (k v : ℕ) → length (last_digits 10 k v) ≡ k
digits-length zero v = refl
digits-length (suc k) v = rw length-append (omega (arith, digits-length k (v / 10)))

-- zeros in front of the fewest digits
pub filled : (n k v : ℕ) → IsDigitCount 10 1 v k → v < 2 ^ 64 → zeros (n - k) ++ last_digits 10 k v ≡ full n v
filled n k v f h = let e = plain k v f h in let l : length (decimal v) ≡ k = ap length (sym e) ∙ digits-length k v in rw (e, l)
