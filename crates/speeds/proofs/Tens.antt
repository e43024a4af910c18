-- Powers of ten: their order is that of their exponents.
use Prim.Native.Nat.{ℕ, ◌+◌, ◌-◌, ◌*◌, ◌^◌, ◌≤◌, ◌<◌}
use mathlib.Core.Path.{◌≡◌, ◌∙◌, ap}
use mathlib.Core.List.{List}
use native.Mathlib.Nat.{one-le-pow, pow-le-pow_right, pow-succ', not-le_of_lt, mul-le-mul}
use native.Mathlib.Decide.{dec_lt}
use native.Mathlib.Omega.{arith}
use lib.Dec.{lit<}
use lib.ListN.{get_or}
use lib.Pow.{pow-add}
use Rattle.rows.proofs.Tabulated.{tab, tab-at}

pub ten-positive : (n : ℕ) → 0 < 10 ^ n
ten-positive n = one-le-pow n 10 (lit< tt)

pub ten-grows : {i j : ℕ} → i ≤ j → 10 ^ i ≤ 10 ^ j
ten-grows h = pow-le-pow_right (lit< tt) h

-- one more in the exponent is ten times as much
pub ten-times : {i j : ℕ} → i < j → 10 * 10 ^ i ≤ 10 ^ j
ten-times {i} {j} h = rw (← pow-succ' 10 i) (ten-grows h)

pub ten-below : {i j : ℕ} → 10 ^ i < 10 ^ j → i < j
ten-below {i} {j} h = elim (dec_lt i j) [ yes l ↦ l | no l ↦ absurd (not-le_of_lt h (ten-grows (omega arith))) ]

-- a power of ten is another, with what is left of the exponent
pub ten-split : {i j : ℕ} → i ≤ j → 10 ^ j ≡ 10 ^ (j - i) * 10 ^ i
ten-split {i} {j} h = ap (λ (n : ℕ). 10 ^ n) (omega arith) ∙ pow-add 10 (j - i) i

pub ten-next : (i j : ℕ) → 10 ^ (i + (j + 1)) ≡ 10 * 10 ^ (i + j)
ten-next i j = ap (λ (n : ℕ). 10 ^ n) (omega arith) ∙ pow-succ' 10 (i + j)

-- a digit in front of at most four others
pub digit-tens : {d n : ℕ} → d ≤ 9 → n ≤ 4 → d * 10 ^ n ≤ 90_000
digit-tens h l = mul-le-mul h (ten-grows l)

-- the table of powers, and what it holds
abbrev pub powers : List ℕ
powers = tab (λ (m : ℕ). 10 ^ m) 0 19

pub power_at : (n : ℕ) → n < 19 → get_or powers n 0 ≡ 10 ^ n
power_at n h = tab-at (λ (m : ℕ). 10 ^ m) 19 n 0 h
