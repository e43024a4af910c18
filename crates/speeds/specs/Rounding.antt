-- Rounding to significant digits, a half upwards (document 01, "Coded speeds").
use Rattle.std.specs.Prelude.{ℕ, zero, suc, ◌+◌, ◌-◌, ◌*◌, ◌/◌, ◌^◌, ◌≤◌, ◌<◌, ◌≡◌, true, false, ltb}

-- how many decimal digits of v stand past the first s; the first argument bounds the search, and v itself is enough
unfoldable pub past_within : ℕ → ℕ → ℕ → ℕ
past_within zero s v = zero
past_within (suc n) s v = elim (ltb v (10 ^ s)) [ true ↦ zero | false ↦ suc (past_within n s (v / 10)) ]

unfoldable pub past : ℕ → ℕ → ℕ
past s v = past_within v s v

-- v to the nearest multiple of u, a half upwards
abbrev pub nearest : ℕ → ℕ → ℕ
nearest u v = (v + u / 2) / u * u

-- v rounded to s significant digits
unfoldable pub rounded : ℕ → ℕ → ℕ
rounded s v = nearest (10 ^ past s v) v

-- how far two numbers are apart
abbrev pub apart : ℕ → ℕ → ℕ
apart a b = (a - b) + (b - a)

-- w is no nearer to v than r is, and not above r where it is as near
pub record NoNearer (v r w : ℕ) : Type 0 where
  pub close : apart r v ≤ apart w v
  pub upper : apart w v ≡ apart r v → w ≤ r

-- w has at most s significant digits: s figures and then zeros
pub record Significant (s w : ℕ) : Type 0 where
  pub figures : ℕ
  pub zeros : ℕ
  pub few : figures < 10 ^ s
  pub is : w ≡ figures * 10 ^ zeros
