-- Preferred numbers: the speeds of codes of two digits (documents 004, A.1.2, and 02, 4/12), rates in ten-millionths, and the code of the nearest rate.
use Rattle.std.specs.Prelude.{ℕ, zero, suc, ◌+◌, ◌-◌, ◌*◌, ◌≤◌, Bool, ◌&&◌, cond, List, [], ◌∷◌, eqb, leb, get_or}
use Rattle.rows.specs.Answer.{Answer, taken, refused}
use Rattle.speeds.specs.declared.Speed.{Speed}
use Rattle.speeds.specs.declared.Speed.TheVariants.{Stop, Rapid, Rate}
use Rattle.speeds.specs.Rounding.{NoNearer}

-- the rates of the codes 01 to 98, one behind another, as the table prints them
unfoldable pub rates : List ℕ
rates =
    11_200_000 ∷ 12_500_000 ∷ 14_000_000 ∷ 16_000_000 ∷ 18_000_000 ∷ 20_000_000 ∷ 22_400_000 ∷
    25_000_000 ∷ 28_000_000 ∷ 31_500_000 ∷ 35_500_000 ∷ 40_000_000 ∷ 45_000_000 ∷ 50_000_000 ∷
    56_000_000 ∷ 63_000_000 ∷ 71_000_000 ∷ 80_000_000 ∷ 90_000_000 ∷ 100_000_000 ∷ 112_000_000 ∷
    125_000_000 ∷ 140_000_000 ∷ 160_000_000 ∷ 180_000_000 ∷ 200_000_000 ∷ 224_000_000 ∷ 250_000_000 ∷
    280_000_000 ∷ 315_000_000 ∷ 355_000_000 ∷ 400_000_000 ∷ 450_000_000 ∷ 500_000_000 ∷ 560_000_000 ∷
    630_000_000 ∷ 710_000_000 ∷ 800_000_000 ∷ 900_000_000 ∷ 1_000_000_000 ∷ 1_120_000_000 ∷ 1_250_000_000 ∷
    1_400_000_000 ∷ 1_600_000_000 ∷ 1_800_000_000 ∷ 2_000_000_000 ∷ 2_240_000_000 ∷ 2_500_000_000 ∷ 2_800_000_000 ∷
    3_150_000_000 ∷ 3_550_000_000 ∷ 4_000_000_000 ∷ 4_500_000_000 ∷ 5_000_000_000 ∷ 5_600_000_000 ∷ 6_300_000_000 ∷
    7_100_000_000 ∷ 8_000_000_000 ∷ 9_000_000_000 ∷ 10_000_000_000 ∷ 11_200_000_000 ∷ 12_500_000_000 ∷ 14_000_000_000 ∷
    16_000_000_000 ∷ 18_000_000_000 ∷ 20_000_000_000 ∷ 22_400_000_000 ∷ 25_000_000_000 ∷ 28_000_000_000 ∷ 31_500_000_000 ∷
    35_500_000_000 ∷ 40_000_000_000 ∷ 45_000_000_000 ∷ 50_000_000_000 ∷ 56_000_000_000 ∷ 63_000_000_000 ∷ 71_000_000_000 ∷
    80_000_000_000 ∷ 90_000_000_000 ∷ 100_000_000_000 ∷ 112_000_000_000 ∷ 125_000_000_000 ∷ 140_000_000_000 ∷ 160_000_000_000 ∷
    180_000_000_000 ∷ 200_000_000_000 ∷ 224_000_000_000 ∷ 250_000_000_000 ∷ 280_000_000_000 ∷ 315_000_000_000 ∷ 355_000_000_000 ∷
    400_000_000_000 ∷ 450_000_000_000 ∷ 500_000_000_000 ∷ 560_000_000_000 ∷ 630_000_000_000 ∷ 710_000_000_000 ∷ 800_000_000_000 ∷ []

abbrev pub last_code : ℕ
last_code = 98

-- the rate of code c, from 1 to the last
abbrev pub rate_of : ℕ → ℕ
rate_of c = get_or rates (c - 1) 0

abbrev pub stop_code : ℕ
stop_code = 0

abbrev pub rapid_code : ℕ
rapid_code = 99

-- 00 is stop, 99 rapid, every other code a rate
abbrev pub preferred_speed : ℕ → Speed
preferred_speed c = cond (eqb c stop_code) Stop (cond (eqb c rapid_code) Rapid (Rate (rate_of c)))

-- ---- coding

-- the rate behind that of code c is at least as near to v
abbrev pub next_as_near : ℕ → ℕ → Bool
next_as_near v c = leb (rate_of c + rate_of (c + 1)) (2 * v)

-- from code c up, n codes at most, as long as the next rate is at least as near
unfoldable pub climbed : ℕ → ℕ → ℕ → ℕ
climbed zero v c = c
climbed (suc n) v c = cond (next_as_near v c) (climbed n v (c + 1)) c

-- the code of the rate that is nearest to v, the larger of two equally near
abbrev pub nearest_code : ℕ → ℕ
nearest_code v = climbed (last_code - 1) v 1

-- said as such: no rate of the table is nearer, and of two equally near it is the larger
pub record NearestCode (v c : ℕ) : Type 0 where
  pub some : 1 ≤ c
  pub within : c ≤ last_code
  pub nearest : (b : ℕ) → 1 ≤ b → b ≤ last_code → NoNearer v (rate_of c) (rate_of b)

-- rates under the least or over the most are refused
abbrev pub least_rate : ℕ
least_rate = 11_200_000

abbrev pub most_rate : ℕ
most_rate = 800_000_000_000

-- speed to code of two digits
abbrev pub preferred_code : Speed → Answer ℕ
preferred_code Stop = taken stop_code
preferred_code Rapid = taken rapid_code
preferred_code (Rate v) = cond (leb least_rate v && leb v most_rate) (taken (nearest_code v)) (refused 20 0)
