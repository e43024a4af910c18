-- A speed's code (documents 01, "Coded speeds", refusals 20 and 21, and 02, 4/12).
use Rattle.std.specs.Prelude.{ℕ, ◌+◌, ◌-◌, ◌*◌, ◌/◌, ◌^◌, Bool, true, false, ◌&&◌, cond, eqb, leb, ltb, Option, Some, None}
use Rattle.rows.specs.Answer.{Answer, taken, refused}
use Rattle.speeds.specs.Meaning.{code_length, is_preferred, speed_for}
use Rattle.speeds.specs.Rounding.{past, rounded}
use Rattle.speeds.specs.Preferred.{preferred_code}
use Rattle.speeds.specs.declared.Speed.{Speed}
use Rattle.speeds.specs.declared.Speed.TheVariants.{Stop, Rapid, Rate}

-- the first digit of a rate's code: how many digits of the rate stand past four
abbrev pub power : ℕ → ℕ
power r = past 4 r

-- the code of k digits of a rate that has k - 1 significant digits: its first digit and then those
unfoldable pub written : ℕ → ℕ → ℕ
written k r = power r * 10 ^ (k - 1) + r / 10 ^ (power r + 5 - k)

-- other results under 1,000 or from 10,000,000,000,000 units on are refused
abbrev pub codable : ℕ → Bool
codable r = leb 1_000 r && ltb r 10_000_000_000_000

-- the code of a rounded rate
abbrev pub written_if : ℕ → ℕ → Answer ℕ
written_if k r = cond (codable r) (taken (written k r)) (refused 20 0)

-- magic three: zero is all zeros; rounding to k - 1 significant digits, and only then the first digit; no stop and no rapid
abbrev pub magic_code : ℕ → Speed → Answer ℕ
magic_code k Stop = refused 20 0
magic_code k Rapid = refused 20 0
magic_code k (Rate v) = cond (eqb v 0) (taken 0) (written_if k (rounded (k - 1) v))

-- speed to code: 21, then 20, place 0
unfoldable pub code_for : ℕ → Speed → Answer ℕ
code_for k s = cond (code_length k) (cond (is_preferred k) (preferred_code s) (magic_code k s)) (refused 21 0)

abbrev pub same_speed : Speed → Speed → Bool
same_speed Stop Stop = true
same_speed Stop Rapid = false
same_speed Stop (Rate w) = false
same_speed Rapid Stop = false
same_speed Rapid Rapid = true
same_speed Rapid (Rate w) = false
same_speed (Rate v) Stop = false
same_speed (Rate v) Rapid = false
same_speed (Rate v) (Rate w) = eqb v w

-- what was read is the speed s
abbrev pub reads : Speed → Answer Speed → Bool
reads s (taken t) = same_speed t s
reads s (refused n p) = false

abbrev pub if_means : ℕ → Speed → Answer ℕ → Option ℕ
if_means k s (taken c) = cond (reads s (speed_for k c)) (Some c) None
if_means k s (refused n p) = None

-- the code of k digits that means exactly the speed s, where it has one
unfoldable pub exact_for : ℕ → Speed → Option ℕ
exact_for k s = if_means k s (code_for k s)
