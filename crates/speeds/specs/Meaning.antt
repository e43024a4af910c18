-- What a coded speed means (document 01, "Coded speeds", and 02, 4/12; annex A of ISO 1057). Rates are whole numbers of ten-millionths.
use Rattle.std.specs.Prelude.{ℕ, ◌+◌, ◌-◌, ◌*◌, ◌/◌, ◌%◌, ◌^◌, Bool, ◌&&◌, not, cond, eqb, leb, ltb}
use Rattle.rows.specs.Answer.{Answer, taken, refused}
use Rattle.speeds.specs.declared.Speed.{Speed}
use Rattle.speeds.specs.declared.Speed.TheVariants.{Rate}
use Rattle.speeds.specs.Preferred.{preferred_speed}

-- a code has 2 to 5 digits
abbrev pub code_length : ℕ → Bool
code_length k = leb 2 k && leb k 5

-- two are a preferred number's, three to five magic three's
abbrev pub is_preferred : ℕ → Bool
is_preferred k = eqb k 2

-- of the k digits the first is d
abbrev pub first_digit : ℕ → ℕ → ℕ
first_digit k code = code / 10 ^ (k - 1)

-- and the other k - 1 are the number m
abbrev pub other_digits : ℕ → ℕ → ℕ
other_digits k code = code % 10 ^ (k - 1)

-- the rate is 0.m times ten to the power d - 3: in ten-millionths, m times ten to the power d - 3 - (k - 1) + 7
unfoldable pub meaning : ℕ → ℕ → ℕ
meaning k code = other_digits k code * 10 ^ (first_digit k code + 5 - k)

-- the second digit is zero, and not all are
abbrev pub is_second_zero : ℕ → ℕ → Bool
is_second_zero k code = ltb (other_digits k code) (10 ^ (k - 2)) && not (eqb code 0)

-- magic three: 13, else a rate; all zeros is a rate of zero and no stop
abbrev pub magic_speed : ℕ → ℕ → Answer Speed
magic_speed k code = cond (is_second_zero k code) (refused 13 0) (taken (Rate (meaning k code)))

-- code to speed: 21, then 13, place 0
unfoldable pub speed_for : ℕ → ℕ → Answer Speed
speed_for k code =
    cond (code_length k && ltb code (10 ^ k)) (cond (is_preferred k) (taken (preferred_speed code)) (magic_speed k code)) (refused 21 0)
