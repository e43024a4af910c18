-- Worked examples of the shorthand, proved together. Document 01's own cases are in demands, and all others are run (crates/vectors/stdin).
use Prim.Native.Nat.{ℕ}
use Prim.Native.Char.{code}
use Prim.Native.String.{String, [] as end, ◌∷◌ as ◌then◌}
use mathlib.Core.Path.{◌≡◌, refl}
use mathlib.Core.List.{List, [], ◌∷◌, map}
use Rattle.rows.specs.Answer.{number_of, place_of}
use Rattle.shorthand.specs.Order.{rank, due, after}
use Rattle.shorthand.specs.Stand.{digits_of, after_digits, seen, stand, stand_n}
use Rattle.shorthand.specs.Parse.{items_from, parsed_in, parsed}

pub record Case : Type 0 where
  pub edition : ℕ
  pub text : String
  pub number : ℕ
  pub place : ℕ

abbrev case : ℕ → String → ℕ → ℕ → Case
case e t n p = record { edition = e; text = t; number = n; place = p }

abbrev pub bytes : String → List ℕ
bytes end = []
bytes (c then s) = code c ∷ bytes s

-- annex D's example as in 002 and as printed in 004; then E2, the dots, the order, "*", and what further bytes could mend
abbrev cases : List Case
cases =
    case 1057 "N3.G2.X+42.Y+32.Z31.B33.F3.S3.T2.M2*" 0 0
    ∷ case 1057 "N3.G2.X+42.Y+32.Z31.B33.F2.S2.T2.M2*" 3 23
    ∷ case 2539 "N3.G2.X+42.Y+32.Z31.B33.F2.S2.T2.M2*" 0 0
    ∷ case 2539 "N3.E2.M2*" 2 2
    ∷ case 2539 "N3XD42DD24*" 0 0
    ∷ case 1057 "N3G2*" 3 2
    ∷ case 2539 "N3.G2X42*" 2 5
    ∷ case 2539 "N3.Y42.X42*" 2 6
    ∷ case 2539 "N3*N3*" 2 3
    ∷ case 1057 "N3.X+4" 2 6
    ∷ case 1057 "N4" 3 0
    ∷ case 1057 "N3.I" 3 2
    ∷ case 1057 "N3.X00" 3 2
    ∷ case 2539 "N3.X00" 2 6
    ∷ []

answered : map {B = ℕ × ℕ} (λ c. let a = parsed c.edition (bytes c.text) in (number_of a, place_of a)) cases ≡ map {B = ℕ × ℕ} (λ c. (c.number, c.place)) cases
unfolding parsed parsed_in items_from seen stand stand_n digits_of after_digits rank due after
answered = refl
