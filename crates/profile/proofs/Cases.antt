-- Worked examples of profiles, proved together: the annexes' own, and both sides of each line of document 02.
use Prim.Native.Nat.{ℕ}
use Prim.Native.String.{String}
use mathlib.Core.Path.{◌≡◌, refl}
use mathlib.Core.Bool.{Bool, true, false}
use mathlib.Core.List.{List, [], ◌∷◌, map}
use Rattle.rows.specs.Answer.{number_of, place_of, value_or}
use Rattle.shorthand.specs.Layout.{empty_format}
use Rattle.shorthand.specs.Order.{rank, due, after}
use Rattle.shorthand.specs.Stand.{digits_of, after_digits, seen, stand, stand_n}
use Rattle.shorthand.specs.Parse.{items_from, parsed_in, parsed}
use Rattle.shorthand.proofs.Cases.{bytes}
use Rattle.profile.specs.Answers.{filled, agrees, profiled, agreed}

pub record Case : Type 0 where
  pub edition : ℕ
  pub text : String
  pub profile : String
  pub number : ℕ
  pub place : ℕ
  pub addresses : Bool

abbrev case : ℕ → String → String → ℕ → ℕ → Case
case e s p n k = record { edition = e; text = s; profile = p; number = n; place = k; addresses = true }

-- taken, and words have no addresses
abbrev tabbed : ℕ → String → String → Case
tabbed e s p = record { edition = e; text = s; profile = p; number = 0; place = 0; addresses = false }

abbrev cases : List Case
cases =
    case 2539 "N3.G2.X+42.Y+32.Z31.B33.F3.S3.T2.M2*" "LSMD442A" 0 0
    ∷ case 2539 "N3.G2.X+42.Y+32.Z31.B33.F3.S3.T2.M2*" "LSMD 442 A" 0 0
    ∷ case 2539 "N3.G2.X+42.Y+32.Z31.F3.S3.T2.M2*" "LSMD442A" 23 0
    ∷ tabbed 2539 "N3.G2.X+042*" "LTM110A"
    ∷ case 2539 "N3.G2.X+042*" "LSM110A" 0 0
    ∷ case 2539 "N3.G2.X+042*" "" 0 0
    ∷ case 1057 "N3.X+42*" "IPM111" 0 0
    ∷ case 1057 "N3.X+42*" "IPM11" 22 5
    ∷ case 1057 "N3.X+42*" "IPX111" 22 2
    ∷ case 1057 "N3.X+42*" "IPM121" 23 0
    ∷ case 1057 "N3.X+42*" "IPM111A" 22 6
    ∷ case 1057 "N3.X+42*" "IPM 111 " 0 0
    ∷ case 1057 "N3.X+42*" "IPM  111" 22 4
    ∷ case 2539 "N3.X42.E3*" "LSM111A" 0 0
    ∷ case 2539 "N3.X42.I42.E42*" "LSMR222B" 0 0
    ∷ case 2539 "N3X42*" "LSM111A" 23 0
    ∷ tabbed 2539 "N3*" "LTM000I"
    ∷ case 2539 "N3.XD42.ID42*" "PSM111I" 0 0
    ∷ case 2539 "N3.XD42.I42*" "PSM111I" 23 0
    ∷ case 2539 "N3.XD42*" "PSM111A" 23 0
    ∷ case 1058 "N3.X+42*" "IPX111" 1 0
    ∷ case 1057 "N3.I42*" "IPX111" 3 2
    ∷ []

-- the number, the place, and whether words have addresses
abbrev answer : Case → ℕ × ℕ × Bool
answer c = let a = agreed c.edition (bytes c.text) (bytes c.profile) in (number_of a, place_of a, (value_or empty_format a).addresses)

answered : map answer cases ≡ map {B = ℕ × ℕ × Bool} (λ c. (c.number, c.place, c.addresses)) cases
unfolding parsed parsed_in items_from seen stand stand_n digits_of after_digits rank due after agreed profiled filled agrees
answered = refl
