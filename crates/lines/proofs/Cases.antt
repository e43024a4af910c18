-- Document 01's listing, the edges of its header, and listings under a profile, computed by the definitions, as one statement.
use Prim.Native.Nat.{ℕ}
use Prim.Native.String.{String}
use mathlib.Core.Path.{◌≡◌, refl}
use mathlib.Core.List.{List, [], ◌∷◌, ◌++◌, map}
use lib.Count.{ones}
use Rattle.rows.specs.Row.{entry}
use Rattle.rows.specs.Stages.{lowest, scan, judged}
use Rattle.rows.specs.Kept.{kept_from}
use Rattle.speeds.specs.Meaning.{meaning, speed_for}
use Rattle.shorthand.specs.Order.{rank, due, after}
use Rattle.shorthand.specs.Stand.{digits_of, after_digits, seen, stand, stand_n}
use Rattle.shorthand.specs.Parse.{items_from, parsed_in, parsed}
use Rattle.profile.specs.Answers as profiles
use Rattle.profile.specs.Answers.{filled, agrees, agreed}
use Rattle.words.specs.Figures.{run, figures}
use Rattle.words.specs.Data.{data_at}
use Rattle.reading.specs.Parse.{words_at, block_at, blocks_at}
use Rattle.parts.specs.Ends.{head_at}
use Rattle.parts.specs.Starts.{start_at}
use Rattle.reading.specs.Answers.{program_at, read}
use Rattle.reading.proofs.Cases.{rows}
use Rattle.text.specs.Text.{text, decimal_in}
use Rattle.lines.specs.Listing.{header_found, listed_under, listing}

pub record Case : Type 0 where
  pub profile : String
  pub input : List ℕ
  pub output : String

abbrev case : String → String → String → Case
case header tape output = record { profile = ""; input = text header ++ rows tape; output = output }

abbrev profiled : String → String → String → String → Case
profiled p header tape output = record { profile = p; input = text header ++ rows tape; output = output }

abbrev with_none : List Case
with_none =
    case "1057 N3.G2.X+42.F3.M2*\n" "%\nN001\tG01\tX+012500\tF615\n/N002\t\tX-000250\n" "N 001 - G1 X12500 F1500000000\nN 002 / X-250\nblocks 2\n"
    ∷ case "2539 N4G2X+042T2*\n" "%\n:0007X-5T03\n/N0008(OPEN)G00\r\n" ": 0007 - X-5 T3\nN 0008 / G0\nblocks 2\n"
    ∷ case "1057 N3.G2*\n" "%\n" "blocks 0\n"
    ∷ case "1057 N3.G2*\n" "" "refused 8 0\n"
    ∷ case "1057 N3G2*\n" "%\n" "refused 3 2\n"
    ∷ case "1057N3G2*\n" "%\n" "refused 1 0\n"
    ∷ case "01057 N3.G2*\n" "%\n" "refused 1 0\n"
    ∷ case "1057 N3.G2*" "%" "refused 1 0\n"
    ∷ case "" "" "refused 1 0\n"
    ∷ case "2539 \n" "%\n" "refused 2 0\n"
    ∷ []

-- document 02's tape without addresses, and the profile in its turn
abbrev with_one : List Case
with_one =
    profiled "LTM110A" "2539 N3.G2.X+042*\n" "%\nN001\t01\t5\n" "N 001 - G1 X5\nblocks 1\n"
    ∷ profiled "LTM110A" "2539 N3.G2.X+042*\n" "%\nN002\t\t-0\nN003\t\t\n" "N 002 - X0\nN 003 -\nblocks 2\n"
    ∷ profiled "LTM110A" "2539 N3.G2.X+042*\n" "%\nN004\tG01\n" "refused 10 7\n"
    ∷ profiled "LSM110A" "2539 N3.G2.X+042*\n" "%\nN001\tG01\tX5\n" "N 001 - G1 X5\nblocks 1\n"
    ∷ profiled "LSM110A" "2539 N3.G2.X+042*\n" "%\nN001\t01\t5\n" "refused 10 7\n"
    ∷ profiled "IPM111" "1057 N3.X+42*\n" "%\n" "blocks 0\n"
    ∷ profiled "IPM11" "1057 N3.X+42*\n" "" "refused 22 5\n"
    ∷ profiled "IPM121" "1057 N3.X+42*\n" "" "refused 23 0\n"
    ∷ profiled "IPX111" "1057 N3G2*\n" "%\n" "refused 3 2\n"
    ∷ profiled "LTM110A" "" "" "refused 1 0\n"
    ∷ []

abbrev cases : List Case
cases = with_none ++ with_one

pub listings : map (λ c. listing (text c.profile) c.input) cases ≡ map (λ c. text c.output) cases
unfolding listing header_found listed_under decimal_in agreed profiles.profiled filled agrees parsed parsed_in items_from seen stand stand_n digits_of after_digits rank due after read judged lowest scan entry ones kept_from program_at head_at blocks_at block_at start_at words_at data_at figures run speed_for meaning
listings = refl
