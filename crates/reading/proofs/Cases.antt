-- Cases of document 01 and edges of its refusal table, computed by the definitions, as one statement.
use Prim.Native.Nat.{ℕ, ◌+◌}
use Prim.Native.String.{String}
use mathlib.Core.Path.{◌≡◌, refl}
use mathlib.Core.Bool.{cond}
use mathlib.Core.List.{List, [], ◌∷◌, ◌++◌, map}
use lib.Count.{ones}
use Rattle.rows.specs.Answer.{Answer, taken, refused}
use Rattle.rows.specs.Row.{even, entry}
use Rattle.rows.specs.Stages.{lowest, scan, judged}
use Rattle.rows.specs.Kept.{kept_from}
use Rattle.speeds.specs.Meaning.{meaning, speed_for}
use Rattle.shorthand.specs.Order.{rank, due, after}
use Rattle.shorthand.specs.Stand.{digits_of, after_digits, seen, stand, stand_n}
use Rattle.shorthand.specs.Parse.{items_from, parsed_in, parsed}
use Rattle.shorthand.proofs.Cases.{bytes}
use Rattle.profile.specs.Answers as profiles
use Rattle.profile.specs.Answers.{filled, agrees, agreed}
use Rattle.words.specs.Figures.{run, figures}
use Rattle.words.specs.Data.{data_at}
use Rattle.reading.specs.Parse.{words_at, block_at, blocks_at}
use Rattle.parts.specs.Ends.{head_at}
use Rattle.parts.specs.Starts.{start_at}
use Rattle.reading.specs.Answers.{program_at, read, read_under, counted}

pub record Case : Type 0 where
  pub edition : ℕ
  pub shorthand : String
  pub profile : String
  pub tape : String
  pub answer : Answer ℕ

abbrev case : ℕ → String → String → Answer ℕ → Case
case e s t a = record { edition = e; shorthand = s; profile = ""; tape = t; answer = a }

abbrev profiled : ℕ → String → String → String → Answer ℕ → Case
profiled e s p t a = record { edition = e; shorthand = s; profile = p; tape = t; answer = a }

-- a text as rows: the eighth hole where the others are odd
abbrev pub rows : String → List ℕ
rows s = map (λ c. cond (even c) c (c + 128)) (bytes s)

-- document 01's shorthand with tabs, in 1057
abbrev tabbed : String → Answer ℕ → Case
tabbed t a = case 1057 "N3.G2.X+42.F3.M2*" t a

abbrev with_tabs : List Case
with_tabs =
    tabbed "%\nN001\tG01\tX+012500\tF615\n/N002\t\tX-000250\n" (taken 2)
    ∷ tabbed "" (refused 8 0)
    ∷ tabbed "%\n" (taken 0)
    ∷ tabbed "%\r(R)\nN001\n" (taken 1)
    ∷ tabbed "%" (refused 8 1)
    ∷ tabbed "N" (refused 8 0)
    ∷ tabbed "%N" (refused 8 1)
    ∷ tabbed "%\r" (refused 8 2)
    ∷ tabbed "%\rN" (refused 8 1)
    ∷ tabbed "%\nN01\n" (refused 9 5)
    ∷ tabbed "%\nN0011\n" (refused 9 6)
    ∷ tabbed "%\nX001\n" (refused 9 2)
    ∷ tabbed "%\n/\n" (refused 9 3)
    ∷ tabbed "%\n/" (refused 14 3)
    ∷ tabbed "%\nN0" (refused 14 4)
    ∷ tabbed "%\nN001G01\n" (refused 10 6)
    ∷ tabbed "%\nN001\tX+012500\n" (refused 10 7)
    ∷ tabbed "%\nN001\t\t\t\t\t\n" (refused 10 10)
    ∷ tabbed "%\nN001\t\t\t\t\n" (taken 1)
    ∷ tabbed "%\nN001\rN" (refused 10 6)
    ∷ tabbed "%\nN001\r" (refused 14 7)
    ∷ tabbed "%\nN001\tG1\n" (refused 11 9)
    ∷ tabbed "%\nN001\tG012\n" (refused 11 10)
    ∷ tabbed "%\nN001\tG+1\n" (refused 12 8)
    ∷ tabbed "%\nN001\t\tX012500\n" (refused 12 9)
    ∷ tabbed "%\nN001\t\tX" (refused 14 9)
    ∷ tabbed "%\nN001\t\tX+12500\n" (refused 11 15)
    ∷ tabbed "%\nN001\t\tX+0125000\n" (refused 11 16)
    ∷ tabbed "%\nN001\t\tX++12500\n" (refused 11 10)
    ∷ tabbed "%\nN001\t\t\tF605\n" (refused 13 9)
    ∷ tabbed "%\nN001\t\t\tF6055\n" (refused 11 13)
    ∷ tabbed "%\nN001\t\t\tF605" (refused 13 9)
    ∷ tabbed "%\nN001\t\t\tF60" (refused 14 12)
    ∷ tabbed "%\nN001" (refused 14 6)
    ∷ []

-- without tabs, in 2539
abbrev without : List Case
without =
    case 2539 "N3X+420*" "%\nN001X5\n" (taken 1)
    ∷ case 2539 "N3X+420*" "%\nN001X\n" (refused 11 7)
    ∷ case 2539 "N3X42*" "%\nN001X+000001\n" (refused 12 7)
    ∷ case 2539 "N3X+42Y+42*" "%\nN001Y000001X000001\n" (refused 10 13)
    ∷ case 2539 "N3*" "%\nN001\n:002\n/N003\n" (taken 3)
    ∷ []

-- tabs and no addresses, in 2539
abbrev bare : String → Answer ℕ → Case
bare t a = profiled 2539 "N3.G2.X+042.F3*" "LTM110A" t a

abbrev without_addresses : List Case
without_addresses =
    bare "%\nN001\t01\t5\n" (taken 1)
    ∷ bare "%\nN002\t\t-0\n:003\t\t\n" (taken 2)
    ∷ bare "%\nN004\tG01\n" (refused 10 7)
    ∷ bare "%\nN005\t+01\n" (refused 12 7)
    ∷ bare "%\nN006\t\t+\n" (refused 11 9)
    ∷ bare "%\nN007\t\t0000012\n" (refused 11 14)
    ∷ bare "%\nN008\t\t\t605\n" (refused 13 9)
    ∷ bare "%\nN009\t\t\t6055\n" (refused 11 12)
    ∷ bare "%\nN010\t\t\t\t\n" (refused 10 9)
    ∷ bare "%\nN011\t\t5" (refused 14 9)
    ∷ profiled 2539 "N3.X+042*" "LTM110AA" "" (refused 22 7)
    ∷ profiled 2539 "N3.X+042*" "LAM110A" "" (refused 23 0)
    ∷ profiled 1057 "N3.X+042*" "LTM110A" "" (refused 3 2)
    ∷ []

abbrev cases : List Case
cases = with_tabs ++ without ++ without_addresses

pub counts : map (λ c. counted c.edition (bytes c.shorthand) (bytes c.profile) (rows c.tape)) cases ≡ map (λ c. c.answer) cases
unfolding ones entry lowest scan judged kept_from meaning speed_for rank due after digits_of after_digits seen stand stand_n items_from parsed_in parsed filled agrees profiles.profiled agreed run figures data_at words_at start_at block_at head_at blocks_at program_at read read_under
counts = refl
