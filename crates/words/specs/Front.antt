-- The parsers' answers in code: the kept rows that a fetched row stands for, what a kind allows, and what is read.
use Rattle.std.specs.Prelude.{ℕ, Bool, false, List, [], ◌∷◌, Option, Some, None}
use Rattle.rows.specs.Kept.{KeptRow, kept_at}
use Rattle.rows.specs.declared.Kept.{Kept}
use Rattle.shorthand.specs.declared.Kind.{Kind}
use Rattle.shorthand.specs.Layout.{width, missing_of, sign_of}
use Rattle.words.specs.declared.Shape.{Shape}
use Rattle.words.specs.declared.Digits.{Digits}
use Rattle.words.specs.declared.Read.{Read}
use Rattle.words.specs.Figures.{Behind, is_digit, Run, may_stand, may_miss}

-- the row that was fetched and the kept rows behind it
abbrev pub rows_at : List ℕ → Option Kept → List KeptRow
rows_at t None = []
rows_at t (Some r) = record { place = r.place; char = r.character } ∷ kept_at t r.after

-- a digit was fetched
abbrev pub digit_front : Option Kept → Bool
digit_front None = false
digit_front (Some r) = is_digit r.character

-- what was read, and the kept rows behind it
abbrev pub read_told : {A : Type 0} → List ℕ → Read A → Behind A
read_told t r = record { value = r.value; rest = rows_at t r.front }

-- the same of digits
abbrev pub run_told : List ℕ → Read Digits → Run
run_told t r = record { number = r.value.number; count = r.value.count; rest = rows_at t r.front }

-- what a kind allows behind the address
abbrev pub shape_of : Kind → Shape
shape_of k = record { stands = may_stand (sign_of k); misses = may_miss (sign_of k); missing = missing_of k; digits = width k }
