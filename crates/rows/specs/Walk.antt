-- The walk of the first three stages: what it holds of the rows behind it, and what is answered of those to come.
use Rattle.std.specs.Prelude.{ℕ, ◌+◌, ◌≤◌, ◌<◌, ◌≡◌, Bool, true, false, cond, List, eqb, length, get_or, drop, Option, Some, None, Result, Ok, Err}
use Rattle.rows.specs.Answer.{Answer, refused, ◌>>◌}
use Rattle.rows.specs.Row.{entry}
use Rattle.rows.specs.Stages.{barred, step, unclosed, scan, refuse_at}
use Rattle.rows.specs.declared.Side.{Side}
use Rattle.rows.specs.declared.Side.TheVariants.{Outside, Inside, Spoilt}
use Rattle.rows.specs.declared.Held.{Held}
use Rattle.rows.specs.declared.Held.TheVariants.{Foreign, Fault, Sides}
use Rattle.rows.specs.declared.Mark.{Mark}

-- what is answered of the rows t, counted from i, behind those of which this is held, where none of t is odd: 6 before 7
abbrev pub even_from : Held → ℕ → List ℕ → Answer (Unit {0})
even_from (Foreign p) i t = refused 6 p
even_from (Fault p) i t = refuse_at 6 (barred 6 i t) >> refused 7 p
even_from (Sides m) i t = refuse_at 6 (barred 6 i t) >> refuse_at 7 (scan m i t)

-- 5 before all that is held
abbrev pub held_from : Held → ℕ → List ℕ → Answer (Unit {0})
held_from h i t = refuse_at 5 (barred 5 i t) >> even_from h i t

-- where no row is left
abbrev pub concluded : Held → Answer (Unit {0})
concluded (Foreign p) = refused 6 p
concluded (Fault p) = refused 7 p
concluded (Sides m) = refuse_at 7 (unclosed m)

abbrev pub held_by : Result Side ℕ → Held
held_by (Ok m) = Sides m
held_by (Err p) = Fault p

-- the entry of a row that is not one of the 50: 128 and the refusal's number
abbrev pub is_foreign : ℕ → Bool
is_foreign c = eqb c (128 + 6)

-- what is held behind row i, whose entry c is not odd
abbrev pub held_behind : Held → ℕ → ℕ → Held
held_behind (Foreign p) i c = Foreign p
held_behind (Fault p) i c = cond (is_foreign c) (Foreign i) (Fault p)
held_behind (Sides m) i c = cond (is_foreign c) (Foreign i) (held_by (step m i c))

-- the scan of the control-outs stands inside one
abbrev pub inside : Held → Bool
inside (Foreign p) = false
inside (Fault p) = false
inside (Sides Outside) = false
inside (Sides (Inside o)) = true
inside (Sides (Spoilt o p)) = true

-- from a place on nothing changes what is held up to a row, whose entry is told; or to the end
abbrev pub Marked : List ℕ → Held → ℕ → Option Mark → Type 0
Marked t h at None = held_from h at (drop at t) ≡ concluded h
Marked t h at (Some m) =
    (at ≤ m.place) × (m.place < length t) × (m.entry ≡ entry (get_or t m.place 0)) × (held_from h at (drop at t) ≡ held_from h m.place (drop m.place t))
