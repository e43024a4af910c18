-- What remains of a tape when NUL, DEL and control-outs are taken away, each row with its place (document 01, stage 3).
use Rattle.std.specs.Prelude.{ℕ, suc, ◌+◌, Bool, true, false, ◌||◌, not, cond, List, [], ◌∷◌, drop, eqb, Option, Some, None}
use Rattle.rows.specs.Row.{character}
use Rattle.rows.specs.declared.Turn.{Turn}
use Rattle.rows.specs.declared.Turn.TheVariants.{Keep, Pass}
use Rattle.rows.specs.declared.Kept.{Kept}

-- a kept row: where it stands on the tape, and its character
pub record KeptRow : Type 0 where
  pub place : ℕ
  pub char : ℕ

-- whether the row after c stands inside a control-out: "(" opens, the first ")" closes
abbrev pub within : Bool → ℕ → Bool
within false c = eqb c 40
within true c = not (eqb c 41)

-- a row outside is kept but for NUL, DEL and the opening "("
abbrev pub stays : Bool → ℕ → Bool
stays false c = not (eqb c 0 || eqb c 127 || eqb c 40)
stays true c = false

-- what a walk does at the row c: keep it, or pass it by with the next row inside a control-out or not
abbrev pub turn : Bool → ℕ → Turn
turn w c = cond (stays w c) Keep (Pass (within w c))

-- the kept rows of t, whose first row has the place i and stands inside a control-out or not
unfoldable pub kept_from : Bool → ℕ → List ℕ → List KeptRow
kept_from w i [] = []
kept_from w i (b ∷ t) =
    let rest = kept_from (within w (character b)) (suc i) t in
    cond (stays w (character b)) (record { place = i; char = character b } ∷ rest) rest

-- the kept rows of a tape from the place at on, where at stands outside a control-out
abbrev pub kept_at : List ℕ → ℕ → List KeptRow
kept_at t at = kept_from false at (drop at t)

-- the kept rows of a tape
abbrev pub kept : List ℕ → List KeptRow
kept t = kept_at t 0

-- the first of some kept rows, with the place after it
abbrev pub first_of : List KeptRow → Option Kept
first_of [] = None
first_of (r ∷ rs) = Some (record { character = r.char; place = r.place; after = r.place + 1 })
