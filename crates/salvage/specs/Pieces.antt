-- The pieces of a tape: its rows divided behind each LF row (document 02, 9/12).
use Rattle.std.specs.Prelude.{ℕ, Bool, cond, List, [], ◌∷◌, eqb}
use Rattle.rows.specs.Row.{entry}

-- an LF row: even, with the character LF. Of the 256 rows that is row 10 alone, and its odd twin, row 138, divides nothing
abbrev pub is_lf : ℕ → Bool
is_lf b = eqb (entry b) 10

-- a row before the first of some pieces
abbrev pub on_first : ℕ → List (List ℕ) → List (List ℕ)
on_first b [] = (b ∷ []) ∷ []
on_first b (r ∷ rs) = (b ∷ r) ∷ rs

-- divided behind each LF row: no piece is empty, and all but the last end in it
unfoldable pub divided : List ℕ → List (List ℕ)
divided [] = []
divided (b ∷ t) = cond (is_lf b) ((b ∷ []) ∷ divided t) (on_first b (divided t))

abbrev pub first_in : List (List ℕ) → List ℕ
first_in [] = []
first_in (r ∷ rs) = r

abbrev pub others_in : List (List ℕ) → List (List ℕ)
others_in [] = []
others_in (r ∷ rs) = rs

-- the head runs to the first LF row
abbrev pub head_of : List ℕ → List ℕ
head_of t = first_in (divided t)

-- and the pieces stand behind it
abbrev pub pieces_of : List ℕ → List (List ℕ)
pieces_of t = others_in (divided t)
