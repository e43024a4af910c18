-- Gluing: a tape, and behind it another without its head (document 02, 10/12).
use Rattle.std.specs.Prelude.{ℕ, ◌≡◌, List, [], ◌∷◌, ◌++◌}
use Rattle.rows.specs.Row.{character}
use Rattle.rows.specs.Kept.{kept}
use Rattle.rows.specs.ControlOut.{WellFormed}
use Rattle.reading.specs.Relation.{End, chars}

-- "%" and an end
pub data Head : List ℕ → Type 0 where
  head : {e : List ℕ} → End e → Head (37 ∷ e)

-- u is its head h, up to and with the head's LF, and the rows r behind it
pub record Beheaded (u h r : List ℕ) : Type 0 where
  pub split : u ≡ h ++ r
  pub formed : WellFormed h
  pub heads : Head (chars (kept h))
  pub front : List ℕ
  pub lf : ℕ
  pub ends : h ≡ front ++ (lf ∷ [])
  pub feeds : character lf ≡ 10

-- t with u glued behind it
pub data Glued (t u : List ℕ) : List ℕ → Type 0 where
  glued : {h r : List ℕ} → Beheaded u h r → Glued t u (t ++ r)
