-- One piece of a tape where it stands (spoken of by private functions alone).
use Rattle.std.specs.Prelude.{ℕ, cond, List, eqb, drop}
use Rattle.rows.specs.Answer.{number_of}
use Rattle.shorthand.specs.declared.Format.{Format}
use Rattle.reading.specs.Survey.{alone}
use Rattle.salvage.specs.Pieces.{head_of}

-- the piece that begins at a row
abbrev pub piece_at : List ℕ → ℕ → List ℕ
piece_at t at = head_of (drop at t)

-- the number of its refusal, or 0
abbrev pub alone_at : Format → List ℕ → ℕ → ℕ
alone_at f t at = number_of (alone f (piece_at t at))

-- how many losses a number makes
abbrev pub losses_by : ℕ → ℕ
losses_by n = cond (eqb n 0) 0 1

abbrev pub lost_at : Format → List ℕ → ℕ → ℕ
lost_at f t at = losses_by (alone_at f t at)
