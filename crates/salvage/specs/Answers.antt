-- What a saving hands back and leaves.
use Rattle.std.specs.Prelude.{ℕ, List, map, length}
use Rattle.rows.specs.Answer.{Answer, taken, value_or, ◌>>=◌}
use Rattle.salvage.specs.Saving.{Loss, Saved}

-- how many pieces were overpunched
abbrev pub lost_in : Answer Saved → Answer ℕ
lost_in a = a >>= λ s. taken (length s.lost)

-- the tape afterwards: where it is refused, as it was
abbrev pub rows_after : List ℕ → Answer Saved → List ℕ
rows_after t a = value_or t (a >>= λ s. taken s.rows)

-- what is laid into a list: this of each loss
abbrev pub listed : (Loss → ℕ) → Answer Saved → Answer (List ℕ)
listed what a = a >>= λ s. taken (map what s.lost)
