-- What is read says, over the kept rows that a fetched row stands for.
use Rattle.std.specs.Prelude.{ℕ, List}
use Rattle.rows.specs.Kept.{kept_at}
use Rattle.words.specs.Figures.{Behind}
use Rattle.words.specs.Front.{rows_at}
use Rattle.parts.specs.declared.End.{End}
use Rattle.parts.specs.declared.Reach.{Reach}
use Rattle.parts.specs.Items.{Standing, stops, out, at}

abbrev pub end_told : List ℕ → End → Behind ℕ
end_told t e = record { value = e.lf; rest = kept_at t e.after }

abbrev pub reach_told : List ℕ → Reach → Standing
reach_told t Reach.Stops = stops
reach_told t (Reach.Out front) = out (rows_at t front)
reach_told t (Reach.At p front) = at p (rows_at t front)
