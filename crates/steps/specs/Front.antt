-- What a cursor and a step say, over the kept rows that a fetched row stands for.
use Rattle.std.specs.Prelude.{ℕ, List}
use Rattle.words.specs.Front.{rows_at}
use Rattle.steps.specs.declared.Cursor.{Cursor}
use Rattle.steps.specs.declared.Step.{Step}
use Rattle.steps.specs.Steps.{Spot, Moved}

abbrev pub spot_told : List ℕ → Cursor → Spot
spot_told t c = record { stage = c.stage; item = c.item; empty = c.empty; rows = rows_at t c.front }

abbrev pub step_told : List ℕ → Step → Moved
step_told t s = record { event = s.event; spot = spot_told t s.cursor }
