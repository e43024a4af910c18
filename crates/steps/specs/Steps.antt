-- One step of a walk over the blocks of a tape: what stands next from where the walk stands, and where it is left.
use Rattle.std.specs.Prelude.{ℕ, ◌+◌, ◌<◌, ◌≡◌, Bool, false, not, cond, List, [], ◌∷◌, ltb}
use Rattle.rows.specs.Answer.{Answer, taken, refused}
use Rattle.rows.specs.Kept.{KeptRow}
use Rattle.shorthand.specs.declared.Item.{Item}
use Rattle.shorthand.specs.Facts.{Widths}
use Rattle.shorthand.specs.Layout.{way_by}
use Rattle.words.specs.declared.Word.{Word}
use Rattle.words.specs.Figures.{Behind}
use Rattle.words.specs.Data.{word_at}
use Rattle.parts.specs.declared.Begun.{Begun}
use Rattle.parts.specs.declared.Rules.{Rules}
use Rattle.steps.specs.declared.Stage.{Stage}
use Rattle.steps.specs.declared.Stage.TheVariants.{Between, Before, Ending}
use Rattle.steps.specs.declared.Cursor.{Cursor}
use Rattle.steps.specs.declared.Event.{Event}
use Rattle.steps.specs.declared.Event.TheVariants.{Finished, Opened, Out, Read, Closed}
use Rattle.parts.specs.Ends.{close_at}
use Rattle.parts.specs.Starts.{start_at}
use Rattle.parts.specs.Items.{Standing, stops, out, at, standing, due_at, bare_by}

-- where a walk stands, the item there, whether the open block is empty, with neither number nor word, and the rows that are left
pub record Spot : Type 0 where
  pub stage : Stage
  pub item : ℕ
  pub empty : Bool
  pub rows : List KeptRow

pub record Moved : Type 0 where
  pub event : Event
  pub spot : Spot

-- between two blocks
abbrev pub between : List KeptRow → Spot
between rs = record { stage = Between; item = 0; empty = false; rows = rs }

-- behind the last item that can be reached
abbrev pub ending : Bool → List KeptRow → Spot
ending empty rs = record { stage = Ending; item = 0; empty = empty; rows = rs }

-- before item k, where there are so many
abbrev pub before : ℕ → Bool → ℕ → List KeptRow → Spot
before items empty k rs = cond (ltb k items) (record { stage = Before; item = k; empty = empty; rows = rs }) (ending empty rs)

-- before the item that is due from item k on, or behind the last of them
abbrev pub going : Rules → List ℕ → Bool → ℕ → List KeptRow → Spot
going u leads empty k rs = before u.items empty (due_at leads u.dots k rs) rs

abbrev pub opens : (Bool → ℕ → List KeptRow → Spot) → Answer (Behind Begun) → Answer Moved
opens on (taken b) = taken (record { event = Opened b.value; spot = on (not b.value.numbered) 0 b.rest })
opens on (refused n p) = refused n p

-- between two blocks: no rows, or the start of the next
abbrev pub open_step : ℕ → Rules → List ℕ → Spot → List KeptRow → Answer Moved
open_step len u leads s [] = taken (record { event = Finished; spot = s })
open_step len u leads s (r ∷ rs) = opens (going u leads) (start_at len u.digits (bare_by u leads) (r ∷ rs))

abbrev pub reads : (Bool → ℕ → List KeptRow → Spot) → Spot → Answer (Behind Word) → Answer Moved
reads on s (taken w) = taken (record { event = Read w.value; spot = on false (s.item + 1) w.rest })
reads on s (refused n p) = refused n p

-- before an item, by how it stands; where it can't be reached, all that follow are left out with it
abbrev pub takes : ℕ → Item → (Bool → ℕ → List KeptRow → Spot) → Spot → Standing → Answer Moved
takes len it on s stops = taken (record { event = Out; spot = ending s.empty s.rows })
takes len it on s (out r) = taken (record { event = Out; spot = on s.empty (s.item + 1) r })
takes len it on s (at a r) = reads on s (word_at len it a r)

-- behind the items: an end
abbrev pub closes_by : Answer (Behind ℕ) → Answer Moved
closes_by (taken e) = taken (record { event = Closed e.value; spot = between e.rest })
closes_by (refused n p) = refused n p

abbrev pub step_by : ℕ → Rules → List ℕ → Item → Spot → Stage → Answer Moved
step_by len u leads it s Between = open_step len u leads s s.rows
step_by len u leads it s Before = takes len it (going u leads) s (standing (way_by u.dots u.addresses) it.letter s.rows)
step_by len u leads it s Ending = closes_by (close_at len s.empty s.rows)

-- one step of a tape of so many rows, under a Format's rules and where its letters lead, with the item there
unfoldable pub step_at : ℕ → Rules → List ℕ → Item → Spot → Answer Moved
step_at len u leads it s = step_by len u leads it s s.stage

-- what a step asks for: all of it holds of a Format that the shorthand gives
pub record Ready (it : Item) (c : Cursor) : Type 0 where
  pub within : c.item < 22
  pub widths : c.stage ≡ Before → Widths it.kind
