-- `shorthand::formats::read_items` meets its contract: the loop keeps `Walked`, and each way out of it gives the answer of the walk.
use Prim.Native.Nat.{◌-◌}
use lib.ListN.{length, drop}
use Rattle.shorthand.specs.Parse.{opening, items_from}
use Rattle.shorthand.proofs.Walk.{Walked}
use Rattle.shorthand.proofs.formats.read_items.Given as goal

abbrev pub invariant-loop-at : goal.invariant-loop-at
invariant-loop-at l = Walked l.edition l.sequence l.text (items_from (length l.text) l.edition (opening l.sequence l.start) (drop l.start l.text)) l.format l.dots l.order l.at

abbrev pub decreases-loop-at : goal.decreases-loop-at
decreases-loop-at l = length l.text - l.at
