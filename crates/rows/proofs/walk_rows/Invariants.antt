-- `rows::walk_rows` meets its contract: from row next on, with what is held, it is answered as the whole tape is.
use mathlib.Core.Path.{◌≡◌}
use Prim.Native.Nat.{◌-◌}
use lib.ListN.{length, drop}
use Rattle.rows.specs.Walk.{held_from}
use Rattle.rows.specs.declared.Held.TheVariants.{Sides}
use Rattle.rows.specs.declared.Side.TheVariants.{Outside}
use Rattle.rows.proofs.walk_rows.Given as goal

abbrev pub invariant-loop-mark : goal.invariant-loop-mark
invariant-loop-mark l = held_from (Sides Outside) 0 l.tape ≡ held_from l.held l.next (drop l.next l.tape)

abbrev pub decreases-loop-mark : goal.decreases-loop-mark
decreases-loop-mark l = length l.tape - l.next
