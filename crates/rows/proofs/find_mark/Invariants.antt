-- `rows::find_mark` meets its contract: from row i on, with what is held, it is answered as from the given place on.
use mathlib.Core.Path.{◌≡◌}
use lib.ListN.{drop}
use Rattle.rows.specs.Walk.{inside, held_from}
use Rattle.rows.specs.declared.Held.{Held}
use Rattle.rows.proofs.find_mark.Given as goal

abbrev pub invariant-loop-i : goal.invariant-loop-i
invariant-loop-i l = (h : Held) → inside h ≡ l.every → held_from h l.at (drop l.at l.tape) ≡ held_from h l.i (drop l.i l.tape)
