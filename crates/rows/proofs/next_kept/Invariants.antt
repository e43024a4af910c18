-- `rows::next_kept` meets its contract: the first kept row from row i on, inside a control-out or not, is the first from the given place on.
use mathlib.Core.Path.{◌≡◌}
use lib.ListN.{drop}
use Rattle.rows.specs.Kept.{kept_from, kept_at}
use Rattle.rows.proofs.next_kept.Given as goal

abbrev pub invariant-loop-place : goal.invariant-loop-place
invariant-loop-place l = kept_at l.tape l.at ≡ kept_from l.within l.place (drop l.place l.tape)
