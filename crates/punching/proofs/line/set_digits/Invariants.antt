-- `punching::line::set_digits`: the digits still to come stand before those that are put.
use Prim.Native.Nat.{◌^◌, ◌<◌}
use mathlib.Core.Path.{◌≡◌}
use mathlib.Core.List.{map}
use lib.ListN.{length}
use lib.Seq.{sets}
use Rattle.reading.specs.Relation.{digits}
use Rattle.punching.specs.Rows.{row_of}
use Rattle.punching.proofs.line.set_digits.Given as goal

abbrev pub invariant-loop-i : goal.invariant-loop-i
invariant-loop-i l =
    (length l.rows ≡ length l.initial.rows) × (l.rest < 10 ^ l.i) × (sets l.initial.rows l.start (map row_of (digits l.n l.v)) ≡ sets l.rows l.start (map row_of (digits l.i l.rest)))
