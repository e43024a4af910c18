-- `vectors::row_cases::put_kept` is safe and ends.
use Prim.Native.Nat.{◌-◌}
use lib.ListN.{length}
use Rattle.vectors.proofs.row_cases.put_kept.Given as goal

abbrev pub decreases-loop-from : goal.decreases-loop-from
decreases-loop-from l = length l.tape - l.from
