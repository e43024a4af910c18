-- `followed::read_travel` ends: each turn reads an axis, and begins behind its comma.
use Rattle.std.proofs.Common.{◌-◌, length}
use Rattle.followed.proofs.read_travel.Given as goal

abbrev pub decreases-loop-from : goal.decreases-loop-from
decreases-loop-from l = length l.text - l.from
