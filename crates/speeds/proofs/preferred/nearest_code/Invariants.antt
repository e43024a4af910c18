-- `speeds::preferred::nearest_code` meets its contract: the climb from the code at hand is the climb from the first.
use Prim.Native.Nat.{◌+◌, ◌-◌}
use mathlib.Core.Path.{◌≡◌}
use Rattle.speeds.specs.Preferred.{climbed, nearest_code}
use Rattle.speeds.proofs.preferred.nearest_code.Given as goal

abbrev pub invariant-loop-at : goal.invariant-loop-at
invariant-loop-at l = nearest_code l.rate ≡ climbed (97 - l.at) l.rate (l.at + 1)
