-- `salvage::pieces::count_losses`: a loop over the pieces; what is counted and what is to come are all losses.
use Prim.Native.Nat.{◌+◌, ◌-◌, ◌≤◌}
use mathlib.Core.Path.{◌≡◌}
use lib.ListN.{length, drop}
use Rattle.salvage.specs.Pieces.{divided, head_of}
use Rattle.salvage.specs.Saving.{losses, saved_of}
use Rattle.salvage.proofs.pieces.count_losses.Given as goal

abbrev pub invariant-loop-at : goal.invariant-loop-at
invariant-loop-at l = (length (head_of l.tape) ≤ l.at) × (l.at ≤ length l.tape) × (l.lost + length (losses l.fn.usable.format (head_of l.tape) l.at (divided (drop l.at l.tape))) ≡ length (saved_of l.fn.usable.format l.tape).lost) × (l.lost ≤ l.at)

abbrev pub decreases-loop-at : goal.decreases-loop-at
decreases-loop-at l = length l.tape - l.at
