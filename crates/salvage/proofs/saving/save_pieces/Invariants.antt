-- `salvage::saving::save_pieces`: a loop over the pieces, each left as it is to be.
use Prim.Native.Nat.{◌-◌}
use lib.ListN.{length}
use Rattle.salvage.proofs.PieceWalk.{Saves}
use Rattle.salvage.proofs.saving.save_pieces.Given as goal

abbrev pub invariant-loop-at : goal.invariant-loop-at
invariant-loop-at l = Saves l.fn.usable.format l.initial.tape l.initial.firsts l.initial.sizes l.initial.numbers l.tape l.firsts l.sizes l.numbers l.at l.n

abbrev pub decreases-loop-at : goal.decreases-loop-at
decreases-loop-at l = length l.tape - l.at
