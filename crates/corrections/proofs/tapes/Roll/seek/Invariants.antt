-- `corrections::tapes::Roll::seek`: a loop over the blocks to the first that has the number.
use Rattle.corrections.proofs.Seeking.{Seeks}
use Rattle.corrections.proofs.tapes.Roll.seek.Given as goal

abbrev pub invariant-loop-block : goal.invariant-loop-block
invariant-loop-block l = Seeks l.self.usable.format l.self.tape.now l.self.rolls l.q l.block l.from
