-- `slides::following::follow_blocks`: a loop over the blocks to block n.
use Rattle.slides.proofs.Followings.{Following}
use Rattle.slides.proofs.following.follow_blocks.Given as goal

abbrev pub invariant-loop-k : goal.invariant-loop-k
invariant-loop-k l = Following l.usable.format l.tape l.rule l.n l.k l.from l.slides
