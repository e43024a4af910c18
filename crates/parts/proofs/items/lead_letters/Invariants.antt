-- `parts::items::lead_letters`: the letters of the items done so far lead to them.
use Rattle.parts.proofs.Leading.{Led}
use Rattle.parts.proofs.items.lead_letters.Given as goal

abbrev pub invariant-loop-k : goal.invariant-loop-k
invariant-loop-k l = Led l.usable.format l.leads l.k
