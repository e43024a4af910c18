-- `index::find_number`: a loop over the numbers to the first that is the one asked for.
use mathlib.Core.Path.{◌≡◌}
use lib.ListN.{drop}
use Rattle.index.specs.Finding.{first_at}
use Rattle.index.proofs.find_number.Given as goal

abbrev pub invariant-loop-n : goal.invariant-loop-n
invariant-loop-n l = first_at l.sequence 0 l.numbers ≡ first_at l.sequence l.n (drop l.n l.numbers)
