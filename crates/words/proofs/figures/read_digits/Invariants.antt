-- `words::figures::read_digits`: the run from the start is the run that is left.
use Prim.Native.Nat.{◌-◌, ◌≤◌}
use mathlib.Core.Path.{◌≡◌}
use Rattle.words.specs.Figures.{run}
use Rattle.words.specs.Front.{rows_at}
use Rattle.words.proofs.figures.read_digits.Given as goal

abbrev pub invariant-loop-front : goal.invariant-loop-front
invariant-loop-front l =
    record {
      on : run l.most 0 0 (rows_at l.tape l.initial.front) ≡ run (l.most - l.digits.count) l.digits.number l.digits.count (rows_at l.tape l.front);
      few : l.digits.count ≤ l.most;
    }

abbrev pub decreases-loop-front : goal.decreases-loop-front
decreases-loop-front l = l.most - l.digits.count
