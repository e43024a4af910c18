-- `words::figures::read_stretch`: the run from the start is the run that is left.
use Prim.Native.Nat.{◌-◌, ◌≤◌}
use mathlib.Core.Path.{◌≡◌}
use Rattle.rows.specs.Kept.{kept_at}
use Rattle.words.specs.Figures.{run}
use Rattle.words.proofs.figures.read_stretch.Given as goal

abbrev pub invariant-loop-at : goal.invariant-loop-at
invariant-loop-at l =
    record {
      on : run (l.most - l.fn.before.count) l.fn.before.number l.fn.before.count (kept_at l.tape l.start) ≡ run (l.most - l.digits.count) l.digits.number l.digits.count (kept_at l.tape l.at);
      from : l.fn.before.count ≤ l.digits.count;
      few : l.digits.count ≤ l.most;
    }
