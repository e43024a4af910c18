-- A tape that the first three stages refuse is not entered.
use mathlib.Core.Path.{◌≡◌}
use mathlib.Core.List.{List}
use Prim.Native.Nat.{ℕ}
use Rattle.rows.specs.Answer.{refused}
use Rattle.rows.specs.Stages.{judged}
use Rattle.parts.specs.Ends.{entered}

pub entered-refused : (t : List ℕ) (n p : ℕ) → judged t ≡ refused n p → entered t ≡ refused n p
unfolding entered
entered-refused t n p e = rw e
