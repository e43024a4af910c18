-- Rows that no number of blocks reads: their first block is refused, or what stands behind it is.
use Prim.Native.Nat.{ℕ, zero, suc, ◌+◌, ◌≤◌, ◌<◌}
use native.Mathlib.Omega.{arith}
use mathlib.Core.Path.{◌≡◌}
use mathlib.Core.List.{List, [], ◌∷◌}
use lib.ListN.{length}
use Rattle.rows.specs.Kept.{KeptRow}
use Rattle.shorthand.specs.declared.Format.{Format}
use Rattle.words.specs.Figures.{taking}
use Rattle.reading.specs.Parse.{BlockRead, block_at, blocks_at}
use Rattle.places.proofs.Steady.{Refuses, refuses-bind}

module _ (f : Format) (len : ℕ) where
  abbrev pub Unread : List KeptRow → Type 0
  Unread l = (k from : ℕ) → length l ≤ k → Refuses (blocks_at k len f from l)

  pub block-unread : (rs : List KeptRow) → 0 < length rs → Refuses (block_at len f rs) → Unread rs
  unfolding blocks_at
  block-unread [] some nay k from few = absurd (omega arith)
  block-unread (r ∷ rs) some nay zero from few = absurd (omega arith)
  block-unread (r ∷ rs) some nay (suc k) from few = refuses-bind (block_at len f (r ∷ rs)) _ nay

  pub behind-unread : (rs rest : List KeptRow) (b : BlockRead) → block_at len f rs ≡ taking b rest → length rest < length rs → Unread rest → Unread rs
  unfolding blocks_at
  behind-unread [] rest b e less h k from few = absurd (omega arith)
  behind-unread (r ∷ rs) rest b e less h zero from few = absurd (omega arith)
  behind-unread (r ∷ rs) rest b e less h (suc k) from few = rw e (refuses-bind (blocks_at k len f (b.lf + 1) rest) _ (h k (b.lf + 1) (omega arith)))
