-- The start of a block by what stands at its front: "/" and the row behind it, where it stands.
use mathlib.Core.Path.{◌≡◌, refl}
use mathlib.Core.Bool.{Bool, true, false, cond}
use mathlib.Core.List.{List}
use Prim.Native.Nat.{ℕ}
use Rattle.rows.specs.Kept.{KeptRow}
use Rattle.words.specs.Figures.{fronts, behind}
use Rattle.parts.specs.Starts.{number_at, past_slash, start_at}

module _ (len n : ℕ) (bare : List KeptRow → Bool) (rs : List KeptRow) where
  by-slash : (x : Bool) → number_at len n bare x (cond x (behind rs) rs) ≡ cond x (number_at len n bare true (behind rs)) (number_at len n bare false rs)
  by-slash true = refl
  by-slash false = refl

  pub slashed : number_at len n bare (fronts 47 rs) (past_slash rs) ≡ start_at len n bare rs
  unfolding start_at
  slashed = by-slash (fronts 47 rs)
