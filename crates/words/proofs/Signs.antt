-- Which rows are signs.
use Prim.Native.Nat.{ℕ}
use mathlib.Core.Path.{◌≡◌}
use mathlib.Core.Logic.{◌⊎◌, inl, inr}
use mathlib.Core.Bool.{true}
use Rattle.words.specs.Figures.{is_sign}

pub sign : (c : ℕ) → (c ≡ 43) ⊎ (c ≡ 45) → is_sign c ≡ true
sign c (inl e) = rw e
sign c (inr e) = rw e
