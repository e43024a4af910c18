-- What a word moves: a dimension with the letter of an axis, and no other word.
use Prim.Native.Nat.{ℕ, ◌≤◌, ◌<◌}
use mathlib.Core.Path.{◌≡◌, refl}
use mathlib.Core.Bool.{Bool, true, false, cond}
use lib.Dec.{ltb}
use lib.IntN.{nat_abs}
use lib.ListN.{length}
use borrow.Author.Tests.{ltb-true}
use Rattle.words.specs.declared.Value.{Value}
use Rattle.words.specs.declared.Value.TheVariants.{Number, Speed, Dimension}
use Rattle.std.specs.Prelude.{Some, None}
use Rattle.slides.specs.declared.Motion.{Motion}
use Rattle.slides.specs.Axes.{axes, farthest}
use Rattle.slides.specs.Moves.{motion_by}
use Rattle.slides.specs.Front.{Near}

-- ---- by the value and the letter

-- ---- of a word that moves an axis

-- the axis is one of the 14, and the value as near as the word's
pub moved-axis : (n : ℕ) (v : Value) (m : Motion) → motion_by n v ≡ Some m → (m.axis < length axes) × (Near v → nat_abs m.value ≤ farthest)
moved-axis n (Number k) m e = cc
moved-axis n (Speed s) m e = cc
moved-axis n (Dimension z) m e = by (ltb n (length axes)) refl e
  where
    by : (b : Bool) → ltb n (length axes) ≡ b → cond b (Some (record { axis = n; value = z })) None ≡ Some m → (m.axis < length axes) × (nat_abs z ≤ farthest → nat_abs m.value ≤ farthest)
    by true q h =
        let same : ◌≡◌ {A = Motion} (record { axis = n; value = z }) m = cc in
        rw (← same) (ltb-true n (length axes) q, λ near. near)
    by false q h = cc
