-- Signed locals are read back as they are.
use Prim.Native.Nat.{◌<◌, ◌^◌}
use mathlib.Core.Path.{◌≡◌, ◌∙◌}
use mathlib.Core.Bool.{Bool}
use lib.IntN.{ℤ}
use lib.Signed.{mag}
use mir.Syntax.{w64}
use mir.Val.{SFits, to_z, of_z}
use mir.ValLaws.{to_z-of_z}
use Rattle.std.specs.Prelude.{Option}
use Rattle.slides.specs.Axes.{unsound}
use Rattle.slides.specs.Moves.{put}
use Rattle.slides.specs.Front.{put_within}

-- what a local reads
pub seen : {z : ℤ} → SFits w64 z → to_z w64 (of_z w64 z) ≡ z
seen {z} h = to_z-of_z w64 z h

held : (z : ℤ) → mag z < 2 ^ 63 → to_z w64 (of_z w64 z) ≡ z
held z h = to_z-of_z w64 z (record { sfits = h })

-- whether an axis can't be followed, asked of three numbers as locals read them
pub unsound-held : (low high z : ℤ) → mag low < 2 ^ 63 → mag high < 2 ^ 63 → mag z < 2 ^ 63
    → unsound (to_z w64 (of_z w64 low)) (to_z w64 (of_z w64 high)) (to_z w64 (of_z w64 z)) ≡ unsound low high z
unsound-held low high z l h p = rw (held low l, held high h, held z p)

-- where a word puts its axis, of numbers as locals read them
pub put-held : (low high z x : ℤ) (adds : Bool) → mag low < 2 ^ 63 → mag high < 2 ^ 63 → mag z < 2 ^ 63 → mag x < 2 ^ 63 → {b : Bool} → b ≡ adds → {p : Option ℤ}
    → p ≡ put_within (to_z w64 (of_z w64 low)) (to_z w64 (of_z w64 high)) (put b (to_z w64 (of_z w64 z)) (to_z w64 (of_z w64 x))) → p ≡ put_within low high (put adds z x)
put-held low high z x adds hl hh hz hx same e = e ∙ rw (same, held low hl, held high hh, held z hz, held x hx)
