-- One line more on a page.
use mathlib.Core.Path.{◌≡◌, refl}
use mathlib.Core.Bool.{Bool, true, false, cond}
use mathlib.Core.List.{List, [], ◌∷◌, ◌++◌}
use Prim.Native.Nat.{ℕ}
use lib.ListN.{length, take}
use lib.Seq.{sets, length-sets}
use Rattle.pages.specs.declared.Sheet.{Sheet}
use Rattle.pages.specs.Adding.{fits_in, line_after}

-- a line more, or none, leaves the buffer as long as it was
pub line-after-length : (line : List ℕ) (used : ℕ) (l : List ℕ) (s : Sheet) → length (line_after line used l s) ≡ length l
line-after-length line used l s = by (fits_in used (length l) s)
  where
    by : (b : Bool) → length (cond b (sets l s.bytes (take used line ++ (10 ∷ []))) l) ≡ length l
    by true = length-sets l s.bytes (take used line ++ (10 ∷ []))
    by false = refl
