-- What taking off the last block leaves: the answer by what the survey told, and the last block's rows overpunched to DEL.
use Prim.Native.Nat.{ℕ, ◌-◌, ◌≤◌, ◌<◌}
use mathlib.Core.Path.{◌≡◌}
use mathlib.Core.List.{List, ◌++◌}
use native.Mathlib.Omega.{arith}
use borrow.Author.Tests.{lt-ltb, le-ltb}
use lib.ListN.{length, take, drop, replicate, length-drop, length-replicate}
use lib.Seq.{length-take-le}
use Rattle.rows.specs.Answer.{Answer, taken, refused}
use Rattle.shorthand.specs.declared.Format.{Format}
use Rattle.reading.specs.declared.Part.{Part}
use Rattle.reading.specs.Survey.{Surveyed, surveyed}
use Rattle.images.specs.Images.{last_for, shrunk, overpunched, buffer_shrunk}

-- ---- the last block, by what the survey told

module _ (f : Format) (t : List ℕ) where
  pub last-refused : (n p : ℕ) → surveyed f t ≡ refused n p → last_for f t ≡ refused n p
  unfolding last_for
  last-refused n p e = rw e

  module _ (x : Surveyed) (e : surveyed f t ≡ taken x) where
    pub last_none : length x.entries ≡ 0 → last_for f t ≡ refused 15 0
    unfolding last_for
    last_none h = rw (e, le-ltb 0 (length x.entries) (omega (arith, h)))

    pub last_some : 0 < length x.entries → last_for f t ≡ taken x
    unfolding last_for
    last_some h = rw (e, lt-ltb 0 (length x.entries) h)

-- ---- the buffer

-- every row of the part that is lent becomes DEL, and the rows around it stay
pub part-rubbed : (l : List ℕ) (x : Part) → x.from ≤ x.to → x.to ≤ length l
    → (rows : List ℕ) → rows ≡ replicate (length (take (x.to - x.from) (drop x.from l))) 255
    → take x.from l ++ (rows ++ drop (x.to - x.from) (drop x.from l)) ≡ overpunched l x
part-rubbed l x h k rows e =
    let long = length-take-le (x.to - x.from) (drop x.from l) (omega (arith, length-drop x.from l)) in rw (e, long, length-replicate)

module _ (l t : List ℕ) (a : Answer Surveyed) where
  -- refused, nothing is changed
  pub stays : (n p : ℕ) → a ≡ refused n p → (refused n p ≡ shrunk t a) × (l ≡ buffer_shrunk l a)
  stays n p e = (rw e, rw e)

  -- the image stays as long, with a block less
  pub shrinks : (x : Surveyed) → a ≡ taken x → (after : List ℕ) → after ≡ overpunched l x.last → (rows n : ℕ) → rows ≡ length t → n ≡ length x.entries
      → (taken (record { rows = rows; blocks = n - 1 }) ≡ shrunk t a) × (after ≡ buffer_shrunk l a)
  shrinks x e after q rows n h k = (rw (e, h, k), rw e q)
