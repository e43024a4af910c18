-- Rows put into a buffer: what an image of its first rows is then, and the rows beside them, which stay.
use Prim.Native.Nat.{ℕ, ◌+◌, ◌-◌, ◌≤◌, ◌<◌}
use mathlib.Core.Path.{◌≡◌, refl, sym, ap, ◌∙◌}
use mathlib.Core.Logic.{◌⊎◌, inl, inr}
use mathlib.Core.List.{List, ◌++◌}
use native.Mathlib.Decide.{dec_le}
use native.Mathlib.Omega.{arith}
use lib.ListN.{length, get_or, take, drop, get_or-append}
use lib.Seq.{length-take-le, take_all, take-length, take_at, take-append-add, take-take, get_or-take, get_or-drop, get_or-append-add}
use Rattle.index.proofs.Slices.{drop-take}
use Rattle.images.specs.Images.{pasted}

-- an image that lies in a buffer is as many of its first rows
pub image-rows : (r : ℕ) (buffer : List ℕ) → take (length (take r buffer)) buffer ≡ take r buffer
image-rows r buffer =
    elim (dec_le r (length buffer)) [
      | yes l ↦ ap (λ n. take n buffer) (length-take-le r buffer l)
      | no l ↦ ap (λ n. take n buffer) (ap length (take_all r buffer (omega arith))) ∙ take-length buffer ∙ sym (take_all r buffer (omega arith))
    ]

module _ (buffer : List ℕ) (i : ℕ) (rows : List ℕ) where
  -- put into an image, they are put into the buffer that it lies in
  pub pasted-within : (r : ℕ) → i + length rows ≤ r → r ≤ length buffer → take r (pasted buffer i rows) ≡ pasted (take r buffer) i rows
  pasted-within r h l =
      let n = length rows in
      let m = r - i - n in
      let u = drop n (drop i buffer) in
      let long : length (take i buffer) ≡ i = length-take-le i buffer (omega arith) in
      let whole : r ≡ length (take i buffer) + (n + m) = omega arith in
      let front : take i (take r buffer) ≡ take i buffer = take-take i r buffer (omega arith) in
      let back : drop n (drop i (take r buffer)) ≡ take m u = ap (drop n) (drop-take r i buffer) ∙ drop-take (r - i) n (drop i buffer) in
      ap (λ k. take k (pasted buffer i rows)) whole ∙ take-append-add (take i buffer) (rows ++ u) (n + m) ∙ rw (take-append-add rows u m, front, back)

  -- put behind an image, they are its last rows
  pub pasted-behind : i ≤ length buffer → take (i + length rows) (pasted buffer i rows) ≡ take i buffer ++ rows
  pasted-behind l =
      let long : length (take i buffer) ≡ i = length-take-le i buffer l in
      let u = drop (length rows) (drop i buffer) in
      ap (λ k. take (k + length rows) (pasted buffer i rows)) (sym long) ∙ take-append-add (take i buffer) (rows ++ u) (length rows)
      ∙ ap (λ v. take i buffer ++ v) (take_at rows u (length rows) refl)

  -- every other row stays
  pub others-stay : i + length rows ≤ length buffer → (k : ℕ) → (k < i) ⊎ (i + length rows ≤ k) → get_or (pasted buffer i rows) k 0 ≡ get_or buffer k 0
  others-stay l k (inl h) =
      let long : length (take i buffer) ≡ i = length-take-le i buffer (omega arith) in
      get_or-append (take i buffer) _ 0 k (omega arith) ∙ get_or-take i buffer k 0 h
  others-stay l k (inr h) =
      let long : length (take i buffer) ≡ i = length-take-le i buffer (omega arith) in
      let n = length rows in
      let u = drop n (drop i buffer) in
      let m = k - i - n in
      let at : k ≡ length (take i buffer) + (n + m) = omega arith in
      ap (λ j. get_or (pasted buffer i rows) j 0) at ∙ get_or-append-add (take i buffer) (rows ++ u) (n + m) 0 ∙ get_or-append-add rows u m 0
      ∙ get_or-drop n (drop i buffer) m 0 ∙ get_or-drop i buffer (n + m) 0 ∙ ap (λ j. get_or buffer j 0) (omega (arith, at, long))
