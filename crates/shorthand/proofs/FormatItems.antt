-- The items of a Format: the first of its 22 places, each with digits that a number holds.
use mathlib.Core.Path.{◌≡◌, ap}
use mathlib.Core.List.{List, [], ◌∷◌}
use Prim.Native.Nat.{ℕ, zero, suc, ◌+◌, ◌≤◌, ◌<◌}
use native.Mathlib.Nat.{le_of_suc-le-suc, not-suc-le-zero}
use native.Mathlib.Numerals.{add-one}
use native.Mathlib.Omega.{arith}
use lib.ListN.{length, get_or, drop, length-append, length-replicate, drop_of_length-le}
use lib.Seq.{drop-cons, get_or-take}
use Rattle.shorthand.specs.declared.Item.{Item}
use Rattle.shorthand.specs.declared.Format.{Format}
use Rattle.shorthand.specs.Layout.{blank, items_of}
use Rattle.shorthand.specs.Facts.{Widths, Fair, none, more, Facts}

fair-at : {its : List Item} → Fair its → (k : ℕ) → k < length its → Widths (get_or its k blank).kind
fair-at none k l = absurd (not-suc-le-zero l)
fair-at (more letter widths other rest) zero l = widths
fair-at (more letter widths other rest) (suc k) l = fair-at rest k (le_of_suc-le-suc l)

module _ (f : Format) (h : Facts f) where
  pub counted : f.count ≡ length (items_of f)
  counted = ap (λ g. g.count) h.parts

  -- a Format has 22 places, and its items are the first of them
  pub room : length f.items ≡ 22
  room = let e = simp (length-append, length-replicate) at (ap (λ g. length g.items) h.parts) in omega (arith, counted, h.few)

  pub item-is : (k : ℕ) → k < f.count → get_or (items_of f) k blank ≡ get_or f.items k blank
  item-is k l = get_or-take f.count f.items k blank l

  pub item-at : (k : ℕ) → k < f.count → drop k (items_of f) ≡ get_or f.items k blank ∷ drop (k + 1) (items_of f)
  item-at k l = rw (add-one, drop-cons (items_of f) k blank (omega (arith, counted)), item-is k l)

  pub items-end : (k : ℕ) → f.count ≤ k → drop k (items_of f) ≡ []
  items-end k l = drop_of_length-le (items_of f) {i = k} (omega (arith, counted))

  pub widths-at : (k : ℕ) → k < f.count → Widths (get_or f.items k blank).kind
  widths-at k l = rw item-is at (fair-at h.fair k (omega (arith, counted)))
