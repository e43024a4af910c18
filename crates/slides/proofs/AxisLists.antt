-- The letters of the axes: each stands at its own place in dimension order, and no other letter does.
use Prim.Native.Nat.{ℕ, zero, suc, ◌<◌}
use native.Mathlib.Nat.{le_of_suc-le-suc, not-suc-le-zero}
use mathlib.Core.Path.{◌≡◌, refl, sym, ap, ◌∙◌}
use mathlib.Core.Bool.{Bool, true, false, cond}
use mathlib.Core.List.{List, [], ◌∷◌, map}
use lib.Dec.{eqb, ltb}
use lib.ListN.{length, get_or}
use borrow.Author.Tests.{eqb-true, eqb-false, ltb-true}
use Rattle.shorthand.proofs.LetterBytes.{same-below}
use Rattle.slides.specs.Axes.{axes, place_in, axis_of}

-- what stands at the place of a letter is that letter
pub at_place : (c d : ℕ) (cs : List ℕ) → place_in c cs < length cs → get_or cs (place_in c cs) d ≡ c
unfolding place_in
at_place c d [] l = absurd (not-suc-le-zero l)
at_place c d (b ∷ cs) l = by (eqb c b) refl l (at_place c d cs)
  where
    by : (x : Bool) → eqb c b ≡ x → cond x 0 (suc (place_in c cs)) < suc (length cs) → (place_in c cs < length cs → get_or cs (place_in c cs) d ≡ c)
        → get_or (b ∷ cs) (cond x 0 (suc (place_in c cs))) d ≡ c
    by true q l rest = sym (eqb-true c b q)
    by false q l rest = rest (le_of_suc-le-suc l)

-- the axis of the letter of axis a is a
pub axis-of-letter : {a : ℕ} → a < length axes → axis_of (get_or axes a 0) ≡ a
unfolding place_in
axis-of-letter l = same-below (λ k. axis_of (get_or axes k 0)) (λ k. k) 14 refl l

-- and a letter that has an axis is the letter of that axis
pub letter-of-axis : (c : ℕ) → ltb (axis_of c) (length axes) ≡ true → get_or axes (axis_of c) 0 ≡ c
letter-of-axis c q = at_place c 0 axes (ltb-true (axis_of c) (length axes) q)

-- so two letters of one axis are the same
pub other-axis : (a c : ℕ) → eqb c (get_or axes a 0) ≡ false → ltb (axis_of c) (length axes) ≡ true → a ≡ axis_of c → ⊥
other-axis a c h q e = eqb-false c (get_or axes a 0) h (sym (letter-of-axis c q) ∙ ap (λ k. get_or axes k 0) (sym e))

-- what a function makes of each element of a list
pub map_at : {A B : Type 0} (f : A → B) (l : List A) (k : ℕ) (d : A) (e : B) → k < length l → get_or (map f l) k e ≡ f (get_or l k d)
map_at f [] k d e h = absurd (not-suc-le-zero h)
map_at f (x ∷ l) zero d e h = refl
map_at f (x ∷ l) (suc k) d e h = map_at f l k d e (le_of_suc-le-suc h)
