-- The axes one behind another, by their letters: the axis of a letter, and 26 at the first that can't be followed.
use Prim.Native.Nat.{ℕ, suc, ◌+◌, ◌≤◌, ◌<◌}
use native.Mathlib.Numerals.{add-one}
use native.Mathlib.Omega.{arith}
use mathlib.Core.Path.{◌≡◌, refl, sym, ap, ◌∙◌}
use mathlib.Core.Bool.{true, false}
use mathlib.Core.List.{List, [], ◌∷◌}
use lib.IntN.{ℤ}
use lib.ListN.{get_or, drop, drop_of_length-le}
use lib.Seq.{drop-cons}
use borrow.Author.Tests.{eq-eqb, ne_eqb, lt-ltb}
use Rattle.std.specs.Prelude.{Some}
use Rattle.rows.specs.Answer.{taken, refused}
use Rattle.slides.specs.declared.Travel.{Travel}
use Rattle.slides.specs.Axes.{axes, axis_of, axis_named, place_in, of, unsound, sound, sound_from}

-- axis a and those behind it
ahead : (a : ℕ) → a < 14 → drop a axes ≡ get_or axes a 0 ∷ drop (a + 1) axes
ahead a l = rw (add-one, drop-cons axes a 0 l)

none_ahead : (a : ℕ) → 14 ≤ a → drop a axes ≡ []
none_ahead a l = drop_of_length-le axes {i = a} l

-- ---- the axis of a letter

place_here : (c x : ℕ) (cs : List ℕ) → x ≡ c → place_in c (x ∷ cs) ≡ 0
unfolding place_in
place_here c x cs e = rw (eq-eqb c x (sym e))

place-on : (c x : ℕ) (cs : List ℕ) → (x ≡ c → ⊥) → place_in c (x ∷ cs) ≡ suc (place_in c cs)
unfolding place_in
place-on c x cs n = rw (ne_eqb c x (λ e. n (sym e)))

place_none : (c : ℕ) → place_in c [] ≡ 0
unfolding place_in
place_none c = refl

-- the letter is none of those before axis a
pub record Sought (c a : ℕ) : Type 0 where
  pub few : a ≤ 14
  pub left : axis_of c ≡ a + place_in c (drop a axes)

module _ {c a : ℕ} (s : Sought c a) where
  pub seek-ends : a < 14 → get_or axes a 0 ≡ c → a ≡ axis_of c
  seek-ends l e = let p = s.left ∙ ap (λ cs. a + place_in c cs) (ahead a l) in omega (arith, p, place_here c (get_or axes a 0) (drop (a + 1) axes) e)

  pub seek-goes-on : a < 14 → (get_or axes a 0 ≡ c → ⊥) → Sought c (a + 1)
  seek-goes-on l n =
      let p = s.left ∙ ap (λ cs. a + place_in c cs) (ahead a l) in
      record { few = omega arith; left = omega (arith, p, place-on c (get_or axes a 0) (drop (a + 1) axes) n) }

  pub seek-fails : 14 ≤ a → 14 ≡ axis_of c
  seek-fails l = let p = s.left ∙ ap (λ cs. a + place_in c cs) (none_ahead a l) in omega (arith, p, s.few, place_none c)

-- ---- the first axis that can't be followed

module _ (t : Travel) (zs : List ℤ) where
  -- the axes before a can be followed
  pub record Trodden (a : ℕ) : Type 0 where
    pub few : a ≤ 14
    pub left : sound t zs ≡ sound_from t zs a (drop a axes)

  module _ {a : ℕ} (s : Trodden a) where
    bad-here : (x : ℕ) (cs : List ℕ) → unsound (of t.low a) (of t.high a) (of zs a) ≡ true → sound_from t zs a (x ∷ cs) ≡ refused 26 x
    unfolding sound_from
    bad-here x cs e = rw e

    good-here : (x : ℕ) (cs : List ℕ) → unsound (of t.low a) (of t.high a) (of zs a) ≡ false → sound_from t zs a (x ∷ cs) ≡ sound_from t zs (suc a) cs
    unfolding sound_from
    good-here x cs e = rw e

    at_end : sound_from t zs a [] ≡ taken tt
    unfolding sound_from
    at_end = refl

    pub tread-refuses : a < 14 → unsound (of t.low a) (of t.high a) (of zs a) ≡ true → refused 26 (get_or axes a 0) ≡ sound t zs
    tread-refuses l e = sym (s.left ∙ ap (λ cs. sound_from t zs a cs) (ahead a l) ∙ bad-here (get_or axes a 0) (drop (a + 1) axes) e)

    pub tread-goes-on : a < 14 → unsound (of t.low a) (of t.high a) (of zs a) ≡ false → Trodden (a + 1)
    tread-goes-on l e =
        record { few = omega arith; left = s.left ∙ ap (λ cs. sound_from t zs a cs) (ahead a l) ∙ good-here (get_or axes a 0) (drop (a + 1) axes) e ∙ rw add-one }

    pub tread-ends : 14 ≤ a → taken tt ≡ sound t zs
    tread-ends l = sym (s.left ∙ ap (λ cs. sound_from t zs a cs) (none_ahead a l) ∙ at_end)
