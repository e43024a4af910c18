-- The axes, and the travel given for each of them (document 02, 11/12; refusal 26).
use Rattle.std.specs.Prelude.{ℕ, suc, ◌<◌, ◌≡◌, Bool, true, false, ◌||◌, not, ◌&&◌, cond, List, [], ◌∷◌, eqb, ltb, ℤ, pos, nat_abs, length, get_or, Option, None, Some}
use Rattle.std.specs.Int.Signed.{lt_z}
use Rattle.rows.specs.Answer.{Answer, taken, refused}
use Rattle.slides.specs.declared.Travel.{Travel}

-- the letters of the axes in dimension order, X Y Z U V W P Q R A B C D E; I, J and K are not positions
abbrev pub axes : List ℕ
axes = 88 ∷ 89 ∷ 90 ∷ 85 ∷ 86 ∷ 87 ∷ 80 ∷ 81 ∷ 82 ∷ 65 ∷ 66 ∷ 67 ∷ 68 ∷ 69 ∷ []

-- which of some letters c is, from 0; their number where it is none of them
unfoldable pub place_in : ℕ → List ℕ → ℕ
place_in c [] = 0
place_in c (a ∷ cs) = cond (eqb c a) 0 (suc (place_in c cs))

-- the axis of a letter
abbrev pub axis_of : ℕ → ℕ
axis_of c = place_in c axes

-- or none
abbrev pub axis_named : ℕ → Option ℕ
axis_named c = cond (ltb (axis_of c) (length axes)) (Some (axis_of c)) None

-- what an array holds of axis a
abbrev pub of : List ℤ → ℕ → ℤ
of zs a = get_or zs a (pos 0)

-- one million million million
abbrev pub farthest : ℕ
farthest = 1_000_000_000_000_000_000

-- beyond it either way
abbrev pub far : ℤ → Bool
far z = ltb farthest (nat_abs z)

-- an axis that can't be followed: low above high, or either of them or its place beyond
abbrev pub unsound : ℤ → ℤ → ℤ → Bool
unsound low high z = lt_z high low || far low || far high || far z

-- the axes from a on, with these letters: 26 at the first that can't be followed
unfoldable pub sound_from : Travel → List ℤ → ℕ → List ℕ → Answer (Unit {0})
sound_from t zs a [] = taken tt
sound_from t zs a (c ∷ cs) = cond (unsound (of t.low a) (of t.high a) (of zs a)) (refused 26 c) (sound_from t zs (suc a) cs)

-- all axes, used or not, in dimension order
abbrev pub sound : Travel → List ℤ → Answer (Unit {0})
sound t zs = sound_from t zs 0 axes

-- a place within the travel of axis a
abbrev pub within : Travel → ℕ → ℤ → Bool
within t a z = not (lt_z z (of t.low a)) && not (lt_z (of t.high a) z)

-- axis a can't be followed, and every axis before it can
pub record FirstBad (t : Travel) (zs : List ℤ) (a : ℕ) : Type 0 where
  pub among : a < length axes
  pub bad : unsound (of t.low a) (of t.high a) (of zs a) ≡ true
  pub before : (b : ℕ) → b < a → unsound (of t.low b) (of t.high b) (of zs b) ≡ false
