-- Blank rows counted, and whether so many are blank.
use Prim.Native.Nat.{ℕ, zero, suc, ◌≤◌, ◌<◌, zero-le, suc-le-suc}
use mathlib.Core.Path.{◌≡◌, sym}
use mathlib.Core.Bool.{Bool, true, false, ◌&&◌, cond}
use mathlib.Core.List.{List, [], ◌∷◌}
use native.Mathlib.Nat.{le_refl, not-suc-le-zero, le_of_suc-le-suc}
use native.Mathlib.Omega.{arith}
use borrow.Author.Tests.{le-leb, lt-leb, ne_eqb}
use lib.Dec.{eqb, leb, leb-suc-suc}
use lib.ListN.{length, take}
use Rattle.std.specs.List.{list_all}
use Rattle.images.specs.Images.{is_blank, blanks}

-- no more blank rows than rows
pub blanks-most : (t : List ℕ) → blanks t ≤ length t
unfolding blanks
blanks-most [] = le_refl 0
blanks-most (b ∷ t) = by (is_blank b) (blanks-most t)
  where
    by : (x : Bool) → blanks t ≤ length t → cond x (suc (blanks t)) 0 ≤ suc (length t)
    by true h = omega arith
    by false h = omega arith

-- so many rows are blank where they are there, and all blank
pub blanks-all : (n : ℕ) (t : List ℕ) → n ≤ length t → list_all is_blank (take n t) ≡ leb n (blanks t)
unfolding blanks
blanks-all zero t h = sym (le-leb 0 (blanks t) zero-le)
blanks-all (suc n) [] h = absurd (not-suc-le-zero h)
blanks-all (suc n) (b ∷ t) h = by (is_blank b) (blanks-all n t (le_of_suc-le-suc h))
  where
    by : (x : Bool) → list_all is_blank (take n t) ≡ leb n (blanks t) → x && list_all is_blank (take n t) ≡ leb (suc n) (cond x (suc (blanks t)) 0)
    by true e = rw (leb-suc-suc n (blanks t)) e
    by false e = sym (lt-leb (suc n) 0 (suc-le-suc zero-le))

pub blanks-few : (n : ℕ) (t : List ℕ) → length t < n → false ≡ leb n (blanks t)
blanks-few n t h = sym (lt-leb n (blanks t) (omega (arith, blanks-most t)))

-- where no row is left, none are blank
pub blanks-past : (n : ℕ) (t : List ℕ) → length t ≡ 0 → eqb n 0 ≡ leb n (blanks t)
blanks-past zero t h = sym (le-leb 0 (blanks t) zero-le)
blanks-past (suc n) t h = rw (ne_eqb (suc n) 0 (λ e. omega arith)) (sym (lt-leb (suc n) (blanks t) (omega (arith, blanks-most t))))
