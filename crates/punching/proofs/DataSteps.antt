-- A word's data by the tests that judge it: whether it fits, and what is known of it where it does.
use Prim.Native.Nat.{ℕ, ◌^◌, ◌≤◌, ◌<◌}
use mathlib.Core.Path.{◌≡◌, refl, ap, ◌∙◌}
use mathlib.Core.Bool.{Bool, true, false, ◌&&◌, not, cond}
use mathlib.Core.List.{[], ◌∷◌}
use mathlib.Core.Logic.{◌⊎◌, inl, inr, ⊎_elim}
use native.Mathlib.Omega.{arith}
use borrow.Author.Tests.{ltb-true, lt-ltb, le-ltb}
use denote.Enum.Declared.{tag_of}
use Rattle.words.specs.contracts.Value.{the_type}
use lib.Dec.{ltb}
use lib.IntN.{ℤ, nat_abs}
use Rattle.rows.specs.Answer.{taken, refused}
use Rattle.std.specs.Prelude.{Option}
use Rattle.std.specs.Prelude.{None, Some}
use Rattle.speeds.specs.declared.Speed.{Speed}
use Rattle.speeds.specs.Coding.{code_for, exact_for}
use Rattle.speeds.proofs.ExactCode.{exact-coded}
use Rattle.shorthand.specs.declared.Figures.{Figures}
use Rattle.shorthand.specs.declared.Kind.{Kind}
use Rattle.shorthand.specs.declared.Kind.TheVariants.{Plain}
use Rattle.shorthand.specs.Layout.{Sign, barred, required, optional, width, sign_of}
use Rattle.words.specs.declared.Value.{Value}
use Rattle.words.specs.declared.Value.TheVariants.{Number}
use Rattle.words.specs.Figures.{may_stand}
use Rattle.punching.specs.Rows.{minus, sign_rows}
use Rattle.punching.specs.Fits.{unless, coded, value_fits}
use Rattle.punching.specs.Line.{data_measured}
use Rattle.reading.proofs.Outcomes.{never}
use Rattle.punching.proofs.Measures.{tested, data_width, data-length}

-- what fits is measured to its item's width
pub data-measured : (i : ℕ) (k : Kind) (v : Value) → value_fits i k v ≡ taken tt → data_measured i k v ≡ taken (data_width k)
data-measured i k v e = rw (data-length i k v e, e)

-- ---- a kind that is not the item's

abbrev tag : Value → ℕ
tag v = tag_of the_type v

-- a value that is not of a kind is of one of the other two
pub no_number : (v : Value) → ((n : ℕ) → v ≡ Number n → ⊥) → (tag v ≡ 1) ⊎ (tag v ≡ 2)
no_number (Number v) h = absurd (h v refl)
no_number (Value.Dimension z) h = inl refl
no_number (Value.Speed v) h = inr refl

pub no_speed : (v : Value) → ((s : Speed) → v ≡ Value.Speed s → ⊥) → (tag v ≡ 0) ⊎ (tag v ≡ 1)
no_speed (Number v) h = inl refl
no_speed (Value.Dimension z) h = inr refl
no_speed (Value.Speed v) h = absurd (h v refl)

pub no_dimension : (v : Value) → ((z : ℤ) → v ≡ Value.Dimension z → ⊥) → (tag v ≡ 0) ⊎ (tag v ≡ 2)
no_dimension (Number v) h = inl refl
no_dimension (Value.Dimension z) h = absurd (h z refl)
no_dimension (Value.Speed v) h = inr refl

module _ (i : ℕ) where
  pub plain_other : (n : ℕ) (v : Value) → (tag v ≡ 1) ⊎ (tag v ≡ 2) → value_fits i (Plain n) v ≡ refused 16 i
  plain_other n (Number v) t = absurd (⊎_elim (λ e. omega arith) (λ e. omega arith) t)
  plain_other n (Value.Dimension z) t = refl
  plain_other n (Value.Speed v) t = refl

  pub speed-other : (k : ℕ) (v : Value) → (tag v ≡ 0) ⊎ (tag v ≡ 1) → value_fits i (Kind.Speed k) v ≡ refused 16 i
  speed-other k (Number v) t = refl
  speed-other k (Value.Dimension z) t = refl
  speed-other k (Value.Speed v) t = absurd (⊎_elim (λ e. omega arith) (λ e. omega arith) t)

  pub dimension-other : (d : Figures) (v : Value) → (tag v ≡ 0) ⊎ (tag v ≡ 2) → value_fits i (Kind.Dimension d) v ≡ refused 16 i
  dimension-other d (Number v) t = refl
  dimension-other d (Value.Dimension z) t = absurd (⊎_elim (λ e. omega arith) (λ e. omega arith) t)
  dimension-other d (Value.Speed v) t = refl

-- ---- a number

module _ (i n v : ℕ) where
  -- a number by its size
  pub plain_fits : v < 10 ^ n → value_fits i (Plain n) (Number v) ≡ taken tt
  plain_fits h = rw (lt-ltb v (10 ^ n) h)

  pub plain-large : 10 ^ n ≤ v → value_fits i (Plain n) (Number v) ≡ refused 17 i
  plain-large h = rw (le-ltb v (10 ^ n) h)

  pub plain-small : value_fits i (Plain n) (Number v) ≡ taken tt → v < 10 ^ n
  plain-small e = ltb-true v (10 ^ n) (tested (ltb v (10 ^ n)) 17 i e)

-- ---- a speed

module _ (i n : ℕ) (v : Speed) where
  -- a speed by its exact code
  pub speed-fits : (c : ℕ) → Some c ≡ exact_for n v → value_fits i (Kind.Speed n) (Value.Speed v) ≡ taken tt
  speed-fits c e = rw (← e)

  pub speed-inexact : None ≡ exact_for n v → value_fits i (Kind.Speed n) (Value.Speed v) ≡ refused 18 i
  speed-inexact e = rw (← e)

  module _ (fits : value_fits i (Kind.Speed n) (Value.Speed v) ≡ taken tt) where
    -- a speed that fits has an exact code, and is given it
    has_code : (c : ℕ) × (exact_for n v ≡ Some c) × (code_for n v ≡ taken c)
    has_code = by (exact_for n v) refl fits
      where
        by : (x : Option ℕ) → exact_for n v ≡ x → coded i x ≡ taken tt → (c : ℕ) × (exact_for n v ≡ Some c) × (code_for n v ≡ taken c)
        by (Some c) q h = (c, q, exact-coded n v c q)
        by None q h = never h

    -- the code of one that fits means it exactly
    pub speed-coded : {c : ℕ} → taken c ≡ code_for n v → exact_for n v ≡ Some c
    speed-coded {c} e = let q = has_code in let k : q.0 ≡ c = cc in q.1 ∙ ap Some k

    -- and it has one
    pub speed-codable : {m p : ℕ} → refused m p ≡ code_for n v → ⊥
    speed-codable e = never (e ∙ has_code.2)

-- ---- a dimension

-- a sign in every item that may have one, and in no other
pub sign-stands : (z : ℤ) (s : Sign) → true ≡ may_stand s → sign_rows s z ≡ cond (minus z) 45 43 ∷ []
sign-stands z barred e = cc
sign-stands z required e = refl
sign-stands z optional e = refl

pub no_sign : (z : ℤ) (s : Sign) → false ≡ may_stand s → sign_rows s z ≡ []
no_sign z barred e = refl
no_sign z required e = cc
no_sign z optional e = cc

module _ (i : ℕ) (d : Figures) (z : ℤ) where
  abbrev figures : ℕ
  figures = width (Kind.Dimension d)

  -- a dimension by its magnitude
  pub dimension-large : 10 ^ figures ≤ nat_abs z → value_fits i (Kind.Dimension d) (Value.Dimension z) ≡ refused 17 i
  dimension-large h = rw (le-ltb (nat_abs z) (10 ^ figures) h)

  pub dimension-small : value_fits i (Kind.Dimension d) (Value.Dimension z) ≡ taken tt → nat_abs z < 10 ^ figures
  dimension-small e = ltb-true (nat_abs z) (10 ^ figures) (by (ltb (nat_abs z) (10 ^ figures)) e)
    where
      by : (x : Bool) → unless (x && not (minus z && not (may_stand (sign_of (Kind.Dimension d))))) 17 i ≡ taken tt → x ≡ true
      by true h = refl
      by false h = never h

  -- where a sign may stand, a minus is no fault
  free : (m : Bool) → unless (not (m && false)) 17 i ≡ taken tt
  free true = refl
  free false = refl

  module _ (h : nat_abs z < 10 ^ figures) where
    -- and by its sign
    pub dimension-signed : true ≡ may_stand (sign_of (Kind.Dimension d)) → value_fits i (Kind.Dimension d) (Value.Dimension z) ≡ taken tt
    dimension-signed e = rw (lt-ltb (nat_abs z) (10 ^ figures) h, ← e) (free (minus z))

    pub dimension-negative : false ≡ may_stand (sign_of (Kind.Dimension d)) → minus z ≡ true → value_fits i (Kind.Dimension d) (Value.Dimension z) ≡ refused 17 i
    dimension-negative e m = rw (lt-ltb (nat_abs z) (10 ^ figures) h, ← e, m)

    pub dimension-unsigned : false ≡ may_stand (sign_of (Kind.Dimension d)) → minus z ≡ false → value_fits i (Kind.Dimension d) (Value.Dimension z) ≡ taken tt
    dimension-unsigned e m = rw (lt-ltb (nat_abs z) (10 ^ figures) h, ← e, m)
