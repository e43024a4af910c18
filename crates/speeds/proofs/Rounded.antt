-- Rounding to s significant digits is right: what comes out has at most s, nothing that has is nearer, and a half goes upwards.
use Prim.Native.Nat.{ℕ, zero, suc, ◌+◌, ◌-◌, ◌*◌, ◌/◌, ◌^◌, ◌≤◌, ◌<◌}
use mathlib.Core.Path.{◌≡◌, refl, sym, ap, ◌∙◌}
use mathlib.Core.Logic.{◌⊎◌, inl, inr, ⊎_elim}
use native.Mathlib.Nat.{pow-succ', one-mul, mul_assoc, mul-lt-mul_of_pos_right, lt_of_mul-lt-mul_right, le_of_lt, le_antisymm, eq-or-lt_of_le, le_refl}
use native.Mathlib.Decide.{dec_le}
use native.Mathlib.Omega.{arith}
use lib.Pow.{pow-add}
use Rattle.speeds.specs.Rounding.{Significant, rounded, past_within, past, apart, NoNearer}
use Rattle.speeds.proofs.Tens.{ten-positive, ten-times, ten-below, ten-split}
use Rattle.speeds.proofs.Past.{Past, past-law}
use Rattle.speeds.proofs.Nearest.{nearest-best}

-- a number of s figures and then zeros stays below a power of ten
figures-under : {s w : ℕ} (h : Significant s w) → w < 10 ^ (s + h.zeros)
figures-under {s} h = rw (h.is, pow-add) (mul-lt-mul_of_pos_right h.few (ten-positive h.zeros))

-- such a number that has as many digits as v is a multiple of v's unit
pub multiple : {s w : ℕ} (p : ℕ) (h : Significant s w) → 10 ^ (s + p) ≤ 10 * w → (j : ℕ) × (w ≡ j * 10 ^ p)
multiple {s} {w} p h big =
    (h.figures * 10 ^ (h.zeros - p), h.is ∙ ap (λ (n : ℕ). h.figures * n) (ten-split enough) ∙ sym (mul_assoc _ _ _))
  where
    enough : p ≤ h.zeros
    enough = omega (arith, ten-below {i = s + p} {j = suc (s + h.zeros)} (rw pow-succ' (omega (arith, figures-under h))))

-- it is a multiple of v's unit, or a multiple stands between it and v
between : (s v p w : ℕ) → 0 < s → Past s v p → Significant s w → ((j : ℕ) × (w ≡ j * 10 ^ p)) ⊎ ((j : ℕ) × (w < j * 10 ^ p) × (j * 10 ^ p ≤ v))
between zero v p w some a h = absurd (omega arith)
between (suc t) v zero w some a h = inl (w, omega arith)
between (suc t) v (suc p) w some a h =
    let least : 10 ^ (suc t + suc p) ≡ 10 * (10 ^ t * 10 ^ suc p) = pow-add 10 (suc t) (suc p) ∙ rw (pow-succ' 10 t) (mul_assoc 10 (10 ^ t) (10 ^ suc p)) in
    elim (dec_le (10 ^ (suc t + suc p)) (10 * w)) [
      | yes l ↦ inl (multiple (suc p) h l)
      | no l ↦ inr (10 ^ t, omega arith, omega (arith, a.over (omega arith)))
    ]

pub ten-significant : (s n : ℕ) → 0 < s → Significant s (10 ^ n)
ten-significant s n some = record { figures = 1; zeros = n; few = omega (arith, ten-times {i = 0} some); is = sym (one-mul (10 ^ n)) }

pub rounded-zero : (s : ℕ) → rounded s 0 ≡ 0
unfolding rounded past past_within
rounded-zero s = refl

module _ (s v : ℕ) (some : 0 < s) where
  best : (j : ℕ) → NoNearer v (rounded s v) (j * 10 ^ past s v)
  unfolding rounded
  best j = nearest-best (10 ^ past s v) v j (ten-positive (past s v))

  no-nearer : (w : ℕ) → Significant s w → NoNearer v (rounded s v) w
  no-nearer w h =
      ⊎_elim (λ a. rw a.1 (best a.0)) (λ a. record { close = omega (arith, best a.0); upper = omega (arith, best a.0) })
      (between s v (past s v) w some (past-law s v) h)

  pub rounded-nearest : (w : ℕ) → Significant s w → apart (rounded s v) v ≤ apart w v
  rounded-nearest w h = (no-nearer w h).close

  pub rounded-upwards : (w : ℕ) → Significant s w → apart w v ≡ apart (rounded s v) v → w ≤ rounded s v
  rounded-upwards w h = (no-nearer w h).upper

  -- rounding passes no number of at most s significant digits, in either direction
  pub rounded-above : (w : ℕ) → Significant s w → w ≤ v → w ≤ rounded s v
  rounded-above w h l = omega (arith, rounded-nearest w h)

  pub rounded-below : (w : ℕ) → Significant s w → v ≤ w → rounded s v ≤ w
  rounded-below w h l = omega (arith, rounded-nearest w h)

  pub rounded-same : Significant s v → rounded s v ≡ v
  rounded-same h = le_antisymm (rounded-below v h (le_refl v)) (rounded-above v h (le_refl v))

  pub rounded-significant : Significant s (rounded s v)
  unfolding rounded
  rounded-significant =
      let p : ℕ = past s v in
      elim (eq-or-lt_of_le (rounded-below (10 ^ (s + p)) (ten-significant s (s + p) some) (le_of_lt (past-law s v).under))) [
        | inl e ↦ rw e (ten-significant s (s + p) some)
        | inr l ↦ record { figures = (v + 10 ^ p / 2) / 10 ^ p; zeros = p; few = lt_of_mul-lt-mul_right (10 ^ p) (rw pow-add at l); is = refl }
      ]
