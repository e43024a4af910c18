-- The nearest multiple of a unit: no multiple is nearer, and of two that are equally near it is the upper.
use Prim.Native.Nat.{ℕ, suc, ◌+◌, ◌-◌, ◌*◌, ◌/◌, ◌%◌, ◌≤◌, ◌<◌}
use mathlib.Core.Path.{◌≡◌, ap, ◌∙◌}
use mathlib.Core.Logic.{◌⊎◌, inl, inr}
use native.Mathlib.Nat.{div-mul-le_self, lt-div-mul-add, mul-le-mul_right, div-add-mod', mod-lt, div-eq_of_lt-le}
use native.Mathlib.Decide.{dec_lt}
use native.Mathlib.Omega.{arith}
use Rattle.speeds.specs.Rounding.{nearest, NoNearer}

-- two multiples are the same, or at least a unit lies between them
multiples : (u i j : ℕ) → (i * u + u ≤ j * u) ⊎ ((i * u ≡ j * u) ⊎ (j * u + u ≤ i * u))
multiples u i j =
    elim (dec_lt i j) [
      | yes l ↦ inl (omega (arith, mul-le-mul_right u l))
      | no l ↦ inr (elim (dec_lt j i) [ yes m ↦ inr (omega (arith, mul-le-mul_right u m)) | no m ↦ inl (ap (λ (n : ℕ). n * u) (omega arith)) ])
    ]

pub nearest-low : (u v : ℕ) → nearest u v ≤ v + u / 2
nearest-low u v = div-mul-le_self (v + u / 2) u

pub nearest-high : (u v : ℕ) → 0 < u → v + u / 2 < nearest u v + u
nearest-high u v h = lt-div-mul-add h

beside : (u v r w : ℕ) → r ≤ v + u / 2 → v + u / 2 < r + u → (w + u ≤ r) ⊎ ((w ≡ r) ⊎ (r + u ≤ w)) → NoNearer v r w
beside u v r w low high (inl h) = record { close = omega arith; upper = omega arith }
beside u v r w low high (inr (inl h)) = record { close = omega arith; upper = omega arith }
beside u v r w low high (inr (inr h)) = record { close = omega arith; upper = omega arith }

pub nearest-best : (u v j : ℕ) → 0 < u → NoNearer v (nearest u v) (j * u)
nearest-best u v j h =
    beside u v (nearest u v) (j * u) (nearest-low u v) (nearest-high u v h) (multiples u j ((v + u / 2) / u))

nearest-is : (u v j : ℕ) → j * u ≤ v + u / 2 → v + u / 2 < j * u + u → nearest u v ≡ j * u
nearest-is u v j low high = ap (λ (n : ℕ). n * u) (div-eq_of_lt-le u low (omega arith))

-- the nearest multiple by what stands over a multiple: less than half a unit is dropped, a half or more fills the unit
pub nearest-down : (u v : ℕ) → 2 * (v % u) < u → nearest u v ≡ v - v % u
nearest-down u v h =
    let d : v / u * u + v % u ≡ v = div-add-mod' v u in
    nearest-is u v (v / u) (omega arith) (omega arith) ∙ omega arith

pub nearest-up : (u v : ℕ) → 0 < u → u ≤ 2 * (v % u) → nearest u v ≡ v - v % u + u
nearest-up u v some h =
    let d : v / u * u + v % u ≡ v = div-add-mod' v u in
    nearest-is u v (suc (v / u)) (omega arith) (omega (arith, mod-lt v some)) ∙ omega arith
