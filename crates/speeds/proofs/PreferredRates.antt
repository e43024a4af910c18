-- Preferred numbers: the rates grow with their codes, twenty codes on a rate is ten times as much, and the code that is found is that of the nearest rate.
use Prim.Native.Nat.{ℕ, zero, suc, ◌+◌, ◌-◌, ◌*◌, ◌≤◌, ◌<◌}
use mathlib.Core.Path.{◌≡◌, refl, ap}
use mathlib.Core.Bool.{Bool, true, false, cond}
use mathlib.Core.List.{List}
use native.Mathlib.Nat.{le_refl, add-zero}
use native.Mathlib.Decide.{dec_lt}
use native.Mathlib.Omega.{arith}
use lib.Dec.{T, eqb, leb, ltb, leb→le}
use lib.ListN.{get_or}
use borrow.Author.Tests.{eqb-true, ltb-true, leb-true, leb-false, le-leb, lt-leb}
use Rattle.rows.proofs.Tabulated.{tab-passes}
use Rattle.speeds.specs.Rounding.{apart, NoNearer}
use Rattle.speeds.specs.Preferred.{rates, last_code, rate_of, next_as_near, climbed, nearest_code, NearestCode, least_rate, most_rate}

-- the rate of a code by its place in the table
pub rate-at : (k : ℕ) → rate_of (k + 1) ≡ get_or rates k 0
rate-at k = ap (λ i. get_or rates i 0) (omega arith)

-- each a test that is computed once over the whole table
pub rates-grow : (c : ℕ) → 1 ≤ c → c < 98 → rate_of c < rate_of (c + 1)
unfolding rates
rates-grow c l h =
    let next : (c + 1) - 1 ≡ (c - 1) + 1 = omega arith in
    rw next (ltb-true _ _ (tab-passes (λ k. ltb (get_or rates k 0) (get_or rates (k + 1) 0)) 97 refl (c - 1) (omega arith)))

pub rule-of-ten : (c : ℕ) → 1 ≤ c → c ≤ 78 → rate_of (c + 20) ≡ 10 * rate_of c
unfolding rates
rule-of-ten c l h =
    let on : (c + 20) - 1 ≡ (c - 1) + 20 = omega arith in
    rw on (eqb-true _ _ (tab-passes (λ k. eqb (get_or rates (k + 20) 0) (10 * get_or rates k 0)) 78 refl (c - 1) (omega arith)))

pub first-rate : rate_of 1 ≡ least_rate
unfolding rates
first-rate = refl

pub last-rate : rate_of last_code ≡ most_rate
unfolding rates
last-rate = refl

pub rate-least : (c : ℕ) → 1 ≤ c → c ≤ 98 → least_rate ≤ rate_of c
unfolding rates
rate-least c l h = leb-true _ _ (tab-passes (λ k. leb least_rate (get_or rates k 0)) 98 refl (c - 1) (omega arith))

pub rate-most : (c : ℕ) → 1 ≤ c → c ≤ 98 → rate_of c ≤ most_rate
unfolding rates
rate-most c l h = leb-true _ _ (tab-passes (λ k. leb (get_or rates k 0) most_rate) 98 refl (c - 1) (omega arith))

-- d codes on
grown : (d c : ℕ) → 1 ≤ c → c + d ≤ 98 → rate_of c ≤ rate_of (c + d)
grown zero c l h = rw add-zero (le_refl _)
grown (suc d) c l h = let m = grown d c l (omega arith) in let g = rates-grow (c + d) (omega arith) (omega arith) in let e : c + suc d ≡ c + d + 1 = omega arith in rw e (omega (arith, m, g))

rates-up : (b c : ℕ) → 1 ≤ b → b ≤ c → c ≤ 98 → rate_of b ≤ rate_of c
rates-up b c l h m = let e : b + (c - b) ≡ c = omega arith in rw e at (grown (c - b) b l (omega arith))

-- ---- the nearest

-- v is at least as near to the rate of c as to any below it
abbrev Over : ℕ → ℕ → Type 0
Over v c = (b : ℕ) → 1 ≤ b → b < c → rate_of b + rate_of c ≤ 2 * v

-- and nearer to it than to any above it
abbrev Under : ℕ → ℕ → Type 0
Under v c = (b : ℕ) → c < b → b ≤ 98 → 2 * v < rate_of c + rate_of b

between : (v c : ℕ) → 1 ≤ c → c ≤ 98 → Over v c → Under v c → (b : ℕ) → 1 ≤ b → b ≤ 98 → NoNearer v (rate_of c) (rate_of b)
between v c l m over under b k n =
    elim (dec_lt b c) [
      | yes h ↦ let o = over b k h in let g = rates-up b c k (omega arith) m in record { close = omega (arith, o, g); upper = λ e. g }
      | no h ↦ elim (dec_lt c b) [
        | yes j ↦ let u = under b j n in let g = rates-up c b l (omega arith) n in record { close = omega (arith, u, g); upper = λ e. omega (arith, u, g, e) }
        | no j ↦ let e : b ≡ c = omega arith in rw e (record { close = le_refl _; upper = λ q. le_refl _ })
      ]
    ]

here : (v c : ℕ) → 1 ≤ c → c ≤ 98 → Over v c → Under v c → NearestCode v c
here v c l m over under = record { some = l; within = m; nearest = between v c l m over under }

next : (v c : ℕ) → 1 ≤ c → c < 98 → T (next_as_near v c) → Over v (c + 1)
next v c l m t b k h = let s = leb→le (rate_of c + rate_of (c + 1)) (2 * v) t in let g = rates-up b c k (omega arith) (omega arith) in omega (arith, s, g)

climbs : (n v c : ℕ) → 1 ≤ c → c + n ≡ 98 → Over v c → NearestCode v (climbed n v c)
unfolding climbed
climbs zero v c l e over = here v c l (omega arith) over (λ b h m. absurd (omega arith))
climbs (suc n) v c l e over = go (next_as_near v c) refl (λ t. climbs n v (c + 1) (omega arith) (omega (arith, e)) (next v c l (omega (arith, e)) t))
  where
    go : (x : Bool) → next_as_near v c ≡ x → (T (next_as_near v c) → NearestCode v (climbed n v (c + 1))) → NearestCode v (cond x (climbed n v (c + 1)) c)
    go true q further = further (rw q tt)
    go false q further =
        let t = leb-false (rate_of c + rate_of (c + 1)) (2 * v) q in
        here v c l (omega (arith, e)) over (λ b h m. let g = rates-up (c + 1) b (omega arith) (omega (arith, h)) m in omega (arith, t, g))

pub nearest-code : (v : ℕ) → NearestCode v (nearest_code v)
nearest-code v = climbs 97 v 1 (le_refl 1) refl (λ b k h. absurd (omega arith))

-- the nearest to a rate of the table is that rate
pub nearest-again : (c : ℕ) → 1 ≤ c → c ≤ 98 → nearest_code (rate_of c) ≡ c
nearest-again c l m = only (nearest_code (rate_of c)) (nearest-code (rate_of c))
  where
    apart_none : (a b : ℕ) → apart a b ≤ apart b b → a ≡ b
    apart_none a b h = omega arith

    only : (n : ℕ) → NearestCode (rate_of c) n → n ≡ c
    only n h =
        let e = apart_none (rate_of n) (rate_of c) (h.nearest c l m).close in
        elim (dec_lt n c) [
          | yes b ↦ let g = rates-grow n h.some (omega (arith, m)) in let u = rates-up (n + 1) c (omega arith) (omega arith) m in absurd (omega (arith, e, g, u))
          | no b ↦ elim (dec_lt c n) [
            | yes a ↦ let w = h.within in let g = rates-grow c l (omega (arith, w)) in let u = rates-up (c + 1) n (omega arith) (omega arith) w in absurd (omega (arith, e, g, u))
            | no a ↦ omega arith
          ]
        ]

-- ---- for the function: the climb by the table's places

module _ (l : List ℕ) (is : l ≡ rates) (v k : ℕ) (h : k < 97) where
  as-near : next_as_near v (k + 1) ≡ leb (get_or l k 0 + get_or l (k + 1) 0) (2 * v)
  as-near = rw (rate-at k, rate-at (k + 1), is)

  pub sum-most : get_or l k 0 + get_or l (k + 1) 0 ≤ 1_600_000_000_000
  sum-most = let a = rw (rate-at k) at (rate-most (k + 1) (omega arith) (omega arith)) in let b = rw (rate-at (k + 1)) at (rate-most (k + 1 + 1) (omega arith) (omega arith)) in rw is (omega (arith, a, b))

  -- one code on, or no further
  pub climb-on : get_or l k 0 + get_or l (k + 1) 0 ≤ 2 * v → climbed (97 - k) v (k + 1) ≡ climbed (97 - (k + 1)) v (k + 1 + 1)
  unfolding climbed
  climb-on s = let e : 97 - k ≡ suc (97 - (k + 1)) = omega arith in rw (e, as-near, le-leb _ _ s)

  pub climb-stop : 2 * v < get_or l k 0 + get_or l (k + 1) 0 → climbed (97 - k) v (k + 1) ≡ k + 1
  unfolding climbed
  climb-stop s = let e : 97 - k ≡ suc (97 - (k + 1)) = omega arith in rw (e, as-near, lt-leb _ _ s)

pub climb-end : (v k : ℕ) → k ≡ 97 → climbed (97 - k) v (k + 1) ≡ 98
unfolding climbed
climb-end v k e = rw e
