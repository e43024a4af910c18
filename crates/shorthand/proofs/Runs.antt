-- Runs of digits at a place of the text: what a walk over them has at each step.
use Prim.Native.Nat.{ℕ, ◌+◌, ◌-◌, ◌≤◌, ◌<◌, max}
use mathlib.Core.Path.{◌≡◌, sym, ◌∙◌}
use mathlib.Core.Bool.{true, false, and-eq-true_iff}
use mathlib.Core.List.{List, [], ◌∷◌}
use native.Mathlib.Numerals.{add-one}
use native.Mathlib.Omega.{arith}
use lib.ListN.{length, get_or, drop, drop_of_length-le}
use lib.Seq.{drop-cons}
use lib.Dec.{leb}
use borrow.Author.Tests.{leb-true}
use Rattle.shorthand.specs.declared.Digits.{Digits}
use Rattle.shorthand.specs.declared.Digits.TheVariants.{Empty}
use Rattle.shorthand.specs.Lawful.{digit_in}
use Rattle.shorthand.specs.Spell.{is_digit}
use Rattle.shorthand.specs.Stand.{digits_of, after_digits}
use Rattle.shorthand.specs.Places.{added, added_all, Begins}

-- the byte at a place, and the text behind it
pub from_place : (t : List ℕ) (i : ℕ) → i < length t → drop i t ≡ get_or t i 0 ∷ drop (i + 1) t
from_place t i h = rw (add-one, drop-cons t i 0)

pub within-bounds : (lo hi b : ℕ) → digit_in lo hi b ≡ true → (lo ≤ b) × (b ≤ hi)
within-bounds lo hi b h =
    let both = (and-eq-true_iff (leb lo b) (leb b hi)).0 h in
    (leb-true lo b both.0, leb-true b hi both.1)

-- the digits ds are read, from the place at to the place i
pub record Running (t : List ℕ) (at : ℕ) (ds : Digits) (i : ℕ) : Type 0 where
  pub digits : added_all ds (digits_of (drop i t)) ≡ added_all Empty (digits_of (drop at t))
  pub after : after_digits (drop i t) ≡ after_digits (drop at t)
  pub behind : at ≤ i
  pub within : i ≤ max at (length t)

module _ {t : List ℕ} {at i : ℕ} {ds : Digits} (r : Running t at ds i) where
  pub run-goes-on : i < length t → is_digit (get_or t i 0) ≡ true → Running t at (added ds (get_or t i 0 - 48)) (i + 1)
  unfolding digits_of after_digits added_all
  run-goes-on h d =
      record {
        digits = rw (from_place t i h, d) at r.digits;
        after = rw (from_place t i h, d) at r.after;
        behind = omega arith;
        within = omega arith;
      }

  -- where no digit stands, the run ends
  run_ends : digits_of (drop i t) ≡ [] → after_digits (drop i t) ≡ drop i t
      → (ds ≡ added_all Empty (digits_of (drop at t))) × Begins t at (after_digits (drop at t)) i
  unfolding added_all
  run_ends d e = (rw d at r.digits, record { there = sym e ∙ r.after; behind = r.behind; within = r.within })

  pub run-stops : i < length t → is_digit (get_or t i 0) ≡ false → (ds ≡ added_all Empty (digits_of (drop at t))) × Begins t at (after_digits (drop at t)) i
  unfolding digits_of after_digits
  run-stops h d = run_ends (rw (from_place t i h, d)) (rw (from_place t i h, d))

  pub run-runs-out : length t ≤ i → (ds ≡ added_all Empty (digits_of (drop at t))) × Begins t at (after_digits (drop at t)) i
  unfolding digits_of after_digits
  run-runs-out h = run_ends (rw (drop_of_length-le t h)) (rw (drop_of_length-le t h))
