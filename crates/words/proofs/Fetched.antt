-- A fetched row stands for the kept rows from the place that it was fetched at.
use mathlib.Core.Path.{◌≡◌, refl, sym, ap}
use mathlib.Core.Bool.{true, false}
use Prim.Native.Nat.{ℕ, ◌+◌, ◌≤◌, ◌<◌}
use native.Mathlib.Omega.{arith}
use Rattle.std.proofs.lemmas.Bool.Decides.{nat_tests}
use lib.ListN.{length, get_or}
use borrow.Author.Tests.{ne_eqb}
use mathlib.Core.List.{List, ◌∷◌}
use Rattle.std.specs.Prelude.{Option, Some, None}
use Rattle.rows.specs.Row.{character}
use Rattle.rows.specs.Kept.{turn, kept_at, first_of}
use Rattle.rows.specs.declared.Turn.TheVariants.{Keep}
use Rattle.rows.specs.declared.Kept.{Kept}
use Rattle.rows.proofs.Walks.{kept-keep}
use Rattle.rows.proofs.KeptRows.{next_row, next-end}
use Rattle.words.specs.Figures.{is_digit, digit_next}
use Rattle.words.specs.Front.{rows_at, digit_front}

bounds : (c : ℕ) → is_digit c ≡ true → (48 ≤ c) × (c ≤ 57)
bounds c d = grind (arith, nat_tests)

by-case : (t : List ℕ) (at : ℕ) (x : Option Kept) → first_of (kept_at t at) ≡ x → rows_at t x ≡ kept_at t at
by-case t at None e = sym (next-end t at e)
by-case t at (Some r) e = sym (next_row t at r.character r.place r.after e).rows

pub fetched : (t : List ℕ) (at : ℕ) (x : Option Kept) → x ≡ first_of (kept_at t at) → rows_at t x ≡ kept_at t at
fetched t at x e = by-case t at x (sym e)

-- a digit is kept
digit-kept : (t : List ℕ) (at : ℕ) → at < length t → is_digit (character (get_or t at 0)) ≡ true
    → Some (record { character = character (get_or t at 0); place = at; after = at + 1 }) ≡ first_of (kept_at t at)
digit-kept t at h d = sym (ap first_of (kept-keep t at false h (keeps (character (get_or t at 0)) d)))
  where
    keeps : (c : ℕ) → is_digit c ≡ true → turn false c ≡ Keep
    keeps c d = let b = bounds c d in rw (ne_eqb c 0 (λ e. omega (arith, b, e)), ne_eqb c 127 (λ e. omega (arith, b, e)), ne_eqb c 40 (λ e. omega (arith, b, e)))

pub digit-rows : (t : List ℕ) (at : ℕ) → at < length t → is_digit (character (get_or t at 0)) ≡ true
    → kept_at t at ≡ record { place = at; char = character (get_or t at 0) } ∷ kept_at t (at + 1)
digit-rows t at h d = sym (fetched t at (Some (record { character = character (get_or t at 0); place = at; after = at + 1 })) (digit-kept t at h d))

pub fetched-digit : (t : List ℕ) (x : Option Kept) → digit_next (rows_at t x) ≡ digit_front x
fetched-digit t None = refl
fetched-digit t (Some r) = refl
