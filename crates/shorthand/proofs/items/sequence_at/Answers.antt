-- `shorthand::items::sequence_at` meets its contract: the N item by its letter, and then as its digits are read at a place.
use Prim.Native.Nat.{ℕ}
use mathlib.Core.Path.{◌≡◌, refl, sym, ◌∙◌}
use mathlib.Core.Bool.{or-true}
use native.Mathlib.Omega.{arith}
use lib.ListN.{drop, drop_of_length-le}
use borrow.Author.Tests.{le-leb}
use Rattle.shorthand.specs.declared.Edition.TheVariants.{Iso2539}
use Rattle.shorthand.specs.declared.Digits.{Digits}
use Rattle.shorthand.specs.declared.Digits.TheVariants.{Empty, One, Two, Three, Many}
use Rattle.shorthand.specs.Edition.{later}
use Rattle.shorthand.specs.Places.{digits_in}
use Rattle.shorthand.specs.Stand.{one_digit, wrong, whole, stand_n, closed}
use Rattle.shorthand.proofs.Stands.{starts-with, sequence-reads, opens-otherwise, opens-short, opens-unfit, opens-beyond, opens-whole}
use Rattle.shorthand.proofs.Runs.{from_place}
use Rattle.shorthand.proofs.items.sequence_at.Goals as goal
use Rattle.shorthand.proofs.items.sequence_at.Goals.{After-read_digits-run, Then-is_within, in_default-via-in-One+else-is_within, in_default-via-in-Empty+else-text-run, in_default-via-in_default, else-d-gt3-via-then-d-gt3+else-not-is_later, else-d-gt3-via-else-d-gt3}

two-or-more : (ds : Digits) → (ds ≡ Empty → ⊥) → ((x : ℕ) → ds ≡ One x → ⊥) → one_digit 3 9 (λ d. d) (digits_in ds) ≡ wrong
two-or-more Empty n m = absurd (n refl)
two-or-more (One d) n m = absurd (m d refl)
two-or-more (Two a b) n m = refl
two-or-more (Three a b d) n m = refl
two-or-more Many n m = refl

read : (c : After-read_digits-run)
    → let t = c.args.text.now in
    let run = c.read_digits-run.result in
    stand_n Iso2539 t ≡ closed (λ d. d) (one_digit 3 9 (λ d. d) (digits_in run.value)) (drop run.after t)
read c =
    sequence-reads _ c.read_digits-run.result (sym (starts-with 78 c.args.text.now) ∙ sym c.starts_with.ensures.value ∙ c.if-not-starts_with.false) c.read_digits-run.ensures.digits c.read_digits-run.ensures.after

-- a digit from 3 to 9
digit : (c : Then-is_within)
    → let t = c.args.text.now in
    stand_n Iso2539 t ≡ whole c.in-One.d (drop c.read_digits-run.result.after t)
digit c = read (goal.at.Then-is_within c).After-read_digits-run ∙ rw (c.in-One.is, ← c.is_within.ensures, c.if-is_within.true)

pub returns-then-not-starts_with : goal.returns-then-not-starts_with
returns-then-not-starts_with c =
    rw c.at.ensures (opens-otherwise _ _ (sym (starts-with 78 c.args.text.now) ∙ sym c.starts_with.ensures.value ∙ c.if-not-starts_with.true))

pub returns-then-not-is_later : goal.returns-then-not-is_later
returns-then-not-is_later c =
    rw c.at-then-not-is_later.ensures
    (opens-beyond _ _ (digit (goal.at.returns-then-not-is_later c).Then-is_within) (sym c.is_later.ensures ∙ c.if-not-is_later.true) c.if-d-gt3.true)

pub returns-else-d-gt3 : goal.returns-else-d-gt3
returns-else-d-gt3 c =
    let d = c.in-One.d in
    opens-whole _ _ _ (digit (goal.at.returns-else-d-gt3 c).Then-is_within)
    (elim c.else-d-gt3.branch [
      | else-d-gt3-via-then-d-gt3+else-not-is_later w ↦ rw (← w.is_later.ensures, w.if-not-is_later.false)
      | else-d-gt3-via-else-d-gt3 w ↦ rw (le-leb d 3 w.if-d-gt3.false, or-true (later c.args.edition))
    ])
    (omega arith)

pub returns-in-Empty : goal.returns-in-Empty
returns-in-Empty c =
    rw c.at-in-Empty.ensures (opens-short _ _ (read (goal.at.returns-in-Empty c).After-read_digits-run ∙ rw (c.in-Empty.is, drop_of_length-le _ c.if-text-run.true)))

pub returns-in_default : goal.returns-in_default
returns-in_default c =
    rw c.at-in_default.ensures (opens-unfit _ _ (read (goal.at.returns-in_default c).After-read_digits-run ∙ elim c.in_default.branch [
      | in_default-via-in-One+else-is_within w ↦ rw (w.in-One.is, ← w.is_within.ensures, w.if-is_within.false)
      | in_default-via-in-Empty+else-text-run w ↦ rw (w.in-Empty.is, from_place _ _ w.if-text-run.false)
      | in_default-via-in_default w ↦ rw (two-or-more _ w.in_default.not-Empty w.in_default.not-One)
    ]))
