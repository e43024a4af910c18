-- What is answered of a piece alone, by what was answered of its rows or counted of its blocks; and the number of its refusal.
use Prim.Native.Nat.{ℕ, ◌<◌}
use mathlib.Core.Path.{◌≡◌, refl, sym, ap}
use mathlib.Core.List.{List}
use native.Mathlib.Omega.{arith}
use lib.ListN.{length}
use borrow.Author.Tests.{ne_eqb}
use mathlib.Core.Bool.{true, false}
use Rattle.std.specs.Prelude.{Result, Ok, Err, is_err}
use Rattle.rows.specs.declared.refusals.Refusal.{Refusal}
use Rattle.salvage.specs.Turns.{losses_by}
use Rattle.rows.specs.declared.refusals.Cause.{Cause}
use Rattle.rows.specs.Refusals.{numbered}
use Rattle.rows.specs.Answer.{Answer, taken, refused, number_of, told, void}
use Rattle.rows.specs.Kept.{KeptRow, kept}
use Rattle.rows.specs.Stages.{judged}
use Rattle.shorthand.specs.declared.Format.{Format}
use Rattle.reading.specs.declared.Entry.{Entry}
use Rattle.reading.specs.Parse.{blocks_at}
use Rattle.reading.specs.Answers.{size_of}
use Rattle.reading.specs.Survey.{alone}

-- an answer without its value is the same, whatever the value was
pub void-size : (a : Answer (List Entry)) → void (size_of a) ≡ void a
void-size (taken es) = refl
void-size (refused n p) = refl

module _ (f : Format) (t : List ℕ) where
  -- the first three stages refuse it
  pub alone-refused : (n p : ℕ) → refused n p ≡ judged t → refused n p ≡ void (alone f t)
  unfolding alone
  alone-refused n p e = rw (sym e)

  -- or its blocks are counted
  pub alone-counted : taken tt ≡ judged t → (rs : List KeptRow) → rs ≡ kept t → (a : Answer ℕ) → a ≡ size_of (blocks_at (length rs) (length t) f 0 rs) → void a ≡ void (alone f t)
  unfolding alone
  alone-counted e rs q a c = let b = blocks_at (length (kept t)) (length t) f 0 (kept t) in rw (sym e, c, q) (void-size b)

-- no refusal has the number 0
pub numbered-some : (c : Cause) → 0 < numbered c
numbered-some Cause.Edition = omega arith
numbered-some Cause.ShorthandForm = omega arith
numbered-some Cause.BeyondEdition = omega arith
numbered-some Cause.Length = omega arith
numbered-some Cause.Parity = omega arith
numbered-some Cause.Character = omega arith
numbered-some Cause.ControlOut = omega arith
numbered-some Cause.Head = omega arith
numbered-some Cause.Start = omega arith
numbered-some Cause.Misplaced = omega arith
numbered-some Cause.Figures = omega arith
numbered-some Cause.Sign = omega arith
numbered-some Cause.SecondZero = omega arith
numbered-some Cause.CutShort = omega arith
numbered-some Cause.NoBlock = omega arith
numbered-some Cause.Record = omega arith
numbered-some Cause.Unfit = omega arith
numbered-some Cause.InexactSpeed = omega arith
numbered-some Cause.Room = omega arith
numbered-some Cause.Uncodable = omega arith
numbered-some Cause.CodeLength = omega arith
numbered-some Cause.ProfileForm = omega arith
numbered-some Cause.Disagreement = omega arith
numbered-some Cause.IndexRoom = omega arith
numbered-some Cause.NoNumber = omega arith
numbered-some Cause.Travel = omega arith
numbered-some Cause.Outside = omega arith

-- a piece that is accepted has no number
pub no_number : (a : Answer (List Entry)) → taken tt ≡ void a → number_of a ≡ 0
no_number (taken es) e = refl
no_number (refused n p) e = let z : ◌≡◌ {A = ℕ} 0 1 = cc in absurd (omega (arith, z))

-- and any other its refusal's
pub own_number : (a : Answer (List Entry)) (n p : ℕ) → refused n p ≡ void a → n ≡ number_of a
own_number (taken es) n p e = let z : ◌≡◌ {A = ℕ} 0 1 = cc in absurd (omega (arith, z))
own_number (refused m q) n p e = ap number_of e

-- so it is a loss just where it is refused
pub loss_by : (r : Result (Unit {0}) Refusal) (a : Answer (List Entry)) → told r ≡ void a → is_err r ≡ true → losses_by (number_of a) ≡ 1
loss_by (Ok u) a e z = cc
loss_by (Err r) a e z = rw (ne_eqb (number_of a) 0 (λ w. omega (arith, w, own_number a _ _ e, numbered-some r.cause)))

pub none_by : (r : Result (Unit {0}) Refusal) (a : Answer (List Entry)) → told r ≡ void a → is_err r ≡ false → losses_by (number_of a) ≡ 0
none_by (Ok tt) a e z = rw (no_number a e)
none_by (Err r) a e z = cc
