-- One possible result: two results that meet a promise on what they tell are the same; so too where it tells of the value by a reading that no two values share.
use Prim.Native.Nat.{ℕ}
use native.Mathlib.Omega.{arith}
use mathlib.Core.Path.{◌≡◌, ap}
use Rattle.std.specs.Prelude.{Result, Ok, Err}
use Rattle.rows.specs.Answer.{told, told_by}
use Rattle.rows.specs.declared.refusals.Refusal.{Refusal}
use Rattle.rows.proofs.OneAnswer.{one, same-refusal}

pub one-result : {A : Type 0} (r q : Result A Refusal) → told r ≡ told q → r ≡ q
one-result r q e = one r q e

module _ {A B : Type 0} (f : A → B) (own : (a b : A) → f a ≡ f b → a ≡ b) where
  pub one-read : (r q : Result A Refusal) → told_by f r ≡ told_by f q → r ≡ q
  one-read (Ok a) (Ok b) e = let s : f a ≡ f b = cc in ap Ok (own a b s)
  one-read (Ok a) (Err q) e = let z : ◌≡◌ {A = ℕ} 0 1 = cc in absurd (omega arith)
  one-read (Err r) (Ok b) e = let z : ◌≡◌ {A = ℕ} 0 1 = cc in absurd (omega arith)
  one-read (Err r) (Err q) e = ap Err (same-refusal r q e)
