-- What every operation answers: a value, or a refusal by its number and place (document 01, "Refusal numbers").
use Rattle.std.specs.Prelude.{ℕ, Result, Ok, Err}
use Rattle.rows.specs.declared.refusals.Refusal.{Refusal}
use Rattle.rows.specs.Refusals.{numbered}

infixr 20 ◌>>◌ ◌>>=◌
pub data Answer (A : Type 0) : Type 0 where
  taken : A → Answer A
  refused : ℕ → ℕ → Answer A

-- success has number 0, place 0
abbrev pub number_of : {A : Type 0} → Answer A → ℕ
number_of (taken a) = 0
number_of (refused n p) = n

abbrev pub place_of : {A : Type 0} → Answer A → ℕ
place_of (taken a) = 0
place_of (refused n p) = p

-- go on only with what was taken; the first refusal is the answer
abbrev pub ◌>>=◌ : {A B : Type 0} → Answer A → (A → Answer B) → Answer B
taken a >>= f = f a
refused n p >>= f = refused n p

abbrev pub ◌>>◌ : {A B : Type 0} → Answer A → Answer B → Answer B
taken a >> b = b
refused n p >> b = refused n p

abbrev pub refusal : {A : Type 0} → Refusal → Answer A
refusal r = refused (numbered r.cause) r.place

-- what a `Result` says
abbrev pub told : {A : Type 0} → Result A Refusal → Answer A
told (Ok a) = taken a
told (Err r) = refusal r

-- the same where its value stands for another
abbrev pub told_by : {A B : Type 0} → (A → B) → Result A Refusal → Answer B
told_by f (Ok a) = taken (f a)
told_by f (Err r) = refusal r

-- an answer without its value, for a record that stands beside the enum
abbrev pub void : {A : Type 0} → Answer A → Answer (Unit {0})
void (taken a) = taken tt
void (refused n p) = refused n p

-- the value, or what a refusal hands back in its place
abbrev pub value_or : {A : Type 0} → A → Answer A → A
value_or d (taken a) = a
value_or d (refused n p) = d
