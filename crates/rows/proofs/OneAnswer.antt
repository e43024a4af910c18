-- One possible result: what a `Result` tells settles it, value or refusal.
use Prim.Native.Nat.{ℕ, ◌-◌}
use native.Mathlib.Omega.{arith}
use mathlib.Core.Path.{◌≡◌, refl, ap, sym, ◌∙◌}
use mathlib.Core.List.{List, [], ◌∷◌}
use lib.ListN.{get_or}
use Rattle.std.specs.Prelude.{Result, Ok, Err}
use Rattle.rows.specs.Refusals.{numbered}
use Rattle.rows.specs.Answer.{Answer, refusal, number_of, place_of, told}
use Rattle.rows.specs.declared.refusals.Cause.{Cause}
use Rattle.rows.specs.declared.refusals.Refusal.{Refusal}

-- the causes by their numbers, and back
abbrev causes : List Cause
causes =
    Cause.Edition ∷ Cause.ShorthandForm ∷ Cause.BeyondEdition ∷ Cause.Length ∷ Cause.Parity ∷ Cause.Character ∷ Cause.ControlOut ∷ Cause.Head ∷ Cause.Start ∷ Cause.Misplaced ∷ Cause.Figures ∷ Cause.Sign ∷ Cause.SecondZero ∷ Cause.CutShort ∷ Cause.NoBlock ∷ Cause.Record ∷ Cause.Unfit ∷ Cause.InexactSpeed ∷ Cause.Room ∷ Cause.Uncodable ∷ Cause.CodeLength ∷ Cause.ProfileForm ∷ Cause.Disagreement ∷ Cause.IndexRoom ∷ Cause.NoNumber ∷ Cause.Travel ∷ Cause.Outside ∷ []

abbrev caused : ℕ → Cause
caused n = get_or causes (n - 1) Cause.Edition

caused-numbered : (c : Cause) → caused (numbered c) ≡ c
caused-numbered Cause.Edition = refl
caused-numbered Cause.ShorthandForm = refl
caused-numbered Cause.BeyondEdition = refl
caused-numbered Cause.Length = refl
caused-numbered Cause.Parity = refl
caused-numbered Cause.Character = refl
caused-numbered Cause.ControlOut = refl
caused-numbered Cause.Head = refl
caused-numbered Cause.Start = refl
caused-numbered Cause.Misplaced = refl
caused-numbered Cause.Figures = refl
caused-numbered Cause.Sign = refl
caused-numbered Cause.SecondZero = refl
caused-numbered Cause.CutShort = refl
caused-numbered Cause.NoBlock = refl
caused-numbered Cause.Record = refl
caused-numbered Cause.Unfit = refl
caused-numbered Cause.InexactSpeed = refl
caused-numbered Cause.Room = refl
caused-numbered Cause.Uncodable = refl
caused-numbered Cause.CodeLength = refl
caused-numbered Cause.ProfileForm = refl
caused-numbered Cause.Disagreement = refl
caused-numbered Cause.IndexRoom = refl
caused-numbered Cause.NoNumber = refl
caused-numbered Cause.Travel = refl
caused-numbered Cause.Outside = refl

-- a number is one cause's
pub same-cause : (c d : Cause) → numbered c ≡ numbered d → c ≡ d
same-cause c d e = sym (caused-numbered c) ∙ ap caused e ∙ caused-numbered d

-- a refusal is its number and its place
pub same-refusal : {A : Type 0} (r q : Refusal) → ◌≡◌ {A = Answer A} (refusal r) (refusal q) → r ≡ q
same-refusal r q e =
    let c : r.cause ≡ q.cause = same-cause _ _ (ap number_of e) in
    let p : r.place ≡ q.place = ap place_of e in
    let m : (k : Cause) → q.cause ≡ k → ◌≡◌ {A = Refusal} (record { cause = k; place = r.place }) q = λ k h. rw (sym h, p) in
    m r.cause (sym c)

pub one : {A : Type 0} (r q : Result A Refusal) → told r ≡ told q → r ≡ q
one (Ok a) (Ok b) e = let s : a ≡ b = cc in ap Ok s
one (Ok a) (Err q) e = let z : ◌≡◌ {A = ℕ} 0 1 = cc in absurd (omega arith)
one (Err r) (Ok b) e = let z : ◌≡◌ {A = ℕ} 0 1 = cc in absurd (omega arith)
one (Err r) (Err q) e = ap Err (same-refusal r q e)
