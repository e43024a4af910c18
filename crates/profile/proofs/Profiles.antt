-- A profile is taken, and refused by 22 or 23 at a place, exactly where the relations say so.
use Prim.Native.Nat.{ℕ, ◌<◌, zero-le, suc-le-suc}
use native.Mathlib.Omega.{arith}
use mathlib.Core.Path.{◌≡◌, refl, sym, ap, ◌∙◌, subst}
use mathlib.Core.Logic.{◌↔◌}
use mathlib.Core.Bool.{Bool, true, false, cond}
use mathlib.Core.List.{List, [], ◌∷◌}
use lib.Dec.{T}
use lib.ListN.{length}
use Rattle.rows.specs.Answer.{Answer, taken, refused, ◌>>=◌}
use Rattle.shorthand.specs.declared.Edition.{Edition}
use Rattle.shorthand.specs.declared.Edition.TheVariants.{Iso1057, Iso2539}
use Rattle.shorthand.specs.declared.Format.{Format}
use Rattle.shorthand.proofs.Tests.{holds}
use Rattle.profile.specs.Form.{form_of, Fills, stands, left, Misformed}
use Rattle.profile.specs.Agreement.{said_in, under}
use Rattle.profile.specs.Relation.{ProfileOf, no_profile, agreed, ProfileRefusal, out_of_form, disagrees}
use Rattle.profile.specs.Answers.{filled, agrees, held_to, profiled}
use Rattle.profile.proofs.Filling.{plain, filled_is, filled-fills, refused-misformed, misformed-refused}
use Rattle.profile.proofs.Agreeing.{agrees-exactly}

-- both forms are read from the front
pub form-plain : (e : Edition) → T (plain (form_of e))
form-plain Iso1057 = tt
form-plain Iso2539 = tt

-- and no text of no bytes is in form
no_bytes : (e : Edition) {bs : List ℕ} (t : List ℕ) → t ≡ [] → Fills (form_of e) t bs → ⊥
no_bytes Iso1057 t q (stands k r) = let z = ap length q in omega arith
no_bytes Iso1057 t q (left k r) = k
no_bytes Iso2539 t q (stands k r) = let z = ap length q in omega arith
no_bytes Iso2539 t q (left k r) = k

module _ (e : Edition) (f : Format) where
  -- what is answered for a text in form
  profiled-is : (p : List ℕ) {bs : List ℕ} → Fills (form_of e) p bs → profiled e f p ≡ held_to f (said_in e bs)
  unfolding profiled
  profiled-is [] r = absurd (no_bytes e [] refl r)
  profiled-is (b ∷ p) r = rw (filled_is (form-plain e) r 0)

  -- what is answered has one of these grounds
  data Ground (p : List ℕ) : Answer Format → Type 0 where
    taken-so : {g : Format} → ProfileOf e f p g → Ground p (taken g)
    refused-so : {n k : ℕ} → ProfileRefusal e f p n k → Ground p (refused n k)

  held : {p bs : List ℕ} → Fills (form_of e) p bs → Ground p (held_to f (said_in e bs))
  held {p} {bs} r = by (agrees f (said_in e bs)) refl
    where
      by : (x : Bool) → agrees f (said_in e bs) ≡ x → Ground p (cond x (taken (under (said_in e bs) f)) (refused 23 0))
      by true q = taken-so (agreed r ((agrees-exactly f (said_in e bs)).0 (rw q tt)))
      by false q = refused-so (disagrees r (λ a. let t = holds (agrees f (said_in e bs)) ((agrees-exactly f (said_in e bs)).1 a) in let z : ◌≡◌ {A = ℕ} 0 1 = cc in omega arith))

  ground : (p : List ℕ) → Ground p (profiled e f p)
  unfolding profiled
  ground [] = taken-so no_profile
  ground (b ∷ p) = by (filled (form_of e) 0 (b ∷ p)) refl
    where
      by : (a : Answer (List ℕ)) → filled (form_of e) 0 (b ∷ p) ≡ a → Ground (b ∷ p) (a >>= λ bs. held_to f (said_in e bs))
      by (taken bs) q = held (filled-fills (form_of e) (form-plain e) (b ∷ p) bs q)
      by (refused n k) q =
          let m = refused-misformed (form_of e) (form-plain e) (b ∷ p) n k q in
          refused-so (subst (λ (i : ℕ). ProfileRefusal e f (b ∷ p) i k) (sym m.0) (out_of_form (suc-le-suc zero-le) m.1))

  module _ (p : List ℕ) where
    taken-profile : {g : Format} → profiled e f p ≡ taken g → ProfileOf e f p g
    taken-profile {g} q = by (profiled e f p) (ground p) q
      where
        by : (a : Answer Format) → Ground p a → a ≡ taken g → ProfileOf e f p g
        by _ (taken-so {g = v} h) q = let same : v ≡ g = cc in subst (ProfileOf e f p) same h
        by _ (refused-so h) q = let z : ◌≡◌ {A = ℕ} 0 1 = cc in absurd (omega arith)

    refused-profile : {n k : ℕ} → profiled e f p ≡ refused n k → ProfileRefusal e f p n k
    refused-profile {n} {k} q = by (profiled e f p) (ground p) q
      where
        by : (a : Answer Format) → Ground p a → a ≡ refused n k → ProfileRefusal e f p n k
        by _ (taken-so h) q = let z : ◌≡◌ {A = ℕ} 0 1 = cc in absurd (omega arith)
        by _ (refused-so {n = m} {k = j} h) q = let a : m ≡ n = cc in let b : j ≡ k = cc in rw (← a, ← b) h

  profile-taken : {p : List ℕ} {g : Format} → ProfileOf e f p g → profiled e f p ≡ taken g
  unfolding profiled
  profile-taken no_profile = refl
  profile-taken (agreed {p = p} {bs = bs} r a) = profiled-is p r ∙ rw (holds (agrees f (said_in e bs)) ((agrees-exactly f (said_in e bs)).1 a))

  other-than : (p : List ℕ) {k : ℕ} → 0 < length p → Misformed (form_of e) p k → profiled e f p ≡ refused 22 k
  unfolding profiled
  other-than [] l m = absurd (omega (arith, l))
  other-than (b ∷ p) {k} l m = rw (misformed-refused (form_of e) (form-plain e) (b ∷ p) 22 k m)

  profile-refused : {p : List ℕ} {n k : ℕ} → ProfileRefusal e f p n k → profiled e f p ≡ refused n k
  profile-refused {p} (out_of_form l m) = other-than p l m
  profile-refused {p} (disagrees {bs = bs} r no-agreement) = profiled-is p r ∙ by (agrees f (said_in e bs)) refl
    where
      by : (x : Bool) → agrees f (said_in e bs) ≡ x → cond x (taken (under (said_in e bs) f)) (refused 23 0) ≡ refused 23 0
      by true q = absurd (no-agreement ((agrees-exactly f (said_in e bs)).0 (rw q tt)))
      by false q = refl

  -- exactly
  pub taken-exactly : (p : List ℕ) (g : Format) → (profiled e f p ≡ taken g) ↔ ProfileOf e f p g
  taken-exactly p g = (taken-profile p, profile-taken)

  pub refused-exactly : (p : List ℕ) (n k : ℕ) → (profiled e f p ≡ refused n k) ↔ ProfileRefusal e f p n k
  refused-exactly p n k = (refused-profile p, profile-refused)
