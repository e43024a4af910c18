-- The Format of an edition, a detailed shorthand and a profile: taken, and refused by 1, 2, 3, 22 or 23 at a place, exactly where the relations say so.
use Prim.Native.Nat.{ℕ}
use native.Mathlib.Omega.{arith}
use mathlib.Core.Path.{◌≡◌, refl, sym, ap, ◌∙◌}
use mathlib.Core.Logic.{⊎_elim, ◌↔◌}
use mathlib.Core.Bool.{not}
use mathlib.Core.List.{List, [], ◌∷◌}
use lib.Dec.{T, eqb}
use Rattle.rows.specs.Answer.{Answer, taken, refused, ◌>>=◌}
use Rattle.rows.specs.Row.{among}
use Rattle.shorthand.specs.declared.Edition.{Edition}
use Rattle.shorthand.specs.declared.Edition.TheVariants.{Iso1057, Iso2539}
use Rattle.shorthand.specs.declared.Format.{Format}
use Rattle.shorthand.specs.Edition.{number_of}
use Rattle.shorthand.specs.Spell.{spell}
use Rattle.shorthand.specs.Lawful.{Lawful}
use Rattle.shorthand.specs.Facts.{Facts}
use Rattle.shorthand.specs.Parse.{parsed}
use Rattle.shorthand.proofs.Accepted.{accepted}
use Rattle.shorthand.proofs.Fairness.{lawful-facts, addressed-facts}
use Rattle.shorthand.proofs.Mended.{spelling-exactly}
use Rattle.shorthand.proofs.Refusals.{spelling-row}
use Rattle.profile.specs.Agreement.{said_in}
use Rattle.profile.specs.Relation as relation
use Rattle.profile.specs.Relation.{ProfileOf, out_of_form, disagrees, Settled, Unsettled, shorthand, profile}
use Rattle.profile.specs.Answers.{profiled, edition_of, agreed}
use Rattle.profile.proofs.Profiles.{taken-exactly, refused-exactly}

-- an edition is the one with its number
own-number : (e : Edition) → edition_of (number_of e) ≡ e
own-number Iso1057 = refl
own-number Iso2539 = refl

module _ (n : ℕ) (s p : List ℕ) where
  -- the detailed shorthand's refusal comes first
  first-refused : {m k : ℕ} → parsed n s ≡ refused m k → agreed n s p ≡ refused m k
  unfolding agreed
  first-refused q = rw q

  -- and one in order is held to the profile
  held_to : {f : Format} (l : Lawful n f) → s ≡ spell f → agreed n s p ≡ profiled l.edition f p
  unfolding agreed
  held_to {f} l q = rw ((accepted n s f).1 (q, l)) (ap (λ e. profiled e f p) (ap edition_of l.number ∙ own-number l.edition))

  taken-settled : {f : Format} → agreed n s p ≡ taken f → Settled n s p f
  taken-settled {f} h = by (parsed n s) refl
    where
      by : (a : Answer Format) → parsed n s ≡ a → Settled n s p f
      by (taken g) q =
          let r = (accepted n s g).0 q in
          record { detailed = g; lawful = r.1; spelt = r.0; holds = (taken-exactly r.1.edition g p f).0 (sym (held_to r.1 r.0) ∙ h) }
      by (refused m k) q = let e = first-refused q in let z : ◌≡◌ {A = ℕ} 0 1 = cc in absurd (omega arith)

  settled-taken : {f : Format} → Settled n s p f → agreed n s p ≡ taken f
  settled-taken {f} r = held_to r.lawful r.spelt ∙ (taken-exactly r.lawful.edition r.detailed p f).1 r.holds

  refused-unsettled : {m k : ℕ} → agreed n s p ≡ refused m k → Unsettled n s p m k
  refused-unsettled {m} {k} h = by (parsed n s) refl
    where
      by : (a : Answer Format) → parsed n s ≡ a → Unsettled n s p m k
      by (taken g) q =
          let r = (accepted n s g).0 q in
          profile r.1 r.0 ((refused-exactly r.1.edition g p m k).0 (sym (held_to r.1 r.0) ∙ h))
      by (refused i j) q = shorthand ((spelling-exactly n s m k).0 (q ∙ sym (first-refused q) ∙ h))

  unsettled-refused : {m k : ℕ} → Unsettled n s p m k → agreed n s p ≡ refused m k
  unsettled-refused {m} {k} (shorthand h) = first-refused ((spelling-exactly n s m k).1 h)
  unsettled-refused {m} {k} (profile {f = f} l q h) = held_to l q ∙ (refused-exactly l.edition f p m k).1 h

-- ---- exactly

pub settled-exactly : (n : ℕ) (s p : List ℕ) (f : Format) → (agreed n s p ≡ taken f) ↔ Settled n s p f
settled-exactly n s p f = (taken-settled n s p, settled-taken n s p)

pub unsettled-exactly : (n : ℕ) (s p : List ℕ) (m k : ℕ) → (agreed n s p ≡ refused m k) ↔ Unsettled n s p m k
unsettled-exactly n s p m k = (refused-unsettled n s p, unsettled-refused n s p)

-- one Format fits, or one number at one place
pub one_format : {n : ℕ} {s p : List ℕ} {f g : Format} → Settled n s p f → Settled n s p g → f ≡ g
one_format {n} {s} {p} a b = let q = settled-taken n s p a in let r = settled-taken n s p b in cc

pub one-refusal : {n : ℕ} {s p : List ℕ} {m k i j : ℕ} → Unsettled n s p m k → Unsettled n s p i j → (m ≡ i) × (k ≡ j)
one-refusal {n} {s} {p} a b = let q = unsettled-refused n s p a in let r = unsettled-refused n s p b in (cc, cc)

-- ---- what a profile leaves as it is

held-facts : {e : Edition} {f g : Format} {p : List ℕ} → Facts f → ProfileOf e f p g → Facts g
held-facts h relation.no_profile = h
held-facts {e} h (relation.agreed {bs = bs} r a) = addressed-facts (not (eqb (said_in e bs).way 84)) h

pub settled-facts : {n : ℕ} {s p : List ℕ} {f : Format} → Settled n s p f → Facts f
settled-facts r = held-facts (lawful-facts r.lawful) r.holds

pub agreed-facts : (n : ℕ) (s p : List ℕ) (f : Format) → agreed n s p ≡ taken f → Facts f
agreed-facts n s p f q = settled-facts (taken-settled n s p q)

-- without a profile the answer is the detailed shorthand's
pub no_profile : (n : ℕ) (s : List ℕ) → agreed n s [] ≡ parsed n s
unfolding agreed profiled
no_profile n s = by (parsed n s)
  where
    by : (a : Answer Format) → (a >>= λ f. profiled (edition_of n) f []) ≡ a
    by (taken f) = refl
    by (refused m k) = refl

-- ---- the numbers

pub refused-numbers : {n : ℕ} {s p : List ℕ} {m k : ℕ} → Unsettled n s p m k → T (among m (1 ∷ 2 ∷ 3 ∷ 22 ∷ 23 ∷ []))
refused-numbers (shorthand h) = ⊎_elim (λ r. rw r.0 tt) (λ r. ⊎_elim (λ q. rw q tt) (λ q. rw q tt) r.0) (spelling-row h)
refused-numbers (profile l q (out_of_form k h)) = tt
refused-numbers (profile l q (disagrees r h)) = tt
