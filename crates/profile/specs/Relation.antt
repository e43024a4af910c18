-- A profile that a detailed shorthand agrees with, and refusals 22 and 23, as relations (document 02, 2/12).
use Rattle.std.specs.Prelude.{ℕ, ◌<◌, ◌≡◌, List, [], length}
use Rattle.shorthand.specs.declared.Edition.{Edition}
use Rattle.shorthand.specs.declared.Format.{Format}
use Rattle.shorthand.specs.Lawful.{Lawful}
use Rattle.shorthand.specs.Spell.{spell}
use Rattle.shorthand.specs.Mending.{Spelling}
use Rattle.profile.specs.Form.{form_of, Fills, Misformed}
use Rattle.profile.specs.Agreement.{said_in, Agrees, under}

-- no bytes are no profile; else the text is in form, and the detailed shorthand agrees with what it says: the Format under it
pub data ProfileOf (e : Edition) (f : Format) : List ℕ → Format → Type 0 where
  no_profile : ProfileOf e f [] f
  agreed : {p bs : List ℕ} → Fills (form_of e) p bs → Agrees f (said_in e bs) → ProfileOf e f p (under (said_in e bs) f)

-- 22 where the text stops to be the beginning of one in form, 23 at 0 where the detailed shorthand does not agree
pub data ProfileRefusal (e : Edition) (f : Format) (p : List ℕ) : ℕ → ℕ → Type 0 where
  out_of_form : {k : ℕ} → 0 < length p → Misformed (form_of e) p k → ProfileRefusal e f p 22 k
  disagrees : {bs : List ℕ} → Fills (form_of e) p bs → (Agrees f (said_in e bs) → ⊥) → ProfileRefusal e f p 23 0

-- ---- with the detailed shorthand

-- f is the Format of the edition with the number n, the detailed shorthand s and the profile p
pub record Settled (n : ℕ) (s p : List ℕ) (f : Format) : Type 0 where
  pub detailed : Format
  pub lawful : Lawful n detailed
  pub spelt : s ≡ spell detailed
  pub holds : ProfileOf lawful.edition detailed p f

-- 1, 2 and 3 of the detailed shorthand; 22 and 23 of the profile beside one that is in order
pub data Unsettled (n : ℕ) (s p : List ℕ) : ℕ → ℕ → Type 0 where
  shorthand : {m k : ℕ} → Spelling n s m k → Unsettled n s p m k
  profile : {f : Format} {m k : ℕ} (l : Lawful n f) → s ≡ spell f → ProfileRefusal l.edition f p m k → Unsettled n s p m k
