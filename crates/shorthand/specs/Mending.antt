-- Refusals 1, 2 and 3 as a relation: "that further bytes could mend", without the parser's words (document 01, "The shorthand").
use Rattle.std.specs.Prelude.{ℕ, ◌<◌, ◌≡◌, Bool, true, not, List, [], ◌∷◌, ◌++◌, length, take, drop, T}
use Rattle.shorthand.specs.declared.Format.{Format}
use Rattle.shorthand.specs.declared.Edition.{Edition}
use Rattle.shorthand.specs.declared.Edition.TheVariants.{Iso2539}
use Rattle.shorthand.specs.Edition.{number_of}
use Rattle.shorthand.specs.Spell.{spell, starts, is_digit}
use Rattle.shorthand.specs.Lawful.{LawfulIn}

-- no digit stands at the front
abbrev pub apart : List ℕ → Bool
apart [] = true
apart (b ∷ t) = not (is_digit b)

-- a text of the edition
pub record Spelt (e : Edition) (t : List ℕ) : Type 0 where
  pub format : Format
  pub lawful : LawfulIn e format
  pub text : t ≡ spell format

-- further bytes could make what begins at place p an item of the edition: with some bytes behind the text, some bytes x from p on,
-- their digits all that stand together, and then "*" make a text of the edition
pub record Mends (e : Edition) (t : List ℕ) (p : ℕ) : Type 0 where
  pub further : List ℕ
  pub x : List ℕ
  pub y : List ℕ
  pub splits : drop p t ++ further ≡ x ++ y
  pub some : 0 < length x
  pub whole : T (apart y)
  pub spelt : Spelt e (take p t ++ (x ++ (42 ∷ [])))

-- an item begins at place p: it is the first byte; or those before it are in order, and the byte there is no digit of the item before and no "*"
pub data Begins (e : Edition) (t : List ℕ) (p : ℕ) : Type 0 where
  first : p ≡ 0 → Begins e t p
  later : Spelt e (take p t ++ (42 ∷ [])) → T (apart (drop p t)) → T (not (starts 42 (drop p t))) → Begins e t p

-- 2 and 3 of a text: at the first byte of the first item that no further bytes could mend, 2 if they couldn't bring it into form, else 3;
-- where there is none, 2 at a byte after "*", or at the length of a text that lacks bytes at its end
pub data Misspelt (e : Edition) (t : List ℕ) : ℕ → ℕ → Type 0 where
  out_of_form : {p : ℕ} → p < length t → Begins e t p → (Mends e t p → ⊥) → (Mends Iso2539 t p → ⊥) → Misspelt e t 2 p
  beyond_edition : {p : ℕ} → p < length t → Begins e t p → (Mends e t p → ⊥) → Mends Iso2539 t p → Misspelt e t 3 p
  behind_star : {p : ℕ} → p < length t → Spelt e (take p t) → Misspelt e t 2 p
  lacking : (Spelt e t → ⊥) → (u : List ℕ) → Spelt e (t ++ u) → Misspelt e t 2 (length t)

-- 1, 2 and 3 of a text by the number n of an edition
pub data Spelling (n : ℕ) (t : List ℕ) : ℕ → ℕ → Type 0 where
  unknown : ((e : Edition) → n ≡ number_of e → ⊥) → Spelling n t 1 0
  known : {m p : ℕ} (e : Edition) → n ≡ number_of e → Misspelt e t m p → Spelling n t m p
