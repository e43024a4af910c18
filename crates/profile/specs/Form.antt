-- The form of the general shorthand (document 02, 2/12), and refusal 22 as a relation.
use Rattle.std.specs.Prelude.{ℕ, suc, ◌<◌, Bool, true, false, not, List, [], ◌∷◌, ◌++◌, T, length, take}
use Rattle.rows.specs.Row.{among}
use Rattle.shorthand.specs.declared.Edition.{Edition}
use Rattle.shorthand.specs.declared.Edition.TheVariants.{Iso1057, Iso2539}

-- one place of the form: the bytes that may stand there, and whether one must
pub record Slot : Type 0 where
  pub bytes : List ℕ
  pub must : Bool

abbrev pub one : List ℕ → Slot
one bs = record { bytes = bs; must = true }

abbrev pub maybe : List ℕ → Slot
maybe bs = record { bytes = bs; must = false }

abbrev pub digits : List ℕ
digits = 48 ∷ 49 ∷ 50 ∷ 51 ∷ 52 ∷ 53 ∷ 54 ∷ 55 ∷ 56 ∷ 57 ∷ []

-- R or D, or neither; a space or none; three digits; a space or none
abbrev pub counts : List Slot → List Slot
counts rest = maybe (82 ∷ 68 ∷ []) ∷ maybe (32 ∷ []) ∷ one digits ∷ one digits ∷ one digits ∷ maybe (32 ∷ []) ∷ rest

-- 1057: I, P or L, M or I, and the counts. 2539: P or L, one of A T S, M, the counts, and one of A I B
abbrev pub form_of : Edition → List Slot
form_of Iso1057 = one (73 ∷ []) ∷ one (80 ∷ 76 ∷ []) ∷ one (77 ∷ 73 ∷ []) ∷ counts []
form_of Iso2539 = one (80 ∷ 76 ∷ []) ∷ one (65 ∷ 84 ∷ 83 ∷ []) ∷ one (77 ∷ []) ∷ counts (one (65 ∷ 73 ∷ 66 ∷ []) ∷ [])

-- a text fills the places of a form: with these bytes, 0 where none stands
pub data Fills : List Slot → List ℕ → List ℕ → Type 0 where
  none : Fills [] [] []
  stands : {s : Slot} {ss : List Slot} {b : ℕ} {t bs : List ℕ} → T (among b s.bytes) → Fills ss t bs → Fills (s ∷ ss) (b ∷ t) (b ∷ bs)
  left : {s : Slot} {ss : List Slot} {t bs : List ℕ} → T (not s.must) → Fills ss t bs → Fills (s ∷ ss) t (0 ∷ bs)

abbrev pub InForm : List Slot → List ℕ → Type 0
InForm ss t = (bs : List ℕ) × Fills ss t bs

-- some bytes behind these bring them into form
abbrev pub Begins : List Slot → List ℕ → Type 0
Begins ss x = (more : List ℕ) × InForm ss (x ++ more)

-- 22 at the first wrong byte, or at the length of a text that ends too soon
pub data Misformed (ss : List Slot) (t : List ℕ) : ℕ → Type 0 where
  wrong : {p : ℕ} → p < length t → Begins ss (take p t) → (Begins ss (take (suc p) t) → ⊥) → Misformed ss t p
  short : Begins ss t → (InForm ss t → ⊥) → Misformed ss t (length t)
