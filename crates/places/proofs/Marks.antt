-- Marks in a program's rows: each mark of a sequence word has all its digits behind it, and each CR its LF.
use Prim.Native.Nat.{ℕ, ◌^◌, ◌<◌}
use mathlib.Core.Path.{◌≡◌, refl, sym, ap, ◌∙◌, subst}
use mathlib.Core.Bool.{Bool, true, false, cond}
use mathlib.Core.List.{List, [], ◌∷◌, ◌++◌, append-nil, append_assoc}
use native.Mathlib.Omega.{arith}
use lib.ListN.{length}
use lib.Dec.{T, eqb}
use borrow.Author.Tests.{eqb-false}
use Rattle.rows.specs.Passes.{Every}
use Rattle.shorthand.specs.declared.Item.{Item}
use Rattle.shorthand.specs.declared.Format.{Format}
use Rattle.shorthand.specs.Layout.{Way}
use Rattle.shorthand.specs.Edition.{letters, any_of}
use Rattle.shorthand.specs.Facts.{Fair, none, more, Facts}
use Rattle.words.specs.declared.Word.{Word}
use Rattle.reading.specs.declared.Block.{Block}
use Rattle.reading.specs.Relation.{digits, Worded, End, lf, cr_lf, Program}
use Rattle.words.specs.Figures.{is_digit}
use Rattle.reading.proofs.DigitRows.{digits-length, digits-digit}
use Rattle.reading.proofs.WordsTake.{fails}
use Rattle.places.specs.Begins.{Digit}
use Rattle.places.proofs.DigitLists.{no_digit}
use Rattle.places.proofs.Behind.{Behind, behind-none, program-behind, every-digit, every-word}

-- ---- digits behind a mark

-- n digits stand at the front
abbrev pub Numbered : ℕ → List ℕ → Type 0
Numbered n z = (d : List ℕ) × (o : List ℕ) × Every Digit d × (length d ≡ n) × (z ≡ d ++ o)

numbered-grow : (n : ℕ) (z b : List ℕ) → Numbered n z → Numbered n (z ++ b)
numbered-grow n z b q = (q.0, q.1 ++ b, q.2, q.3, ap (λ l. l ++ b) q.4 ∙ append_assoc q.0 q.1 b)

-- a character that is no digit, no sign and no item's letter
module _ (t : ℕ) (no : is_digit t ≡ false) (signs : (43 ≡ t → ⊥) × (45 ≡ t → ⊥)) (unlisted : any_of (λ d. eqb d t) letters ≡ false) where
  other-digit : (c : ℕ) → Digit c → c ≡ t → ⊥
  other-digit c h e = no_digit t no (subst Digit e h)

  word-other : (F : List ℕ → Type 0) (i : Item) → T (any_of (λ c. eqb c i.letter) letters) → (y : Way) (w : Word) (d : List ℕ) → Worded y i w d → Behind t F d
  word-other F i known y w d q =
      behind-none t F d (every-word other-digit signs.0 signs.1 y i (eqb-false i.letter t (fails (λ d. eqb d t) letters i.letter known unlisted)) q)

  words-other : (F : List ℕ → Type 0) {its : List Item} → Fair its → Every (λ i. (y : Way) (w : Word) (d : List ℕ) → Worded y i w d → Behind t F d) its
  words-other F none = tt
  words-other F (more {it = i} known w d h) = (word-other F i known, words-other F h)

  end-other : (10 ≡ t → ⊥) × (13 ≡ t → ⊥) → {e : List ℕ} → End e → Every (λ c. c ≡ t → ⊥) e
  end-other h lf = (h.0, tt)
  end-other h cr_lf = (h.1, (h.0, tt))

  number-holds : (n : ℕ) (alignment : Bool) (v : ℕ) → v < 10 ^ n → Behind t (Numbered n) (cond alignment 58 78 ∷ digits n v)
  number-holds n alignment v small [] z e =
      let h : z ≡ digits n v = cc in
      (digits n v, [], digits-digit n v small, digits-length n v, h ∙ sym (append-nil (digits n v)))
  number-holds n alignment v small (c ∷ y) z e =
      let h : digits n v ≡ y ++ (t ∷ z) = cc in
      behind-none t (Numbered n) (digits n v) (every-digit other-digit signs.0 signs.1 (digits n v) (digits-digit n v small)) y z h

  follows : (f : Format) → Facts f → (9 ≡ t → ⊥) × (37 ≡ t → ⊥) × (47 ≡ t → ⊥) → (10 ≡ t → ⊥) × (13 ≡ t → ⊥) → {bs : List Block} {x : List ℕ} → Program f bs x
      → Behind t (Numbered f.sequence) x
  follows f facts others ends p =
      let F = Numbered f.sequence in
      program-behind t F (numbered-grow f.sequence) others (λ e h. behind-none t F e (end-other ends h)) f (words-other F facts.fair) (number-holds f.sequence) p

-- wherever a mark stands, all digits of the sequence number stand behind it
pub mark-follows : (f : Format) → Facts f → (mark : Bool) {bs : List Block} {x : List ℕ} → Program f bs x → Behind (cond mark 58 78) (Numbered f.sequence) x
mark-follows f facts true p =
    follows 58 refl ((λ e. omega arith), (λ e. omega arith)) refl f facts ((λ e. omega arith), (λ e. omega arith), (λ e. omega arith)) ((λ e. omega arith), (λ e. omega arith)) p
mark-follows f facts false p =
    follows 78 refl ((λ e. omega arith), (λ e. omega arith)) refl f facts ((λ e. omega arith), (λ e. omega arith), (λ e. omega arith)) ((λ e. omega arith), (λ e. omega arith)) p

-- ---- LF behind CR

abbrev pub LFNext : List ℕ → Type 0
LFNext z = (o : List ℕ) × (z ≡ 10 ∷ o)

both-next : Behind 13 LFNext (13 ∷ 10 ∷ [])
both-next [] z q = ([], cc)
both-next (c ∷ y) z q = let h : 10 ∷ [] ≡ y ++ (13 ∷ z) = cc in behind-none 13 LFNext (10 ∷ []) ((λ h. omega arith), tt) y z h

end-next : (e : List ℕ) → End e → Behind 13 LFNext e
end-next e lf = behind-none 13 LFNext (10 ∷ []) ((λ h. omega arith), tt)
end-next e cr_lf = both-next

number-next : (n : ℕ) (alignment : Bool) (v : ℕ) → v < 10 ^ n → Behind 13 LFNext (cond alignment 58 78 ∷ digits n v)
number-next n alignment v small =
    behind-none 13 LFNext (cond alignment 58 78 ∷ digits n v) (mark alignment, every-digit (λ c h e. omega arith) (λ e. omega arith) (λ e. omega arith) (digits n v) (digits-digit n v small))
  where
    mark : (alignment : Bool) → ◌≡◌ {A = ℕ} (cond alignment 58 78) 13 → ⊥
    mark true e = omega arith
    mark false e = omega arith

pub cr-follows : (f : Format) → Facts f → {bs : List Block} {x : List ℕ} → Program f bs x → Behind 13 LFNext x
cr-follows f facts p =
    program-behind 13 LFNext (λ z b q. (q.0 ++ b, ap (λ l. l ++ b) q.1)) ((λ e. omega arith), (λ e. omega arith), (λ e. omega arith)) end-next f
    (words-other 13 refl ((λ e. omega arith), (λ e. omega arith)) refl LFNext facts.fair) (number-next f.sequence) p
