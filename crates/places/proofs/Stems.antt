-- What rows end in: their last character that is neither digit nor sign tells the head, a sequence word and a word apart.
use Prim.Native.Nat.{ℕ}
use mathlib.Core.Path.{◌≡◌, refl, sym, ap, ◌∙◌, subst}
use mathlib.Core.Logic.{◌⊎◌, inl, inr}
use mathlib.Core.Bool.{Bool, true, false, ◌||◌, cond, false≢true}
use mathlib.Core.List.{List, [], ◌∷◌, ◌++◌, append-nil, append_assoc}
use native.Mathlib.Omega.{arith}
use lib.IntN.{ℤ}
use lib.Dec.{T, eqb}
use borrow.Author.Tests.{eqb-true, eqb-false, ne_eqb}
use Rattle.rows.specs.Passes.{Every}
use Rattle.shorthand.specs.declared.Format.{Format}
use Rattle.shorthand.specs.Layout.{Sign}
use Rattle.shorthand.specs.Edition.{letters, any_of}
use Rattle.shorthand.specs.Facts.{Facts}
use Rattle.reading.specs.declared.Block.{Block}
use Rattle.reading.specs.Relation.{Signed, End, lf, cr_lf, skip_rows, start_rows, Blocked, block, Blocks, Program, program}
use Rattle.words.specs.Figures.{is_figure}
use Rattle.reading.proofs.ReadData.{either}
use Rattle.reading.proofs.WordsTake.{fails}
use Rattle.reading.proofs.RowsAhead.{is_digit_lem}
use Rattle.places.specs.Begins.{Digit}
use Rattle.places.proofs.Behind.{every-digit, every-sign}

-- ---- the last character that is neither digit nor sign

unfoldable pub stem : List ℕ → ℕ
stem [] = 0
stem (c ∷ x) = cond (eqb (stem x) 0) (cond (is_figure c) 0 c) (stem x)

abbrev pub Figure : ℕ → Type 0
Figure c = is_figure c ≡ true

pub digit-figure : (c : ℕ) → Digit c → Figure c
digit-figure c h = rw (is_digit_lem c h)

stem-figures : (z : List ℕ) → Every Figure z → stem z ≡ 0
unfolding stem
stem-figures [] all = refl
stem-figures (c ∷ z) all = rw (stem-figures z all.1, all.0)

pub stem-at : (y : List ℕ) (c : ℕ) (z : List ℕ) → is_figure c ≡ false → (c ≡ 0 → ⊥) → Every Figure z → stem (y ++ (c ∷ z)) ≡ c
unfolding stem
stem-at [] c z n o all = rw (stem-figures z all, n)
stem-at (d ∷ y) c z n o all = let q = stem-at y c z n o all in rw (q, ne_eqb c 0 o)

-- a program's rows end in LF
abbrev InLF : List ℕ → Type 0
InLF x = (y : List ℕ) × (x ≡ y ++ (10 ∷ []))

lf-behind : (a : List ℕ) {b : List ℕ} → InLF b → InLF (a ++ b)
lf-behind a (y, e) = (a ++ y, ap (λ l. a ++ l) e ∙ sym (append_assoc a y (10 ∷ [])))

end-lf : {e : List ℕ} → End e → InLF e
end-lf lf = ([], refl)
end-lf cr_lf = (13 ∷ [], refl)

block-lf : {f : Format} {b : Block} {x : List ℕ} → Blocked f b x → InLF x
block-lf {f} (block {s} {r = r} start some w end) = lf-behind (start_rows f.sequence s) (lf-behind r (end-lf end))

blocks-lf : {f : Format} {bs : List Block} {x : List ℕ} (a : List ℕ) → InLF a → Blocks f bs x → InLF (a ++ x)
blocks-lf a h Blocks.none = subst InLF (sym (append-nil a)) h
blocks-lf a h (Blocks.more {r = r} {s = s} b k) = subst InLF (append_assoc a r s) (blocks-lf (a ++ r) (lf-behind a (block-lf b)) k)

pub program-lf : {f : Format} {bs : List Block} {x : List ℕ} → Program f bs x → InLF x
program-lf (program {e = e} end k) = blocks-lf (37 ∷ e) (lf-behind (37 ∷ []) (end-lf end)) k

-- ---- what the rows end in tells 8, 9 and the words apart

abbrev pub is_in_head : ℕ → Bool
is_in_head c = eqb c 0 || eqb c 37

abbrev pub is_in_number : ℕ → Bool
is_in_number c = eqb c 10 || eqb c 47 || eqb c 58 || eqb c 78

-- an item's letter, or a tab
abbrev pub word_marks : List ℕ
word_marks = 9 ∷ letters

abbrev pub InWord : ℕ → Type 0
InWord c = T (any_of (λ d. eqb d c) word_marks)

pub head-number : (c : ℕ) → is_in_head c ≡ true → is_in_number c ≡ true → ⊥
head-number c h k = go (either (eqb c 0) (eqb c 37) h)
  where
    go : (eqb c 0 ≡ true) ⊎ (eqb c 37 ≡ true) → ⊥
    go (inl e) = false≢true (sym (ap is_in_number (eqb-true c 0 e)) ∙ k)
    go (inr e) = false≢true (sym (ap is_in_number (eqb-true c 37 e)) ∙ k)

pub head-word : (c : ℕ) → is_in_head c ≡ true → InWord c → ⊥
head-word c h k = false≢true (sym (fails is_in_head word_marks c k refl) ∙ h)

pub number_word : (c : ℕ) → is_in_number c ≡ true → InWord c → ⊥
number_word c h k = false≢true (sym (fails is_in_number word_marks c k refl) ∙ h)

module _ {f : Format} (facts : Facts f) where
  pub stem-word : (y : List ℕ) (l : ℕ) (z : List ℕ) → InWord l → Every Figure z → stem (y ++ (l ∷ z)) ≡ l
  stem-word y l z known all = stem-at y l z (fails is_figure word_marks l known refl) (eqb-false l 0 (fails (λ d. eqb d 0) word_marks l known refl)) all

  pub stem-number : (y : List ℕ) (alignment : Bool) (ds : List ℕ) → Every Digit ds → is_in_number (stem (y ++ (cond alignment 58 78 ∷ ds))) ≡ true
  stem-number y true ds all = rw (stem-at y 58 ds refl (λ e. omega arith) (every-digit digit-figure refl refl ds all))
  stem-number y false ds all = rw (stem-at y 78 ds refl (λ e. omega arith) (every-digit digit-figure refl refl ds all))

  pub stem-start : {bs : List Block} (h : List ℕ) (skip : Bool) → Program f bs h → is_in_number (stem (h ++ skip_rows skip)) ≡ true
  stem-start h true p = rw (stem-at h 47 [] refl (λ e. omega arith) tt)
  stem-start h false p = let q = program-lf p in rw (append-nil h, q.1, stem-at q.0 10 [] refl (λ e. omega arith) tt)

  pub figures-all : {m : ℕ} {g : Sign} {z : ℤ} (s ds : List ℕ) → Signed m g z s → Every Digit ds → Every Figure (s ++ ds)
  figures-all s ds g all = joined s ds (every-sign digit-figure refl refl g) (every-digit digit-figure refl refl ds all)
    where
      joined : (xs ys : List ℕ) → Every Figure xs → Every Figure ys → Every Figure (xs ++ ys)
      joined [] ys a b = b
      joined (x ∷ xs) ys a b = (a.0, joined xs ys a.1 b)
