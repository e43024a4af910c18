-- No second number: the words of two different numbers never fit the same row behind the same rows.
use Prim.Native.Nat.{ℕ, ◌<◌}
use mathlib.Core.Path.{◌≡◌, refl, sym, ap, ◌∙◌, subst}
use mathlib.Core.Logic.{◌⊎◌, inl, inr}
use mathlib.Core.Bool.{Bool, true, cond}
use mathlib.Core.List.{List, [], ◌∷◌, ◌++◌, append_assoc, append-nil}
use native.Mathlib.Omega.{arith}
use lib.Dec.{T, eqb}
use lib.ListN.{length}
use lib.IntN.{ℤ}
use Rattle.rows.specs.Passes.{Every}
use Rattle.shorthand.specs.declared.Item.{Item}
use Rattle.shorthand.specs.declared.Format.{Format}
use Rattle.shorthand.specs.Edition.{any_of}
use Rattle.shorthand.specs.Layout.{Way, by_letter, by_both, by_tab, way_of, width, missing_of, fewest, Sign, sign_of}
use Rattle.shorthand.specs.Facts.{Facts}
use Rattle.reading.specs.declared.Block.{Block}
use Rattle.reading.specs.Relation.{Signed, plus, minus, address, lf, skip_rows, Program}
use Rattle.reading.proofs.WordsTake.{at_lf}
use Rattle.places.specs.Begins.{Digit, Closes, Due, Empty}
use Rattle.places.specs.Faults.{number_rows, Miscounted, SignRow, SignFault, GoesOn, NoneYet, EndDue, last_of, Misfit}
use Rattle.places.proofs.Told.{both-empty}
use Rattle.places.proofs.Called.{stem-called, called_same}
use Rattle.places.proofs.Stems.{stem, Figure, is_in_head, is_in_number, InWord, head-number, head-word, number_word, stem-number, stem-start, figures-all}
use Rattle.places.proofs.Empties.{InEmpty, empty-ends, tabs-last, start-last, empty-last, low-stops, Idle, idle-number, idle-word}
use Rattle.places.proofs.EndsAlone.{fault-figure, Ends, not-percent, not-head, not_start, not-number, not-figures, not-sign}

-- ---- the words by their equations

-- as `Misfit`, and what the rows end in
pub data Spot (f : Format) (x : List ℕ) (c : ℕ) : ℕ → Type 0 where
  percent : x ≡ [] → Spot f x c 8
  head_end : x ≡ 37 ∷ [] → Spot f x c 8
  block_end : Closes f x → (GoesOn (way_of f) (last_of x) c → ⊥) → Spot f x c 10
  start : {bs : List Block} (h : List ℕ) (skip : Bool) → Program f bs h → x ≡ h ++ skip_rows skip → (f.unnumbered ≡ true → c ≡ 13 → ⊥) → Spot f x c 9
  empty : Empty f x → c ≡ 10 → Spot f x c 9
  tabbed : (e : Empty f x) → 0 < length e.passed → (c ≡ 10 → ⊥) → (c ≡ 13 → ⊥) → (GoesOn (way_of f) (last_of x) c → ⊥) → Spot f x c 10
  number : (h : List ℕ) (skip alignment : Bool) (ds : List ℕ) → x ≡ h ++ number_rows skip alignment ds → Every Digit ds → Miscounted f.sequence f.sequence ds c → Spot f x c 9
  figures : {m : ℕ} {z : ℤ} (it : Item) (y s ds : List ℕ) → Due f it y → x ≡ y ++ address (way_of f) it ++ (s ++ ds) → Signed m (sign_of it.kind) z s → Every Digit ds
      → Miscounted (fewest (missing_of it.kind) (width it.kind)) (width it.kind) ds c → (s ++ ds ≡ [] → NoneYet (way_of f) c) → Spot f x c 11
  sign : (it : Item) (y : List ℕ) → Due f it y → x ≡ y ++ address (way_of f) it → SignFault (way_of f) (sign_of it.kind) c → Spot f x c 12

pub spot : {f : Format} {n c : ℕ} {x : List ℕ} → Misfit f n x c → Spot f x c n
spot (Misfit.percent h) = percent refl
spot (Misfit.end EndDue.of_head a b d) = head_end refl
spot (Misfit.end (EndDue.of_block k) a b d) = block_end k d
spot (Misfit.start {h = h} skip p n) = start h skip p refl (λ a. (n.3 a).1)
spot (Misfit.empty e) = empty e refl
spot (Misfit.tabbed e some a b d) = tabbed e some a b d
spot (Misfit.number {h = h} {ds = ds} skip alignment p all m) = number h skip alignment ds refl all m
spot (Misfit.figures {s = s} {ds = ds} it y due g all m none) = figures it y s ds due refl g all m none
spot (Misfit.sign it y due h) = sign it y due refl h

-- ---- in an empty block

-- by 9 where its rows do not end in a tab, and at LF; by 10 at another row behind a tab; by neither at CR
data Beside (x : List ℕ) (c : ℕ) : ℕ → Type 0 where
  no_word : (c ≡ 13 → ⊥) → (last_of x ≡ 9 → c ≡ 10) → Beside x c 9
  no_end : (c ≡ 13 → ⊥) → last_of x ≡ 9 → (c ≡ 10 → ⊥) → Beside x c 10

beside-one : {x : List ℕ} {c n m : ℕ} → Beside x c n → Beside x c m → n ≡ m
beside-one (no_word a b) (no_word d e) = refl
beside-one (no_word a b) (no_end d l e) = absurd (e (b l))
beside-one (no_end a l b) (no_word d e) = absurd (b (e l))
beside-one (no_end a l b) (no_end d k e) = refl

module _ {f : Format} (facts : Facts f) {x : List ℕ} {c : ℕ} where
  beside : Idle f x c → {n : ℕ} → Spot f x c n → Beside x c n
  beside i (percent e) = absurd (subst InEmpty (ap last_of e) (empty-last i.block))
  beside i (head_end e) = absurd (subst InEmpty (ap last_of e) (empty-last i.block))
  beside i (block_end k d) = absurd (empty-ends f facts i.block at_lf (k (10 ∷ []) lf).2)
  beside i (start h skip p e cr) =
      no_word (cr i.block.allowed) (λ l. absurd (subst (λ d. T (any_of (λ b. eqb b d) (10 ∷ 47 ∷ []))) (sym (ap last_of e) ∙ l) (start-last h skip p)))
  beside i (empty e q) = no_word (λ z. omega arith) (λ l. q)
  beside i (tabbed e some a b d) = no_end b (tabs-last e some) a
  beside i (number h skip alignment ds e all m) = absurd (idle-number facts i h skip alignment ds all e)
  beside i (figures it y s ds due e g all m none) = absurd (idle-word facts i y (s ++ ds) due (figures-all facts s ds g all) e (λ n t. absurd (subst (λ v. NoneYet v c) t (none n))))
  beside i (sign it y due e h) = absurd (idle-word facts i y [] due tt (e ∙ sym (append-nil (y ++ address (way_of f) it))) (λ n t. fault-figure h t))

  -- at a CR nothing is out of place
  pub idle-cr : Idle f x c → c ≡ 13 → {n : ℕ} → Spot f x c n → ⊥
  idle-cr i e s = go (beside i s)
    where
      go : {n : ℕ} → Beside x c n → ⊥
      go (no_word a b) = a e
      go (no_end a l b) = a e

-- ---- 11 and 12

-- a sign that the item allows is missing, and it is at fault
sign-clash : {m c : ℕ} {y : Way} {g : Sign} {z : ℤ} {s : List ℕ} → Signed m g z s → s ≡ [] → SignFault y g c → NoneYet y c → ⊥
sign-clash {y = y} g e (SignFault.barred_sign h) none = no_sign y none h
  where
    no_sign : (y : Way) {c : ℕ} → NoneYet y c → SignRow c → ⊥
    no_sign by_letter n h = n h
    no_sign by_both n h = n h
    no_sign by_tab n h = n
sign-clash plus e (SignFault.missing_sign h i) none = let z = ap length e in omega arith
sign-clash minus e (SignFault.missing_sign h i) none = let z = ap length e in omega arith

-- ---- one number

module _ {f : Format} (facts : Facts f) (x : List ℕ) (c : ℕ) where
  data View : ℕ → Type 0 where
    eight : is_in_head (stem x) ≡ true → (Ends facts x c → ⊥) → View 8
    nine : is_in_number (stem x) ≡ true → (Ends facts x c → ⊥) → View 9
    ten : Ends facts x c → View 10
    eleven : {m : ℕ} {z : ℤ} (it : Item) (y s ds : List ℕ) → InWord (stem x) → (Ends facts x c → ⊥) → Due f it y → x ≡ y ++ address (way_of f) it ++ (s ++ ds)
        → Signed m (sign_of it.kind) z s → Every Digit ds → (s ++ ds ≡ [] → NoneYet (way_of f) c) → View 11
    twelve : (it : Item) (y : List ℕ) → InWord (stem x) → (Ends facts x c → ⊥) → Due f it y → x ≡ y ++ address (way_of f) it → SignFault (way_of f) (sign_of it.kind) c → View 12

  in_word : {it : Item} (y z : List ℕ) → Due f it y → Every Figure z → x ≡ y ++ address (way_of f) it ++ z → InWord (stem x)
  in_word y z due all e = stem-called facts due z all x e

  view : {n : ℕ} → Spot f x c n → View n ⊎ Idle f x c
  unfolding stem
  view (percent e) = inl (eight (rw e) (not-percent facts x c e))
  view (head_end e) = inl (eight (rw e) (not-head facts x c e))
  view (block_end k d) = inl (ten (k, d))
  view (start h skip p e cr) = inl (nine (rw e (stem-start facts h skip p)) (not_start facts x c h skip p e))
  view (empty e q) = inr (record { block = e; firm = low-stops (omega arith) })
  view (tabbed e some a b d) = inr (record { block = e; firm = d })
  view (number h skip alignment ds e all m) =
      inl (nine (rw (e ∙ sym (append_assoc h (skip_rows skip) (cond alignment 58 78 ∷ ds))) (stem-number facts (h ++ skip_rows skip) alignment ds all)) (not-number facts x c h skip alignment ds e all m))
  view (figures it y s ds due e g all m none) = inl (eleven it y s ds (in_word y (s ++ ds) due (figures-all facts s ds g all) e) (not-figures facts x c it y s ds due e g all m none) due e g all none)
  view (sign it y due e h) = inl (twelve it y (in_word y [] due tt (e ∙ sym (append-nil (y ++ address (way_of f) it)))) (not-sign facts x c it y due e h) due e h)

  apart : {m : ℕ} {z : ℤ} (s ds : List ℕ) (it jt : Item) (y w : List ℕ) → Due f it y → x ≡ y ++ address (way_of f) it ++ (s ++ ds) → Signed m (sign_of it.kind) z s → Every Digit ds
      → (s ++ ds ≡ [] → NoneYet (way_of f) c) → Due f jt w → x ≡ w ++ address (way_of f) jt → SignFault (way_of f) (sign_of jt.kind) c → ⊥
  apart s ds it jt y w h e g all none k r fault =
      let q = called_same facts h k (s ++ ds) [] (figures-all facts s ds g all) tt (sym e ∙ r ∙ sym (append-nil (w ++ address (way_of f) jt))) in
      sign-clash g (both-empty s ds q.2).0 (subst (λ j. SignFault (way_of f) (sign_of j) c) q.1 fault) (none q.2)

  one : {n m : ℕ} → View n → View m → n ≡ m
  one (eight a p) (eight b q) = refl
  one (eight a p) (nine b q) = absurd (head-number (stem x) a b)
  one (eight a p) (ten q) = absurd (p q)
  one (eight a p) (eleven it y s ds b q i e g all bare) = absurd (head-word (stem x) a b)
  one (eight a p) (twelve it y b q i e h) = absurd (head-word (stem x) a b)
  one (nine a p) (eight b q) = absurd (head-number (stem x) b a)
  one (nine a p) (nine b q) = refl
  one (nine a p) (ten q) = absurd (p q)
  one (nine a p) (eleven it y s ds b q i e g all bare) = absurd (number_word (stem x) a b)
  one (nine a p) (twelve it y b q i e h) = absurd (number_word (stem x) a b)
  one (ten p) (eight b q) = absurd (q p)
  one (ten p) (nine b q) = absurd (q p)
  one (ten p) (ten q) = refl
  one (ten p) (eleven it y s ds b q i e g all bare) = absurd (q p)
  one (ten p) (twelve it y b q i e h) = absurd (q p)
  one (eleven it y s ds a p i e g all bare) (eight b q) = absurd (head-word (stem x) b a)
  one (eleven it y s ds a p i e g all bare) (nine b q) = absurd (number_word (stem x) b a)
  one (eleven it y s ds a p i e g all bare) (ten q) = absurd (p q)
  one (eleven it y s ds a p i e g all bare) (eleven jt w t es b q j h k each less) = refl
  one (eleven it y s ds a p i e g all bare) (twelve jt w b q j h fault) = absurd (apart s ds it jt y w i e g all bare j h fault)
  one (twelve it y a p i e h) (eight b q) = absurd (head-word (stem x) b a)
  one (twelve it y a p i e h) (nine b q) = absurd (number_word (stem x) b a)
  one (twelve it y a p i e h) (ten q) = absurd (p q)
  one (twelve jt w b q j h fault) (eleven it y s ds a p i e g all bare) = absurd (apart s ds it jt y w i e g all bare j h fault)
  one (twelve it y a p i e h) (twelve jt w b q j k fault) = refl

pub one_number : {f : Format} → Facts f → {n m c : ℕ} {x : List ℕ} → Misfit f n x c → Misfit f m x c → n ≡ m
one_number {f} facts {n} {m} {c} {x} a b = go (view facts x c (spot a)) (view facts x c (spot b))
  where
    go : View facts x c n ⊎ Idle f x c → View facts x c m ⊎ Idle f x c → n ≡ m
    go (inl u) (inl v) = one facts x c u v
    go (inl u) (inr i) = beside-one (beside facts i (spot a)) (beside facts i (spot b))
    go (inr i) v = beside-one (beside facts i (spot a)) (beside facts i (spot b))
