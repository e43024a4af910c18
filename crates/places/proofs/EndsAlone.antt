-- Where an end could stand, no row is out of place for another reason than 10's.
use Prim.Native.Nat.{ℕ, ◌≤◌, ◌<◌}
use mathlib.Core.Path.{◌≡◌, refl, sym, ap, ◌∙◌, subst}
use mathlib.Core.Logic.{inl, inr}
use mathlib.Core.Bool.{Bool, true, cond}
use mathlib.Core.List.{List, [], ◌∷◌, ◌++◌, append_assoc, append-nil}
use native.Mathlib.Nat.{zero-lt-suc}
use native.Mathlib.Omega.{arith}
use lib.ListN.{length, length-append}
use lib.IntN.{ℤ}
use Rattle.rows.specs.Passes.{Every}
use Rattle.shorthand.specs.declared.Item.{Item}
use Rattle.shorthand.specs.declared.Format.{Format}
use Rattle.shorthand.specs.Layout.{Way, by_letter, by_both, by_tab, way_of, width, missing_of, fewest, Sign, sign_of}
use Rattle.shorthand.specs.Facts.{Facts}
use Rattle.reading.specs.declared.Block.{Block}
use Rattle.reading.specs.Relation.{Signed, address, lf, skip_rows, Blocks, Program, program}
use Rattle.words.specs.Figures.{is_figure}
use Rattle.reading.proofs.RowsAhead.{heads}
use Rattle.reading.proofs.BlockTakes.{end-some, block-some}
use Rattle.places.specs.Begins.{Digit, Closes, Due}
use Rattle.places.specs.Faults.{number_rows, Miscounted, too_few, too_many, FigureRow, Enters, SignFault, GoesOn, digit_behind, NoneYet, last_of}
use Rattle.places.proofs.DigitLists.{fewest-some, some-width, last-behind, last-digit}
use Rattle.places.proofs.Dues.{due-item, item-widths}
use Rattle.places.proofs.Follows.{Holds, Entering, follows}
use Rattle.places.proofs.Stems.{Figure, figures-all}
use Rattle.places.proofs.Called.{by-letter-tab, by-both-tab, called}
use Rattle.places.proofs.Marks.{mark-follows}
use Rattle.places.proofs.Empties.{no-second-end}
use Rattle.places.proofs.FewFigures.{parts, few-digits, sign-shape, few-figures}

-- ---- where an end could stand, none of the others does

starts : {f : Format} {bs : List Block} {x : List ℕ} → Program f bs x → (y : List ℕ) × (x ≡ 37 ∷ y)
starts (program {e = e} {r = r} end h) = (e ++ r, refl)

blocks-some : {f : Format} {bs : List Block} {x : List ℕ} → Blocks f bs x → 0 < length bs → 0 < length x
blocks-some Blocks.none l = absurd (omega arith)
blocks-some (Blocks.more {r = r} {s = s} b h) l = omega (arith, block-some b, length-append r s)

program-some : {f : Format} {bs : List Block} {x : List ℕ} → Program f bs x → 0 < length bs → 3 ≤ length x
program-some (program {e = e} {r = r} end h) l = omega (arith, end-some end, blocks-some h l, length-append e r)

-- some figures begin with one
figure-first : (u o : List ℕ) → Every Figure u → (u ≡ [] → ⊥) → heads is_figure (u ++ o) ≡ true
figure-first [] o all some = absurd (some refl)
figure-first (c ∷ u) o all some = all.0

module _ {f : Format} (facts : Facts f) (x : List ℕ) (c : ℕ) where
  -- an end could stand here, and the character does not go on with what stands before it
  abbrev pub Ends : Type 0
  Ends = Closes f x × (GoesOn (way_of f) (last_of x) c → ⊥)

  pub not-percent : x ≡ [] → Ends → ⊥
  not-percent e h =
      let k = h.0 (10 ∷ []) lf in
      let p = starts k.2 in
      let q : 10 ∷ [] ≡ 37 ∷ p.0 = sym (ap (λ l. l ++ (10 ∷ [])) e) ∙ p.1 in
      let z : ◌≡◌ {A = ℕ} 10 37 = cc in
      omega arith

  pub not-head : x ≡ 37 ∷ [] → Ends → ⊥
  not-head e h =
      let k = h.0 (10 ∷ []) lf in
      let n = program-some k.2 (omega (arith, length-append k.0 (k.1 ∷ []))) in
      omega (arith, length-append x (10 ∷ []), ap length e)

  pub not_start : {bs : List Block} (h : List ℕ) (skip : Bool) → Program f bs h → x ≡ h ++ skip_rows skip → Ends → ⊥
  not_start h skip p e k =
      let q = k.0 (10 ∷ []) lf in
      no-second-end f facts p skip (subst (λ y. Program f (q.0 ++ (q.1 ∷ [])) (y ++ (10 ∷ []))) e q.2)

  -- as many digits as there may be, and one more
  pub not-many : (y ds : List ℕ) → x ≡ y ++ ds → Every Digit ds → 0 < length ds → Digit c → Ends → ⊥
  not-many y ds e all some d k = k.1 (digit_behind (subst Digit (sym (ap last_of e ∙ last-behind y ds some)) (last-digit ds all some)) d)

  pub not-number : (h : List ℕ) (skip alignment : Bool) (ds : List ℕ) → x ≡ h ++ number_rows skip alignment ds → Every Digit ds → Miscounted f.sequence f.sequence ds c → Ends → ⊥
  not-number h skip alignment ds e all (too_few l n) k =
      let q = k.0 (10 ∷ []) lf in
      let at : x ++ (10 ∷ []) ≡ h ++ skip_rows skip ++ (cond alignment 58 78 ∷ (ds ++ (10 ∷ []))) = ap (λ y. y ++ (10 ∷ [])) e ∙ simp append_assoc in
      let d = mark-follows f facts alignment q.2 (h ++ skip_rows skip) (ds ++ (10 ∷ [])) at in
      few-digits ds d.0 d.1 d.2 (omega (arith, d.3)) d.4
  not-number h skip alignment ds e all (too_many l d) k =
      let at : x ≡ h ++ (skip_rows skip ++ (cond alignment 58 78 ∷ [])) ++ ds = e ∙ simp append_assoc in
      not-many (h ++ (skip_rows skip ++ (cond alignment 58 78 ∷ []))) ds at all (omega (arith, facts.sequence.0)) d k

  held-behind : {it : Item} (y z : List ℕ) → Due f it y → x ≡ y ++ address (way_of f) it ++ z → Entering (way_of f) (z ++ (10 ∷ [])) → Closes f x → Holds it.kind (z ++ (10 ∷ []))
  held-behind {it} y z due e o k =
      let q = k (10 ∷ []) lf in
      follows facts due (z ++ (10 ∷ [])) o
      (subst (Program f (q.0 ++ (q.1 ∷ []))) (ap (λ l. l ++ (10 ∷ [])) e ∙ append_assoc (y ++ address (way_of f) it) z (10 ∷ [])) q.2)

  pub not-figures : {m : ℕ} {z : ℤ} (it : Item) (y s ds : List ℕ) → Due f it y → x ≡ y ++ address (way_of f) it ++ (s ++ ds) → Signed m (sign_of it.kind) z s → Every Digit ds
      → Miscounted (fewest (missing_of it.kind) (width it.kind)) (width it.kind) ds c → (s ++ ds ≡ [] → NoneYet (way_of f) c) → Ends → ⊥
  not-figures it y s ds due e g all (too_few l n) none k =
      let q = held-behind y (s ++ ds) due e (λ t. figure-first (s ++ ds) (10 ∷ []) (figures-all facts s ds g all) (λ h. subst (λ v. NoneYet v c) t (none h))) k.0 in
      let p = parts q.3 in
      let at : s ++ (ds ++ (10 ∷ [])) ≡ p.s ++ p.ds ++ q.2 = sym (append_assoc s ds (10 ∷ [])) ∙ q.4 ∙ ap (λ l. l ++ q.2) p.split in
      few-figures s ds p.s p.ds q.2 (sign-shape g) (sign-shape p.signs) all p.all (omega (arith, p.least)) at
  not-figures it y s ds due e g all (too_many l d) none k =
      let at : x ≡ (y ++ address (way_of f) it ++ s) ++ ds = e ∙ simp append_assoc in
      not-many (y ++ address (way_of f) it ++ s) ds at all (omega (arith, some-width it.kind (item-widths facts.fair (due-item due)))) d k

-- right behind an address no end could stand; behind a tab alone a digit or a sign goes on with it
pub right-behind-figure : {f : Format} → Facts f → {it : Item} {y : List ℕ} → Due f it y → (c : ℕ) → (way_of f ≡ by_tab → FigureRow c) → Closes f (y ++ address (way_of f) it)
    → (GoesOn (way_of f) (last_of (y ++ address (way_of f) it)) c → ⊥) → ⊥
right-behind-figure {f} facts {it} {y} due c figure k n = by (way_of f) refl
  where
    x : List ℕ
    x = y ++ address (way_of f) it

    addressed : (way_of f ≡ by_tab → ⊥) → ⊥
    addressed o =
        let q = held-behind facts x c y [] due (sym (append-nil x)) (λ t. absurd (o t)) k in
        let p = parts q.3 in
        few-figures [] [] p.s p.ds q.2 (inl refl) (sign-shape p.signs) tt p.all
        (omega (arith, p.least, fewest-some (missing_of it.kind) (width it.kind) (some-width it.kind (item-widths facts.fair (due-item due)))))
        (q.4 ∙ ap (λ l. l ++ q.2) p.split)

    by : (v : Way) → way_of f ≡ v → ⊥
    by by_letter t = addressed (λ q. by-letter-tab (sym t ∙ q))
    by by_both t = addressed (λ q. by-both-tab (sym t ∙ q))
    by by_tab t =
        let m = called facts due in
        n (GoesOn.data_behind t (ap last_of m.rows ∙ last-behind m.before (m.mark ∷ []) (zero-lt-suc 0) ∙ m.tab t) (figure t))

pub right-behind : {f : Format} → Facts f → {it : Item} {y : List ℕ} → Due f it y → (c : ℕ) → Digit c → Closes f (y ++ address (way_of f) it)
    → (GoesOn (way_of f) (last_of (y ++ address (way_of f) it)) c → ⊥) → ⊥
right-behind facts due c d = right-behind-figure facts due c (λ t. inl d)

pub fault-figure : {y : Way} {g : Sign} {c : ℕ} → SignFault y g c → y ≡ by_tab → FigureRow c
fault-figure (SignFault.barred_sign h) e = inr h
fault-figure {c = c} (SignFault.missing_sign n h) e = subst (λ v. Enters v c) e h

pub not-sign : {f : Format} (facts : Facts f) (x : List ℕ) (c : ℕ) (it : Item) (y : List ℕ) → Due f it y → x ≡ y ++ address (way_of f) it → SignFault (way_of f) (sign_of it.kind) c
    → Ends facts x c → ⊥
not-sign {f} facts x c it y due e fault k =
    right-behind-figure facts due c (fault-figure fault) (subst (Closes f) e k.0) (λ o. k.1 (subst (λ z. GoesOn (way_of f) (last_of z) c) (sym e) o))
