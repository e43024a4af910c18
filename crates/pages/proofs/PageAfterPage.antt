-- The pages of an accepted tape, one behind another from its head on, are the lines of its blocks.
use mathlib.Core.Path.{◌≡◌, refl, sym, ap, subst, ◌∙◌}
use mathlib.Core.Bool.{Bool, true, false, cond}
use mathlib.Core.List.{List, [], ◌∷◌, ◌++◌}
use Prim.Native.Nat.{ℕ, ◌+◌, ◌-◌, ◌<◌}
use native.Mathlib.Omega.{arith}
use lib.Dec.{leb}
use lib.ListN.{length}
use borrow.Author.Tests.{leb-false}
use Rattle.rows.specs.Answer.{Answer, taken, refused}
use Rattle.rows.specs.Kept.{KeptRow}
use Rattle.shorthand.specs.declared.Format.{Format}
use Rattle.words.specs.Figures.{taking}
use Rattle.parts.specs.Ends.{entered}
use Rattle.reading.specs.declared.Entry.{Entry}
use Rattle.reading.specs.Answers.{read}
use Rattle.reading.specs.Remains.{Remains, all, later}
use Rattle.reading.proofs.Remaining.{remains-are}
use Rattle.pages.specs.declared.Sheet.{Sheet}
use Rattle.lines.specs.Lines.{block_line}
use Rattle.lines.specs.Listing.{block_lines}
use Rattle.pages.specs.Pages.{fitting, end_of, Paged, page_of, page_in, paged, sheet_of}
use Rattle.pages.proofs.Paging.{lines_more, paged-are}

-- those that fit are the first of all
fitting-first : (n size : ℕ) (es : List Entry) → (rest : List Entry) × (es ≡ fitting n size es ++ rest)
fitting-first n size [] = ([], refl)
fitting-first n size (e ∷ es) = by (leb (length (block_line n e.block)) size) (fitting-first n (size - length (block_line n e.block)) es)
  where
    fit : List Entry
    fit = fitting n (size - length (block_line n e.block)) es

    by : (b : Bool) → (rest : List Entry) × (es ≡ fit ++ rest) → (rest : List Entry) × (e ∷ es ≡ cond b (e ∷ fit) [] ++ rest)
    by true h = (h.0, ap (λ x. e ∷ x) h.1)
    by false h = (e ∷ es, refl)

module _ (f : Format) (t : List ℕ) where
  -- behind the first of those that are left
  remains-on : (xs : List Entry) {from : ℕ} {ys : List Entry} → Remains f t from (xs ++ ys) → Remains f t (end_of from xs) ys
  remains-on [] r = r
  remains-on (x ∷ xs) r = remains-on xs (later r)

  module _ (size : ℕ) where
    abbrev fit : List Entry → List Entry
    fit es = fitting f.sequence size es

    -- what the page of those that are left is
    page-is : {from : ℕ} {es : List Entry} → Remains f t from es → paged f size t from ≡ page_in f.sequence from es (fit es)
    page-is {from} {es} r = paged-are f size t from es (remains-are f t r)

    -- a page that is taken lists those that fit, and the others are left behind it
    pub record Turned (from : ℕ) (es : List Entry) (p : Paged) : Type 0 where
      pub rest : List Entry
      pub listed : p ≡ page_of f.sequence from (fitting f.sequence size es)
      pub parts : es ≡ fitting f.sequence size es ++ rest
      pub left : Remains f t p.next rest

    lists : (from : ℕ) (es fs : List Entry) (p : Paged) → (rest : List Entry) → es ≡ fs ++ rest → page_in f.sequence from es fs ≡ taken p → p ≡ page_of f.sequence from fs
    lists from [] [] p rest q e = cc
    lists from [] (x ∷ fs) p rest q e = let z = ap length q in absurd (omega (arith, z))
    lists from (x ∷ es) [] p rest q e = let z : ◌≡◌ {A = ℕ} 0 1 = cc in absurd (omega (arith, z))
    lists from (x ∷ es) (y ∷ fs) p rest q e = cc

    pub turned : {from : ℕ} {es : List Entry} (p : Paged) → Remains f t from es → paged f size t from ≡ taken p → Turned from es p
    turned {from} {es} p r e =
        let s = fitting-first f.sequence size es in
        let is = lists from es (fit es) p s.0 s.1 (sym (page-is r) ∙ e) in
        record { rest = s.0; listed = is; parts = s.1; left = rw is (remains-on (fit es) (subst (λ x. Remains f t from x) s.1 r)) }

    -- what is left behind a page, by what its answer tells
    pub left_behind : {from : ℕ} → (es : List Entry) × Remains f t from es → (s : Sheet) → taken s ≡ sheet_of (paged f size t from) → (es : List Entry) × Remains f t s.next es
    left_behind {from} r s e = by (paged f size t from) refl e
      where
        by : (a : Answer Paged) → paged f size t from ≡ a → taken s ≡ sheet_of a → (es : List Entry) × Remains f t s.next es
        by (taken p) q z = let w = turned p r.1 q in let is : s ≡ record { blocks = p.blocks; bytes = length p.text; next = p.next } = cc in (w.rest, rw is w.left)
        by (refused n p) q z = let w : ◌≡◌ {A = ℕ} 0 1 = cc in absurd (omega (arith, w))

    -- no page of an accepted tape is refused but by 19, at the length of a line that is longer than the buffer
    abbrev Unlisted : List Entry → ℕ → ℕ → Type 0
    Unlisted [] n p = ⊥
    Unlisted (e ∷ es) n p = (n ≡ 19) × ((p ≡ length (block_line f.sequence e.block)) × (size < p))

    pub page-refused : {from : ℕ} {es : List Entry} (n p : ℕ) → Remains f t from es → paged f size t from ≡ refused n p → Unlisted es n p
    page-refused {from} {es} n p r e = by es (sym (page-is r) ∙ e)
      where
        by : (es : List Entry) → page_in f.sequence from es (fit es) ≡ refused n p → Unlisted es n p
        by [] q = let z : ◌≡◌ {A = ℕ} 0 1 = cc in absurd (omega (arith, z))
        by (x ∷ xs) q = fits (leb (length (block_line f.sequence x.block)) size) refl q
          where
            fits : (b : Bool) → leb (length (block_line f.sequence x.block)) size ≡ b
                → page_in f.sequence from (x ∷ xs) (cond b (x ∷ fitting f.sequence (size - length (block_line f.sequence x.block)) xs) []) ≡ refused n p → Unlisted (x ∷ xs) n p
            fits true o q = let z : ◌≡◌ {A = ℕ} 0 1 = cc in absurd (omega (arith, z))
            fits false o q =
                let is : length (block_line f.sequence x.block) ≡ p = cc in
                let long = leb-false (length (block_line f.sequence x.block)) size o in
                let nineteen : 19 ≡ n = cc in
                (sym nineteen, (sym is, omega (arith, long, is)))

    -- pages one behind another, from a row on, until one lists no block
    pub data Pages : ℕ → List ℕ → Type 0 where
      end : {from : ℕ} (p : Paged) → paged f size t from ≡ taken p → p.blocks ≡ 0 → Pages from []
      next : {from : ℕ} {text : List ℕ} (p : Paged) → paged f size t from ≡ taken p → Pages p.next text → Pages from (p.text ++ text)

    -- a page that lists no block stands where none is left
    none_left : (from : ℕ) (es : List Entry) (p : Paged) → p.blocks ≡ 0 → p ≡ page_of f.sequence from (fit es) → page_in f.sequence from es (fit es) ≡ taken p → es ≡ []
    none_left from es p z is e = by es (fit es) (sym (ap (λ x. x.blocks) is) ∙ z) e
      where
        by : (es fs : List Entry) → length fs ≡ 0 → page_in f.sequence from es fs ≡ taken p → es ≡ []
        by [] fs o q = refl
        by (x ∷ xs) [] o q = let w : ◌≡◌ {A = ℕ} 0 1 = cc in absurd (omega (arith, w))
        by (x ∷ xs) (y ∷ fs) o q = absurd (omega (arith, o))

    pub pages-are : {from : ℕ} {text : List ℕ} → Pages from text → {es : List Entry} → Remains f t from es → text ≡ block_lines f.sequence es
    pages-are {from} (end p e z) {es} r = let s = turned p r e in sym (ap (block_lines f.sequence) (none_left from es p z s.listed (sym (page-is r) ∙ e)))
    pages-are {from} (next {text = text} p e h) {es} r =
        let s = turned p r e in
        ap (λ x. x.text ++ text) s.listed ∙ ap (λ x. block_lines f.sequence (fit es) ++ x) (pages-are h s.left)
        ∙ sym (lines_more f.sequence (fit es) s.rest) ∙ ap (block_lines f.sequence) (sym s.parts)

    -- from the head on
    pub listed-pages : (es : List Entry) → read f t ≡ taken es → (lf : ℕ) (rest : List KeptRow) → entered t ≡ taking lf rest → {text : List ℕ} → Pages (lf + 1) text → text ≡ block_lines f.sequence es
    listed-pages es e lf rest h p = pages-are p (all e h)
