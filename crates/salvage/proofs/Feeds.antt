-- LF rows and kept rows with the character LF: on a tape whose control-outs hold no LF row they are as many, and so in each of its parts.
use Prim.Native.Nat.{ℕ, suc, ◌+◌, ◌≤◌, zero-le}
use mathlib.Core.Path.{◌≡◌, refl, sym, ap, ◌∙◌, subst}
use mathlib.Core.Bool.{Bool, true, false, cond}
use mathlib.Core.List.{List, [], ◌∷◌, ◌++◌}
use native.Mathlib.Nat.{le_refl}
use native.Mathlib.Omega.{arith}
use lib.Dec.{T, eqb}
use lib.ListN.{length}
use borrow.Author.Tests.{eqb-true}
use Rattle.rows.specs.Row.{character, even, entry}
use Rattle.rows.specs.Kept.{KeptRow, within, stays, kept_from, kept}
use Rattle.rows.specs.ControlOut.{WellFormed}
use Rattle.rows.specs.Passes.{Every}
use Rattle.rows.proofs.Entry.{entry-character}
use Rattle.rows.proofs.Every.{every_front, every_back}
use Rattle.rows.proofs.Formed.{not-among}
use Rattle.rows.proofs.KeptRows.{past-remark}
use Rattle.shorthand.proofs.Tests.{holds}
use Rattle.reading.specs.Relation.{chars}
use Rattle.reading.proofs.BlockParts.{PartAs}
use Rattle.reading.proofs.MovedRows.{chars-behind}
use Rattle.salvage.specs.Pieces.{is_lf, divided}
use Rattle.salvage.specs.Clear.{Clear, end, row, remark}
use Rattle.salvage.proofs.OneLF.{count, count-append, count_none, none-counted, tens}

-- ---- one row

-- an LF row has the character LF
lf-character : (b : ℕ) → is_lf b ≡ true → character b ≡ 10
lf-character b e = let q = eqb-true (entry b) 10 e in sym (entry-character b (omega (arith, q))) ∙ q

-- an even row with that character is one
even-lf : (b : ℕ) → T (even b) → character b ≡ 10 → is_lf b ≡ true
unfolding entry
even-lf b h e = rw (holds (even b) h, e)

-- a row with another character is none
not-lf : (b k : ℕ) → character b ≡ k → (k ≡ 10 → ⊥) → is_lf b ≡ false
not-lf b k e other = by (is_lf b) refl
  where
    by : (x : Bool) → is_lf b ≡ x → x ≡ false
    by true q = absurd (other (sym e ∙ lf-character b q))
    by false q = refl

-- ---- counted

-- how many rows are LF rows
abbrev pub feeds : List ℕ → ℕ
feeds t = count is_lf t

-- each kept row with the character LF is an LF row
kept-feeds : (t : List ℕ) → Every (λ b. T (even b)) t → (w : Bool) (i : ℕ) → tens (chars (kept_from w i t)) ≤ feeds t
unfolding kept_from
kept-feeds [] all w i = zero-le
kept-feeds (b ∷ t) all w i = by (stays w (character b)) _ (kept-feeds t all.1 (within w (character b)) (suc i))
  where
    one : (x : Bool) → eqb (character b) 10 ≡ x → cond x 1 0 ≤ cond (is_lf b) 1 0
    one true q = rw (even-lf b all.0 (eqb-true (character b) 10 q)) (le_refl 1)
    one false q = zero-le

    by : (s : Bool) (k : List KeptRow) → tens (chars k) ≤ feeds t → tens (chars (cond s (record { place = i; char = character b } ∷ k) k)) ≤ feeds (b ∷ t)
    by true k h = omega (arith, one (eqb (character b) 10) refl)
    by false k h = omega arith

-- each LF row outside control-outs is kept
pub clear-feeds : {t : List ℕ} → Clear t → (i : ℕ) → feeds t ≤ tens (chars (kept_from false i t))
unfolding kept_from
clear-feeds end i = zero-le
clear-feeds (row {b = b} {t = t} h c) i = by (is_lf b) refl (kept_from (eqb (character b) 40) (suc i) t) (rw (not-among (character b) 40 (41 ∷ []) h).0 (clear-feeds c (suc i)))
  where
    more : (s : Bool) (k : List KeptRow) → tens (chars k) ≤ tens (chars (cond s (record { place = i; char = character b } ∷ k) k))
    more true k = omega arith
    more false k = le_refl _

    by : (x : Bool) → is_lf b ≡ x → (k : List KeptRow) → feeds t ≤ tens (chars k)
        → cond x 1 0 + feeds t ≤ tens (chars (cond (stays false (character b)) (record { place = i; char = character b } ∷ k) k))
    by true q k l = rw (lf-character b q) (omega arith)
    by false q k l = omega (arith, more (stays false (character b)) k)
clear-feeds (remark {o = o} {r = r} {t = t} c e m free f k) i =
    let l = clear-feeds k (suc i + suc (length r)) in
    let n = count-append is_lf (o ∷ r) (c ∷ t) in
    let x = count_none is_lf (o ∷ r) (not-lf o 40 e (λ q. omega arith), free) in
    let y = count_none is_lf (c ∷ []) (not-lf c 41 f (λ q. omega arith), tt) in
    rw (e, past-remark m c f t (suc i)) (omega arith)

-- ---- parts

-- no LF row is passed by
abbrev pub AllKept : List ℕ → Type 0
AllKept t = feeds t ≤ tens (chars (kept t))

-- where none is in the whole, none is in either part
pub parts-kept : {a : List ℕ} → WellFormed a → (u : List ℕ) → Every (λ b. T (even b)) (a ++ u) → AllKept (a ++ u) → AllKept a × AllKept u
parts-kept {a} w u all h =
    let q : ℕ → Bool = λ c. eqb c 10 in
    let n = count-append is_lf a u in
    let m : tens (chars (kept (a ++ u))) ≡ tens (chars (kept a)) + tens (chars (kept u)) = ap tens (chars-behind w u) ∙ count-append q (chars (kept a)) (chars (kept u)) in
    let x = kept-feeds a (every_front _ a u all) false 0 in
    let y = kept-feeds u (every_back _ a u all) false 0 in
    (omega arith, omega arith)

-- ---- divided

-- rows up to an LF row are the first piece
divided-at : (x : List ℕ) (b : ℕ) (y : List ℕ) → Every (λ c. is_lf c ≡ false) x → is_lf b ≡ true → divided ((x ++ (b ∷ [])) ++ y) ≡ (x ++ (b ∷ [])) ∷ divided y
unfolding divided
divided-at [] b y all e = rw e
divided-at (c ∷ x) b y all e = rw (all.0, divided-at x b y all.1 e)

-- rows without one are one piece
divided-none : (b : ℕ) (y : List ℕ) → Every (λ c. is_lf c ≡ false) (b ∷ y) → divided (b ∷ y) ≡ (b ∷ y) ∷ []
unfolding divided
divided-none b [] all = rw all.0
divided-none b (c ∷ y) all = rw (all.0, divided-none c y all.1)

-- a part that keeps one LF, and none of whose LF rows is passed by, is the first piece
pub part-divides : {x u : List ℕ} → PartAs x u → tens x ≡ 1 → Every (λ b. T (even b)) u → AllKept u → (y : List ℕ) → divided (u ++ y) ≡ u ∷ divided y
part-divides {x} {u} p one all h y =
    let z = p.front in
    let b = p.feed in
    let last : is_lf b ≡ true = even-lf b (every_back (λ c. T (even c)) z (b ∷ []) (subst (Every (λ c. T (even c))) p.rows all)).0 p.ends in
    let m : tens (chars (kept u)) ≡ 1 = ap tens p.keeps ∙ one in
    let n : feeds u ≡ feeds z + 1 = ap feeds p.rows ∙ count-append is_lf z (b ∷ []) ∙ rw last in
    rw p.rows (divided-at z b y (none-counted is_lf z (omega arith)) last)

-- rows that keep nothing, and none of whose LF rows is passed by, are one piece or none
pub rest-divides : (P : List ℕ → Type 0) (y : List ℕ) → chars (kept y) ≡ [] → AllKept y → P y → Every P (divided y)
unfolding divided
rest-divides P [] e h p = tt
rest-divides P (b ∷ y) e h p =
    let m : tens (chars (kept (b ∷ y))) ≡ 0 = ap tens e in
    rw (divided-none b y (none-counted is_lf (b ∷ y) (omega arith))) (p, tt)
