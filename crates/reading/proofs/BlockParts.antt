-- The rows of a tape as parts: the head's, and then each block's, one behind the other, every part well formed by itself.
use Prim.Native.Nat.{ℕ, zero, suc, ◌+◌, ◌-◌, ◌<◌}
use mathlib.Core.Path.{◌≡◌, refl, sym, ap, ◌∙◌, subst}
use mathlib.Core.Bool.{false}
use mathlib.Core.List.{List, [], ◌∷◌, ◌++◌, append_assoc}
use native.Mathlib.Nat.{le_of_suc-le-suc, not-suc-le-zero}
use native.Mathlib.Omega.{arith}
use lib.ListN.{length, get_or, length-append}
use lib.Seq.{take-append_seam, drop-append_seam}
use Rattle.rows.specs.Row.{character}
use Rattle.rows.specs.Answer.{taken}
use Rattle.rows.specs.Kept.{KeptRow, kept_from, kept}
use Rattle.rows.specs.ControlOut.{WellFormed}
use Rattle.rows.proofs.KeptRows.{kept-chars}
use Rattle.rows.proofs.TapeParts.{divided-at}
use Rattle.shorthand.specs.declared.Format.{Format}
use Rattle.reading.specs.declared.Block.{Block}
use Rattle.reading.specs.Relation.{End, lf, cr_lf, start_rows, Blocked, block, chars}
use Rattle.reading.specs.declared.Entry.{Entry}
use Rattle.reading.specs.Answers.{nowhere, program_at, entry_rows}
use Rattle.reading.proofs.Outcomes.{chars-append}
use Rattle.reading.proofs.ReadBlocks.{Last, last, before, Entries}
use Rattle.reading.proofs.Sound.{taken-rows}

-- ---- the last row

-- these characters end with LF
abbrev Feeds : List ℕ → Type 0
Feeds x = (z : List ℕ) × (x ≡ z ++ (10 ∷ []))

feeds-behind : (x y : List ℕ) → Feeds y → Feeds (x ++ y)
feeds-behind x y h = (x ++ h.0, ap (λ u. x ++ u) h.1 ∙ sym (append_assoc x h.0 (10 ∷ [])))

end-feeds : {e : List ℕ} → End e → Feeds e
end-feeds lf = ([], refl)
end-feeds cr_lf = (13 ∷ [], refl)

block-feeds : {f : Format} {b : Block} {x : List ℕ} → Blocked f b x → Feeds x
block-feeds {f} (block {s} {r = r} {e = e} start some ws h) = feeds-behind (start_rows f.sequence s) _ (feeds-behind r e (end-feeds h))

one_last : (x y : List ℕ) (c d : ℕ) → x ++ (c ∷ []) ≡ y ++ (d ∷ []) → c ≡ d
one_last [] [] c d e = cc
one_last [] (b ∷ y) c d e = let n = ap length e in absurd (omega (arith, n, length-append y (d ∷ [])))
one_last (a ∷ x) [] c d e = let n = ap length e in absurd (omega (arith, n, length-append x (c ∷ [])))
one_last (a ∷ x) (b ∷ y) c d e = let t : x ++ (c ∷ []) ≡ y ++ (d ∷ []) = cc in one_last x y c d t

-- the last of some kept rows, and those before it
pub record Ending (p : ℕ) (s : List KeptRow) : Type 0 where
  pub front : List KeptRow
  pub row : KeptRow
  pub rows : s ≡ front ++ (row ∷ [])
  pub place : row.place ≡ p

pub ending : {p : ℕ} {s : List KeptRow} → Last p s → Ending p s
ending (last {r = r} e) = record { front = []; row = r; rows = refl; place = e }
ending (before {r = r} h) = let k = ending h in record { front = r ∷ k.front; row = k.row; rows = ap (λ l. r ∷ l) k.rows; place = k.place }

feeds-last : {p : ℕ} {s : List KeptRow} → Feeds (chars s) → (k : Ending p s) → k.row.char ≡ 10
feeds-last {s = s} h k = one_last (chars k.front) h.0 k.row.char 10 (sym (ap chars k.rows ∙ chars-append k.front (k.row ∷ [])) ∙ h.1)

-- ---- one part

-- rows that end with LF, keep these characters, and are well formed by themselves
pub record PartAs (x u : List ℕ) : Type 0 where
  pub front : List ℕ
  pub feed : ℕ
  pub rows : u ≡ front ++ (feed ∷ [])
  pub ends : character feed ≡ 10
  pub formed : WellFormed u
  pub keeps : chars (kept u) ≡ x

-- the rows from a place on begin with a part, and what is behind it is left
pub record Begins (t : List ℕ) (i p : ℕ) (s rest : List KeptRow) : Type 0 where
  pub part : List ℕ
  pub y : List ℕ
  pub joined : t ≡ part ++ y
  pub long : i + length part ≡ p + 1
  pub is : PartAs (chars s) part
  pub behind : WellFormed y
  pub left : kept_from false (p + 1) y ≡ rest

begins : {t : List ℕ} → WellFormed t → (i p : ℕ) (s rest : List KeptRow) → Last p s → Feeds (chars s) → kept_from false i t ≡ s ++ rest → Begins t i p s rest
begins {t} w i p s rest h feeds e =
    let k = ending h in
    let d = divided-at w i k.front k.row rest (e ∙ ap (λ l. l ++ rest) k.rows ∙ append_assoc k.front (k.row ∷ []) rest) in
    record {
      part = d.front ++ (d.c ∷ []);
      y = d.y;
      joined = d.joined;
      long = d.place ∙ ap (λ n. n + 1) k.place;
      is =
          record {
            front = d.front;
            feed = d.c;
            rows = refl;
            ends = d.last ∙ feeds-last feeds k;
            formed = d.formed;
            keeps = kept-chars (d.front ++ (d.c ∷ [])) false 0 i ∙ ap chars (d.kept ∙ sym k.rows);
          };
      behind = d.behind;
      left = ap (λ n. kept_from false (n + 1) d.y) (sym k.place) ∙ d.rest;
    }

-- ---- all parts

-- the blocks' rows from a place on: a part for each, and behind them nothing that is kept
pub data Parted (f : Format) : ℕ → List Entry → List (List ℕ) → List ℕ → Type 0 where
  over : {from : ℕ} {y : List ℕ} → WellFormed y → kept_from false from y ≡ [] → Parted f from [] [] y
  part : {from : ℕ} {b : Block} {es : List Entry} {us : List (List ℕ)} {x y : List ℕ} (u : List ℕ) → Blocked f b x → PartAs x u → Parted f (from + length u) es us y
      → Parted f from (record { block = b; from = from; to = from + length u } ∷ es) (u ∷ us) (u ++ y)

joins : {f : Format} {from q : ℕ} {b : Block} {es : List Entry} {us : List (List ℕ)} {x y t : List ℕ} (u : List ℕ) → t ≡ u ++ y → from + length u ≡ q → Blocked f b x → PartAs x u
    → Parted f q es us y → Parted f from (record { block = b; from = from; to = q } ∷ es) (u ∷ us) t
joins u e l h k r = rw (e, sym l) (part u h k (rw (sym l) at r))

parted : {f : Format} {es : List Entry} (from : ℕ) {rs : List KeptRow} → Entries f from es rs → {t : List ℕ} → WellFormed t → kept_from false from t ≡ rs
    → (us : List (List ℕ)) × Parted f from es us t
parted from Entries.none w e = ([], over w e)
parted from (Entries.more {p = p} {b = b} {s = s} {rest = rest} h l m) w e =
    let k = begins w from p s rest l (block-feeds h) e in
    let later = parted (p + 1) m k.behind k.left in
    (k.part ∷ later.0, joins k.part k.joined k.long h k.is later.1)

-- the part of block n is the rows that are handed back
pub handed : {f : Format} {from : ℕ} {es : List Entry} {us : List (List ℕ)} {y : List ℕ} → Parted f from es us y → (t before : List ℕ) → t ≡ before ++ y → from ≡ length before
    → (n : ℕ) → n < length es → entry_rows t (get_or es n nowhere) ≡ get_or us n []
handed (over w e) t x q l n h = absurd (not-suc-le-zero h)
handed {from = from} (part {y = y} u b p r) t x q l zero h =
    let n : (from + length u) - from ≡ length u = omega arith in
    rw (n, q, l, drop-append_seam x (u ++ y), take-append_seam u y)
handed {from = from} (part {y = y} u b p r) t x q l (suc n) h =
    handed r t (x ++ u) (q ∙ sym (append_assoc x u y)) (omega (arith, l, length-append x u)) n (le_of_suc-le-suc h)

-- the head, and behind it the blocks
pub record Whole (f : Format) (t : List ℕ) (es : List Entry) : Type 0 where
  pub mark : List ℕ
  pub ends : End mark
  pub head : List ℕ
  pub y : List ℕ
  pub joined : t ≡ head ++ y
  pub is : PartAs (37 ∷ mark) head
  pub parts : List (List ℕ)
  pub parted : Parted f (length head) es parts y

pub whole : (f : Format) (t : List ℕ) (es : List Entry) → WellFormed t → program_at (length t) f (kept t) ≡ taken es → Whole f t es
whole f t es w e =
    let h = taken-rows f (length t) (kept t) es e in
    let s = h.front.stands in
    let k = begins w 0 h.head.value h.front.took h.head.rest s.to (rw s.rows (feeds-behind (37 ∷ []) s.mark (end-feeds s.ends))) h.front.split in
    let at : h.head.value + 1 ≡ length k.part = omega (arith, k.long) in
    let blocks = parted (h.head.value + 1) h.blocks k.behind k.left in
    record {
      mark = s.mark;
      ends = s.ends;
      head = k.part;
      y = k.y;
      joined = k.joined;
      is = subst (λ x. PartAs x k.part) s.rows k.is;
      parts = blocks.0;
      parted = subst (λ n. Parted f n es blocks.0 k.y) at blocks.1;
    }
