-- An accepted tape whose control-outs hold no LF row comes back unaltered; and what is saved is such a tape, so that saving again changes nothing.
use Prim.Native.Nat.{ℕ, zero, suc, ◌+◌, ◌≤◌}
use mathlib.Core.Path.{◌≡◌, refl, sym, ap, ◌∙◌, subst}
use mathlib.Core.Bool.{Bool, true, false, cond}
use mathlib.Core.List.{List, [], ◌∷◌, ◌++◌, append_assoc, append-nil, flatten}
use native.Mathlib.Omega.{arith}
use lib.Dec.{eqb, leb-zero}
use lib.ListN.{length, replicate, length-append}
use borrow.Author.Tests.{le-ltb, eqb-true}
use Rattle.rows.specs.Answer.{Answer, taken, refused, number_of, void, ◌>>◌}
use Rattle.rows.specs.ControlOut.{WellFormed}
use Rattle.rows.specs.Faults.{RowRefusal, long, odd, foreign, fault}
use Rattle.rows.specs.Kept.{kept}
use Rattle.rows.specs.Passes.{Every, Passes}
use Rattle.rows.specs.Stages.{limit, judged}
use Rattle.rows.proofs.FormedBehind.{parts-pass}
use Rattle.rows.proofs.Judged.{passes-clean, clean-passes}
use Rattle.rows.proofs.KeptRows.{kept-chars}
use Rattle.rows.proofs.Outcomes.{Holds, refusal}
use Rattle.rows.proofs.RowRefusals.{row-refusals}
use Rattle.rows.proofs.TapesJoined.{passes_append}
use Rattle.shorthand.specs.declared.Format.{Format}
use Rattle.shorthand.specs.Facts.{Facts}
use Rattle.reading.specs.declared.Block.{Block}
use Rattle.reading.specs.Relation.{End, Blocks, none, more, Program, program, chars}
use Rattle.reading.specs.declared.Entry.{Entry}
use Rattle.reading.specs.Answers.{program_at, read}
use Rattle.reading.proofs.Accepted.{read_taken}
use Rattle.reading.proofs.BlockParts.{Parted, over, part, whole}
use Rattle.reading.proofs.BlockWalk.{read-clean}
use Rattle.reading.proofs.Complete.{complete}
use Rattle.reading.proofs.Numbered.{taken-value}
use Rattle.reading.proofs.MovedRows.{chars-behind}
use Rattle.salvage.specs.Pieces.{is_lf, divided, head_of, pieces_of}
use Rattle.salvage.specs.Clear.{Clear, end, row, remark}
use Rattle.salvage.specs.Saving.{Saved, piece_number, saved_piece, saved_rows, losses, saved_of, salvaged_for}
use Rattle.salvage.proofs.Dividing.{LfLast, head-whole, parts_last}
use Rattle.salvage.proofs.SavedBlocks.{answered, saved-stands}
use Rattle.salvage.proofs.Feeds.{AllKept, clear-feeds, parts-kept, part-divides, rest-divides}
use Rattle.salvage.proofs.OneLF.{head-one, block_one}

-- ---- accepted tapes

-- rows that pass and stand for a program are accepted
stands_read : {f : Format} → Facts f → (t : List ℕ) {bs : List Block} → Passes t → Program f bs (chars (kept t)) → (es : List Entry) × (read f t ≡ taken es)
stands_read {f} facts t {bs} p h = let c = complete f facts bs (length t) (kept t) h in (c.0, read-clean f t (passes-clean t p) ∙ c.1)

-- behind a head
module _ {f : Format} (facts : Facts f) {h mark : List ℕ} (ends : End mark) (keeps : chars (kept h) ≡ 37 ∷ mark) (passes : Passes h) where
  head_read : taken tt ≡ void (read f h)
  head_read = rw (stands_read facts h {bs = []} passes (rw keeps (subst (λ x. Program f [] (37 ∷ x)) (append-nil mark) (program ends none)))).1

  -- rows that stand for blocks are accepted
  behind-read : {bs : List Block} (r : List ℕ) → Passes r → length h + length r ≤ limit → Blocks f bs (chars (kept r)) → piece_number f h r ≡ 0
  behind-read {bs} r p l b =
      rw (stands_read facts (h ++ r) {bs = bs} (passes_append passes p (omega (arith, length-append h r))) (rw (chars-behind passes.formed r, keeps) (program ends b))).1

  -- each block's rows are a piece, and what stands behind the last is one or none
  pieces-stay : {from : ℕ} {es : List Entry} {us : List (List ℕ)} {y : List ℕ} → Parted f from es us y → Passes y → AllKept y → length h + length y ≤ limit
      → Every (λ r. piece_number f h r ≡ 0) (divided y)
  pieces-stay {from} (over {y = y} w e) p a l =
      let no_row : chars (kept y) ≡ [] = kept-chars y false 0 from ∙ ap chars e in
      rest-divides (λ r. piece_number f h r ≡ 0) y no_row a (behind-read {bs = []} y p l (rw no_row none))
  pieces-stay (part {b = b} {x = x} {y = y} u stands k rest) p a l =
      let q = parts-pass k.formed p in
      let c = parts-kept k.formed y p.even a in
      let n = length-append u y in
      let one : Blocks f (b ∷ []) (chars (kept u)) = rw k.keeps (subst (Blocks f (b ∷ [])) (append-nil x) (more stands none)) in
      rw (part-divides k (block_one facts stands) q.0.even c.0 y) (behind-read u q.0 (omega arith) one, pieces-stay rest q.1 c.1 (omega arith))

-- every piece of an accepted tape whose control-outs hold no LF row is accepted behind its head, and so is its head by itself
pub all_stay : (f : Format) → Facts f → (t : List ℕ) {es : List Entry} → read f t ≡ taken es → Clear t
    → (taken tt ≡ void (read f (head_of t))) × Every (λ r. piece_number f (head_of t) r ≡ 0) (pieces_of t)
all_stay f facts t {es} e c =
    let r = read_taken f t e in
    let passes = clean-passes t r.0 in
    let k = whole f t es passes.formed r.1 in
    let p = subst Passes k.joined passes in
    let q = parts-pass k.is.formed p in
    let a = parts-kept k.is.formed k.y p.even (subst AllKept k.joined (clear-feeds c 0)) in
    let short = p.short in
    let n = length-append k.head k.y in
    let pieces : divided t ≡ k.head ∷ divided k.y = ap divided k.joined ∙ part-divides k.is (head-one k.ends) q.0.even a.0 k.y in
    rw pieces (head_read facts k.ends k.is.keeps q.0, pieces-stay facts k.ends k.is.keeps q.0 k.parted q.1 a.1 (omega arith))

-- where all pieces stay they are saved as they are, and none is lost
saved-all : (f : Format) (h : List ℕ) (rs : List (List ℕ)) (at : ℕ) → Every (λ r. piece_number f h r ≡ 0) rs → (saved_rows f h rs ≡ flatten rs) × (losses f h at rs ≡ [])
unfolding flatten
saved-all f h [] at all = (refl, refl)
saved-all f h (r ∷ rs) at all = let k = saved-all f h rs (at + length r) all.1 in (rw (all.0, k.0), rw (all.0, k.1))

-- nothing is lost, whatever the room
pub unaltered : (f : Format) → Facts f → (t : List ℕ) {es : List Entry} → read f t ≡ taken es → Clear t → (firsts sizes numbers : ℕ)
    → salvaged_for f t firsts sizes numbers ≡ taken (record { rows = t; lost = [] })
unfolding salvaged_for
unaltered f facts t e c firsts sizes numbers =
    let k = all_stay f facts t e c in
    let h = head_of t in
    let s = saved-all f h (pieces_of t) (length h) k.1 in
    let rows : h ++ saved_rows f h (pieces_of t) ≡ t = rw s.0 (head-whole t) in
    let short = (clean-passes t (read_taken f t e).0).short in
    rw (le-ltb limit (length t) short, taken-value [] (read f h) (sym k.0), rows, s.1, leb-zero firsts, leb-zero sizes, leb-zero numbers)

-- ---- what is saved

-- where an LF row stands at the end alone, none is among rows that others follow
before_last : (x : List ℕ) (c : ℕ) (t : List ℕ) → LfLast (x ++ (c ∷ t)) → Every (λ b. is_lf b ≡ false) x × LfLast t
before_last [] c [] l = (tt, tt)
before_last [] c (d ∷ t) l = (tt, l.1)
before_last (b ∷ []) c t l = let k = before_last [] c t l.1 in ((l.0, tt), k.1)
before_last (b ∷ d ∷ x) c t l = let k = before_last (d ∷ x) c t l.1 in ((l.0, k.0), k.1)

-- rows that pass and have an LF row at their end alone hold none in a control-out
pub last-clear : {r : List ℕ} → WellFormed r → LfLast r → Clear r
last-clear WellFormed.end l = end
last-clear (WellFormed.row {b = b} {t = t} h w) l = row h (last-clear w (before_last [] b t l).1)
last-clear (WellFormed.remark {o = o} {r = r} {t = t} c e m f w) l = let k = before_last (o ∷ r) c t l in remark c e m k.0.1 f (last-clear w k.1)

clear-append : {t u : List ℕ} → Clear t → Clear u → Clear (t ++ u)
clear-append end v = v
clear-append (row h c) v = row h (clear-append c v)
clear-append {u = u} (remark {r = r} {t = t} c e m free f k) v = rw (append_assoc r (c ∷ t) u) (remark c e m free f (clear-append k v))

dels-clear : (n : ℕ) → Clear (replicate n 255)
dels-clear zero = end
dels-clear (suc n) = row refl (dels-clear n)

-- what is answered with no refusal's number passes
number-passes : (f : Format) (t : List ℕ) → number_of (read f t) ≡ 0 → Passes t
unfolding read
number-passes f t e = clean-passes t (by (judged t) (row-refusals t) e)
  where
    some : {n p : ℕ} → RowRefusal t n p → n ≡ 0 → ⊥
    some (long l) q = omega arith
    some (odd l k) q = omega arith
    some (foreign l o k) q = omega arith
    some (fault l o g k) q = omega arith

    by : (a : Answer (Unit {0})) → Holds (RowRefusal t) (λ u. Unit {0}) a → number_of (a >> program_at (length t) f (kept t)) ≡ 0 → a ≡ taken tt
    by (taken u) h q = refl
    by (refused n p) (refusal k) q = absurd (some k q)

-- a piece that stays passes behind the head
piece-clear : (f : Format) {h : List ℕ} → WellFormed h → (r : List ℕ) → LfLast r → Clear (saved_piece (piece_number f h r) r)
piece-clear f {h} w r l = by (eqb (piece_number f h r) 0) refl
  where
    by : (x : Bool) → eqb (piece_number f h r) 0 ≡ x → Clear (cond x r (replicate (length r) 255))
    by true q = last-clear (parts-pass w (number-passes f (h ++ r) (eqb-true (piece_number f h r) 0 q))).1.formed l
    by false q = dels-clear (length r)

rows-clear : (f : Format) {h : List ℕ} → WellFormed h → (rs : List (List ℕ)) → Every LfLast rs → Clear (saved_rows f h rs)
rows-clear f w [] all = end
rows-clear f w (r ∷ rs) all = clear-append (piece-clear f w r all.0) (rows-clear f w rs all.1)

-- what is saved holds none either
pub saved-clear : (f : Format) (t : List ℕ) → taken tt ≡ void (read f (head_of t)) → Clear (saved_of f t).rows
saved-clear f t a =
    let k = parts_last t in
    let h = (number-passes f (head_of t) (ap number_of (taken-value [] (read f (head_of t)) (sym a)))).formed in
    clear-append (last-clear h k.0) (rows-clear f h (pieces_of t) k.1)

-- saving again changes nothing
pub again : (f : Format) → Facts f → (t : List ℕ) (a b c : ℕ) (x : Saved) → salvaged_for f t a b c ≡ taken x → (firsts sizes numbers : ℕ)
    → salvaged_for f x.rows firsts sizes numbers ≡ taken (record { rows = x.rows; lost = [] })
again f facts t a b c x q firsts sizes numbers =
    let k = answered f t a b c x q in
    let s = saved-stands f t k.short k.head in
    rw (sym k.is) (unaltered f facts (saved_of f t).rows (stands_read facts (saved_of f t).rows s.0 s.1).1 (saved-clear f t k.head) firsts sizes numbers)
