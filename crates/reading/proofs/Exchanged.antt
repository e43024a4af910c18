-- What stands behind an end of an accepted tape may be exchanged, and the blocks before it stay as they are.
use Prim.Native.Nat.{ℕ, suc, ◌+◌, ◌-◌, ◌≤◌, ◌<◌}
use mathlib.Core.Path.{◌≡◌, refl, sym, ap, ◌∙◌, subst}
use mathlib.Core.Bool.{false}
use mathlib.Core.List.{List, [], ◌∷◌, ◌++◌, append_assoc, append-nil}
use native.Mathlib.Nat.{zero-add}
use native.Mathlib.Omega.{arith}
use lib.ListN.{length, get_or, take, drop, replicate, length-append, length-drop, length-replicate, drop_of_length-le}
use lib.Seq.{length-take-le, take_at, drop_at}
use Rattle.rows.specs.Answer.{taken}
use Rattle.rows.specs.Kept.{KeptRow, kept_from, kept_at, kept}
use Rattle.rows.specs.Passes.{Every, Passes}
use Rattle.rows.specs.Stages.{limit}
use Rattle.rows.proofs.Blanks.{Blank, past-blanks, blanks-kept, blanks-pass, dels-blank}
use Rattle.rows.proofs.FormedBehind.{parts-pass}
use Rattle.rows.proofs.Judged.{passes-clean, clean-passes}
use Rattle.rows.proofs.TapesJoined.{passes_append, kept_append}
use Rattle.rows.proofs.TapeParts.{divided-at}
use Rattle.shorthand.specs.declared.Format.{Format}
use Rattle.shorthand.specs.Facts.{Facts}
use Rattle.words.specs.Figures.{Behind}
use Rattle.parts.specs.Ends.{entered}
use Rattle.reading.specs.declared.Entry.{Entry}
use Rattle.reading.specs.Answers.{nowhere, program_at, read}
use Rattle.reading.proofs.ReadBlocks.{HeadRows, Entries, none, ProgramRows}
use Rattle.reading.proofs.Sound.{taken-rows}
use Rattle.reading.proofs.BlockParts.{ending}
use Rattle.reading.proofs.BlockWalk.{read-clean, entered-head}
use Rattle.reading.proofs.Places.{places}
use Rattle.reading.proofs.Accepted.{read_taken}
use Rattle.reading.proofs.EntryRows.{program-placed, behind_of, entries-append, entries-split, entry-from, entry-to, last-behind}

-- ---- a tape cut before a block or behind its last end

-- row i is block n's first, or just after the last end: before it stand the head and the first n blocks, from it on the others, and both parts pass by themselves
pub record Cut (f : Format) (t : List ℕ) (es : List Entry) (n i : ℕ) : Type 0 where
  pub within : i ≤ length t
  pub passes : Passes t
  pub before : Passes (take i t)
  pub behind : Passes (drop i t)
  pub lf : ℕ
  pub head : List KeptRow
  pub heads : HeadRows lf head
  pub rows : List KeptRow
  pub keeps : kept (take i t) ≡ head ++ rows
  pub blocks : Entries f (lf + 1) (take n es) rows
  pub at : behind_of (lf + 1) (take n es) ≡ i
  pub others : Entries f i (drop n es) (kept_at t i)

-- cut behind the last kept row of the first n blocks, or of the head
cut-rows : {f : Format} {t : List ℕ} {es : List Entry} → Passes t → (k : ProgramRows (length t) f (kept t) es) (n : ℕ) → Cut f t es n (behind_of (k.head.value + 1) (take n es))
cut-rows {f} {t} {es} p k n =
    let hs = k.front.took in
    let i = behind_of (k.head.value + 1) (take n es) in
    let s = entries-split k.blocks n in
    let l = last-behind k.front.stands.to s.before in
    let g = ending l.1 in
    let rows : kept t ≡ (hs ++ s.front) ++ s.back = k.front.split ∙ ap (λ u. hs ++ u) s.rows ∙ sym (append_assoc hs s.front s.back) in
    let d = divided-at p.formed 0 g.front g.row s.back (rows ∙ ap (λ u. u ++ s.back) g.rows ∙ append_assoc g.front (g.row ∷ []) s.back) in
    let x = d.front ++ (d.c ∷ []) in
    let at : g.row.place + 1 ≡ i = ap (λ q. q + 1) g.place ∙ l.2 in
    let long : length x ≡ i = omega (arith, d.place, at) in
    let before : take i t ≡ x = ap (take i) d.joined ∙ take_at x d.y i long in
    let behind : drop i t ≡ d.y = ap (drop i) d.joined ∙ drop_at x d.y i long in
    let parts = parts-pass d.formed (subst Passes d.joined p) in
    record {
      within = omega (arith, long, ap length d.joined, length-append x d.y);
      passes = p;
      before = rw before parts.0;
      behind = rw behind parts.1;
      lf = k.head.value;
      head = hs;
      heads = k.front.stands;
      rows = s.front;
      keeps = ap kept before ∙ d.kept ∙ sym g.rows;
      blocks = s.before;
      at = refl;
      others = subst (Entries f i (drop n es)) (sym (ap (kept_from false i) behind ∙ ap (λ j. kept_from false j d.y) (sym at) ∙ d.rest)) s.after;
    }

module _ (f : Format) (t : List ℕ) {es : List Entry} (e : read f t ≡ taken es) where
  -- its kept rows, the head's and those of the blocks
  rows_of : ProgramRows (length t) f (kept t) es
  rows_of = taken-rows f (length t) (kept t) es (read_taken f t e).1

  -- the row behind the first n blocks
  cut : (n : ℕ) → Cut f t es n (behind_of (rows_of.head.value + 1) (take n es))
  cut n = cut-rows (clean-passes t (read_taken f t e).0) rows_of n

  -- the same, by the head that is entered: where n is 0 the row just after the head's end, where it is all blocks the one just after the last end
  pub cut-behind : (h : Behind ℕ) → entered t ≡ taken h → (n : ℕ) → Cut f t es n (behind_of (h.value + 1) (take n es))
  cut-behind h q n =
      let same : rows_of.head ≡ h = cc (rows_of.begins, entered-head t h q) in subst (λ (x : Behind ℕ). Cut f t es n (behind_of (x.value + 1) (take n es))) same (cut n)

  -- the first row of block n
  pub cut-before : (n : ℕ) → n < length es → Cut f t es n (get_or es n nowhere).from
  cut-before n l = rw (entry-from rows_of.blocks n l nowhere) (cut n)

  -- the row just after the end of block n
  pub cut-after : (n : ℕ) → n < length es → Cut f t es (suc n) (get_or es n nowhere).to
  cut-after n l = rw (entry-to (rows_of.head.value + 1) es n l nowhere) (cut (suc n))

-- no block, no row
no-entries : {f : Format} {i : ℕ} {rs : List KeptRow} → Entries f i [] rs → rs ≡ []
no-entries none = refl

-- behind the last end nothing is kept
pub behind-last : {f : Format} {t : List ℕ} {es : List Entry} {n i : ℕ} → Cut f t es n i → length es ≤ n → kept_at t i ≡ []
behind-last {f} {t} {es} {n} {i} c l = no-entries (subst (λ xs. Entries f i xs (kept_at t i)) (drop_of_length-le es {i = n} l) c.others)

-- ---- the rows from such a row on exchanged

module _ {f : Format} (facts : Facts f) {t : List ℕ} {es : List Entry} {n i : ℕ} (c : Cut f t es n i) where
  -- with the rows of other blocks: the first n blocks are read as before, and then those
  pub exchanged : {xs : List Entry} (u : List ℕ) → Passes u → i + length u ≤ limit → Entries f i xs (kept_from false i u) → read f (take i t ++ u) ≡ taken (take n es ++ xs)
  exchanged u p l m =
      let x = take i t in
      let long : length x ≡ i = length-take-le i t c.within in
      let whole : Passes (x ++ u) = passes_append c.before p (omega (arith, length-append x u)) in
      let rows : kept (x ++ u) ≡ c.head ++ (c.rows ++ kept_from false i u) =
      kept_append c.before.formed 0 u ∙ rw (c.keeps, long, zero-add) (append_assoc c.head c.rows (kept_from false i u)) in
      read-clean f (x ++ u) (passes-clean (x ++ u) whole) ∙ ap (program_at (length (x ++ u)) f) rows
      ∙ program-placed facts (length (x ++ u)) c.heads (entries-append c.blocks (rw c.at m))

  -- with blank rows: the first n blocks are left, where they were
  pub blanked : (z : List ℕ) → Every Blank z → i + length z ≤ limit → read f (take i t ++ z) ≡ taken (take n es)
  blanked z h l = exchanged z (blanks-pass z h (omega arith)) l (rw (blanks-kept false i z h) none) ∙ ap taken (append-nil (take n es))

  -- with blank rows up to the last end, and behind it the rows that stood there: the first n blocks are left
  pub taken-off : {m j : ℕ} → Cut f t es m j → length es ≤ m → (z : List ℕ) → Every Blank z → i + length z ≡ j → read f (take i t ++ (z ++ drop j t)) ≡ taken (take n es)
  taken-off {j = j} b last z h e =
      let size = length-append z (drop j t) in
      let rest = length-drop j t in
      let whole = b.passes.short in
      let within = b.within in
      let u : Passes (z ++ drop j t) = passes_append (blanks-pass z h (omega arith)) b.behind (omega arith) in
      exchanged (z ++ drop j t) u (omega arith) (rw (past-blanks false i z (drop j t) h, e, behind-last b last) none) ∙ ap taken (append-nil (take n es))

  -- with what stands from the same row on behind an end of another tape, or of this one: the first n blocks, and then those that stand there
  pub spliced : {s : List ℕ} {xs : List Entry} {m : ℕ} → Cut f s xs m i → read f (take i t ++ drop i s) ≡ taken (take n es ++ drop m xs)
  spliced {s} b =
      let rest = length-drop i s in
      let whole = b.passes.short in
      let within = b.within in
      exchanged (drop i s) b.behind (omega arith) b.others

-- the last block overpunched to DEL is gone, and all others stay
pub last_off : {f : Format} → Facts f → (t : List ℕ) {es : List Entry} → read f t ≡ taken es → (n : ℕ) → suc n ≡ length es
    → let x = get_or es n nowhere in read f (take x.from t ++ (replicate (x.to - x.from) 255 ++ drop x.to t)) ≡ taken (take n es)
last_off {f} facts t {es} e n q =
    let x = get_or es n nowhere in
    let l : n < length es = omega arith in
    let some = ((places f t es (read_taken f t e).1 nowhere).within n l).0 in
    let d = x.to - x.from in
    taken-off facts (cut-before f t e n l) (cut-after f t e n l) (omega arith) (replicate d 255) (dels-blank d) (rw length-replicate (omega arith))
