-- The rows of some blocks one behind the other: they are read as these blocks at their places, may be joined to others, and split before any block.
use Prim.Native.Nat.{ℕ, zero, suc, ◌+◌, ◌≤◌, ◌<◌}
use mathlib.Core.Path.{◌≡◌, refl, sym, ap, ◌∙◌, subst}
use mathlib.Core.List.{List, [], ◌∷◌, ◌++◌, append_assoc, append-nil}
use native.Mathlib.Nat.{le_refl, le_of_suc-le-suc, not-suc-le-zero}
use native.Mathlib.Omega.{arith}
use lib.ListN.{length, get_or, take, drop, length-append}
use lib.Seq.{take-append_seam, drop-append_seam, take_at, drop_at}
use Rattle.rows.specs.Answer.{taken}
use Rattle.rows.specs.Kept.{KeptRow}
use Rattle.shorthand.specs.declared.Format.{Format}
use Rattle.shorthand.specs.Facts.{Facts}
use Rattle.words.specs.Figures.{Behind, taking}
use Rattle.parts.specs.Ends.{head_at}
use Rattle.reading.specs.declared.Block.{Block}
use Rattle.reading.specs.Relation.{Blocked, chars}
use Rattle.reading.specs.declared.Entry.{Entry}
use Rattle.reading.specs.Parse.{BlockRead, entry, block_at, blocks_at}
use Rattle.reading.specs.Answers.{program_at}
use Rattle.reading.proofs.Outcomes.{Reads, chars-append}
use Rattle.reading.proofs.BlockTakes.{head-takes, block-takes}
use Rattle.reading.proofs.Complete.{rows-length}
use Rattle.reading.proofs.ReadBlocks.{Last, last, before, last-after, last_some, HeadRows, Entries, none, more}
use Rattle.reading.proofs.Sound.{block-rows, head_rows}
use Rattle.reading.proofs.BlockWalk.{program-blocks}

-- ---- rows that are read are read at their places

-- rows have one last place
same-last : {p q : ℕ} {s : List KeptRow} → Last p s → Last q s → p ≡ q
same-last (last e) (last d) = sym e ∙ d
same-last (last e) (before k) = elim k [ ]
same-last (before h) (last d) = elim h [ ]
same-last (before h) (before k) = same-last h k

-- a parser that leaves the characters behind the rows s has taken just s
took-all : {A : Type 0} {R : A → List KeptRow → Type 0} (s rest : List KeptRow) (b : Behind A) → Reads R (s ++ rest) b → chars b.rest ≡ chars rest
    → R b.value s × (b.rest ≡ rest)
took-all {R = R} s rest b k e =
    let n : length k.took ≡ length s =
    omega (arith, length-append s rest, length-append k.took b.rest, ap length k.split, rows-length b.rest (chars rest) e, rows-length rest (chars rest) refl) in (
      subst (R b.value) (sym (take_at k.took b.rest (length s) n) ∙ sym (ap (take (length s)) k.split) ∙ take-append_seam s rest) k.stands,
      sym (drop_at k.took b.rest (length s) n) ∙ sym (ap (drop (length s)) k.split) ∙ drop-append_seam s rest,
    )

-- a head is read to its LF
pub head-placed : {p : ℕ} {s : List KeptRow} → HeadRows p s → (len : ℕ) (rest : List KeptRow) → head_at len (s ++ rest) ≡ taking p rest
head-placed {s = s} h len rest =
    let t = head-takes h.ends len (s ++ rest) (chars rest) (chars-append s rest ∙ ap (λ x. x ++ chars rest) h.rows) in
    let k = took-all s rest _ (head_rows len (s ++ rest) _ t.1.takes) t.1.leaves in
    t.1.takes ∙ rw (same-last k.0.to h.to, k.1)

-- a block is read to its LF
pub block-placed : {f : Format} → Facts f → {b : Block} {p : ℕ} {s : List KeptRow} → Blocked f b (chars s) → Last p s → (len : ℕ) (rest : List KeptRow)
    → block_at len f (s ++ rest) ≡ taking (record { block = b; lf = p }) rest
block-placed {f} facts {s = s} h l len rest =
    let t = block-takes f facts h len (chars rest) (s ++ rest) (chars-append s rest) in
    let k = took-all s rest _ (block-rows f len (s ++ rest) _ t.1.takes) t.1.leaves in
    t.1.takes ∙ rw (same-last k.0.1 l, k.1)

module _ {f : Format} (facts : Facts f) (len : ℕ) where
  -- a block, and then those behind it
  next : (k from : ℕ) (rs rest : List KeptRow) (b : BlockRead) (es : List Entry) → 0 < length rs → length rs ≤ k → block_at len f rs ≡ taking b rest
      → ((j : ℕ) → length rs ≤ suc j → blocks_at j len f (b.lf + 1) rest ≡ taken es) → blocks_at k len f from rs ≡ taken (entry from b ∷ es)
  unfolding blocks_at
  next k from [] rest b es some l e turn = absurd (not-suc-le-zero some)
  next zero from (r ∷ rs) rest b es some l e turn = absurd (not-suc-le-zero l)
  next (suc k) from (r ∷ rs) rest b es some l e turn = rw (e, turn k l)

  -- the rows of some blocks are read as these blocks, each from its first row to its LF
  pub entries-read : {from : ℕ} {es : List Entry} {rs : List KeptRow} → Entries f from es rs → (k : ℕ) → length rs ≤ k → blocks_at k len f from rs ≡ taken es
  unfolding blocks_at
  entries-read none zero l = refl
  entries-read none (suc k) l = refl
  entries-read {from} (more {p = p} {b = b} {es = es} {s = s} {rest = rest} h a m) k l =
      let some = last_some a in
      let n = length-append s rest in
      next k from (s ++ rest) rest (record { block = b; lf = p }) es (omega arith) l (block-placed facts h a len rest) (λ j i. entries-read m j (omega arith))

  -- a head's rows, and behind them those of some blocks
  pub program-placed : {p : ℕ} {s : List KeptRow} → HeadRows p s → {es : List Entry} {rs : List KeptRow} → Entries f (p + 1) es rs → program_at len f (s ++ rs) ≡ taken es
  program-placed {p} {s} h {rs = rs} m = program-blocks len f (s ++ rs) p rs (head-placed h len rs) ∙ entries-read m (length rs) (le_refl _)

-- ---- joined and split

-- the row just after the end of the last of some blocks, the first of which stands from a row on
abbrev pub behind_of : ℕ → List Entry → ℕ
behind_of from [] = from
behind_of from (x ∷ es) = behind_of x.to es

-- the rows of blocks, and from the row after their last end on those of others
pub entries-append : {f : Format} {from : ℕ} {es xs : List Entry} {rs us : List KeptRow} → Entries f from es rs → Entries f (behind_of from es) xs us → Entries f from (es ++ xs) (rs ++ us)
entries-append none q = q
entries-append {us = us} (more {s = s} {rest = rest} h l m) q = rw (append_assoc s rest us) (more h l (entries-append m q))

-- the rows of the first n blocks, and those of the others
pub record Parting (f : Format) (from n : ℕ) (es : List Entry) (rs : List KeptRow) : Type 0 where
  pub front : List KeptRow
  pub back : List KeptRow
  pub rows : rs ≡ front ++ back
  pub before : Entries f from (take n es) front
  pub after : Entries f (behind_of from (take n es)) (drop n es) back

-- the rows of blocks part before any of them
pub entries-split : {f : Format} {from : ℕ} {es : List Entry} {rs : List KeptRow} → Entries f from es rs → (n : ℕ) → Parting f from n es rs
entries-split {rs = rs} m zero = record { front = []; back = rs; rows = refl; before = none; after = m }
entries-split none (suc n) = record { front = []; back = []; rows = refl; before = none; after = none }
entries-split {from = from} (more {p = p} {s = s} h l m) (suc n) =
    let k = entries-split {from = p + 1} m n in
    record { front = s ++ k.front; back = k.back; rows = ap (λ u. s ++ u) k.rows ∙ sym (append_assoc s k.front k.back); before = more h l k.before; after = k.after }

-- block n's first row is the one just after the end before it, the head's or a block's
pub entry-from : {f : Format} {from : ℕ} {es : List Entry} {rs : List KeptRow} → Entries f from es rs → (n : ℕ) → n < length es → (d : Entry)
    → (get_or es n d).from ≡ behind_of from (take n es)
entry-from none n l d = absurd (not-suc-le-zero l)
entry-from (more h a m) zero l d = refl
entry-from (more h a m) (suc n) l d = entry-from m n (le_of_suc-le-suc l) d

-- block n ends just before the row behind the first n + 1
pub entry-to : (from : ℕ) (es : List Entry) (n : ℕ) → n < length es → (d : Entry) → (get_or es n d).to ≡ behind_of from (take (suc n) es)
entry-to from [] n l d = absurd (not-suc-le-zero l)
entry-to from (x ∷ es) zero l d = refl
entry-to from (x ∷ es) (suc n) l d = entry-to x.to es n (le_of_suc-le-suc l) d

-- the same for rows that end just before the place where these blocks start
behind-from : {f : Format} {from : ℕ} {es : List Entry} {rs : List KeptRow} → Entries f from es rs → (p : ℕ) (s : List KeptRow) → from ≡ p + 1 → Last p s
    → (q : ℕ) × Last q (s ++ rs) × (q + 1 ≡ behind_of from es)
behind-from none p s e l = (p, rw append-nil l, sym e)
behind-from (more {p = o} {s = u} {rest = rest} h a m) p s e l =
    let k = behind-from m o (s ++ u) refl (last-after s u a) in
    (k.0, rw (append_assoc s u rest) at k.1, k.2)

-- rows that end at the place p, with those of some blocks behind them, end just before the row after the last of these
pub last-behind : {f : Format} {p : ℕ} {s : List KeptRow} → Last p s → {es : List Entry} {rs : List KeptRow} → Entries f (p + 1) es rs
    → (q : ℕ) × Last q (s ++ rs) × (q + 1 ≡ behind_of (p + 1) es)
last-behind {p = p} {s = s} l m = behind-from m p s refl l
