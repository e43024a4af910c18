-- A block of an accepted tape reads the same from its own first row, whatever stands before it.
use mathlib.Core.Path.{◌≡◌, refl, sym, ap, ◌∙◌}
use mathlib.Core.Bool.{Bool, true, false, cond}
use mathlib.Core.List.{List, [], ◌∷◌, ◌++◌}
use Prim.Native.Nat.{ℕ, zero, suc, ◌+◌, ◌≤◌, ◌<◌}
use native.Mathlib.Nat.{le_refl, le_of_suc-le-suc, not-suc-le-zero}
use native.Mathlib.Omega.{arith}
use lib.Dec.{ltb}
use lib.ListN.{length, get_or}
use borrow.Author.Tests.{ltb-true}
use Rattle.rows.specs.Answer.{Answer, taken, refused, value_or, ◌>>=◌}
use Rattle.rows.specs.Kept.{KeptRow, kept_at, kept, first_of}
use Rattle.rows.proofs.KeptRows.{next_row}
use Rattle.shorthand.specs.declared.Format.{Format}
use Rattle.words.specs.Figures.{Behind, taking, behind}
use Rattle.reading.specs.declared.Entry.{Entry}
use Rattle.reading.specs.Parse.{BlockRead, entry, block_at, blocks_at}
use Rattle.parts.specs.Ends.{head_at}
use Rattle.reading.specs.Answers.{nowhere, nth, read}
use Rattle.reading.specs.declared.Part.{Part}
use Rattle.reading.specs.Front.{part_of, nth_part}
use Rattle.reading.specs.Survey.{entry_from}
use Rattle.reading.proofs.BlockWalk.{advances, program-blocks}
use Rattle.reading.proofs.ReadBlocks.{Last, last, before}
use Rattle.reading.proofs.Sound.{block-rows, head_rows}
use Rattle.reading.proofs.Places.{places, rising-at}
use Rattle.reading.proofs.Accepted.{read_taken}

-- ---- the rows behind a block

-- behind the last of some kept rows stand those from the next place on
rows_behind : (t : List ℕ) (p i : ℕ) {s : List KeptRow} (rest : List KeptRow) → Last p s → kept_at t i ≡ s ++ rest → rest ≡ kept_at t (p + 1)
rows_behind t p i rest (last {r = r} e) q =
    let s = next_row t i r.char r.place (r.place + 1) (ap first_of q) in
    ap behind (sym q ∙ s.rows) ∙ rw e
rows_behind t p i rest (before {r = r} {rs = s} h) q =
    let n = next_row t i r.char r.place (r.place + 1) (ap first_of q) in
    rows_behind t p (r.place + 1) rest h (sym (ap behind (sym q ∙ n.rows)))

module _ (f : Format) (t : List ℕ) where
  pub block-behind : (i : ℕ) (b : Behind BlockRead) → block_at (length t) f (kept_at t i) ≡ taken b → b.rest ≡ kept_at t (b.value.lf + 1)
  block-behind i b e =
      let r = block-rows f (length t) (kept_at t i) b e in
      rows_behind t b.value.lf i b.rest r.stands.1 r.split

  -- ---- what is left of the blocks

  -- from a row on these blocks stand to the end of the tape
  pub record Left (from : ℕ) (es : List Entry) : Type 0 where
    pub fuel : ℕ
    pub enough : length (kept_at t from) ≤ fuel
    pub come : blocks_at fuel (length t) f from (kept_at t from) ≡ taken es

  module _ (k from : ℕ) where
    pub none_left : kept_at t from ≡ [] → blocks_at k (length t) f from (kept_at t from) ≡ taken []
    unfolding blocks_at
    none_left q = by k
      where
        by : (k : ℕ) → blocks_at k (length t) f from (kept_at t from) ≡ taken []
        by zero = refl
        by (suc k) = rw q

    pub one_left : (r : KeptRow) (u : List KeptRow) → kept_at t from ≡ r ∷ u
        → blocks_at (suc k) (length t) f from (kept_at t from)
        ≡ (block_at (length t) f (kept_at t from) >>= λ b. blocks_at k (length t) f (b.value.lf + 1) b.rest >>= λ es. taken (entry from b.value ∷ es))
    unfolding blocks_at
    one_left r u q = rw q

  -- no row is left and no block, or the first block of those that are left
  pub data First (from : ℕ) (es : List Entry) : Type 0 where
    nothing : kept_at t from ≡ [] → es ≡ [] → First from es
    block : (r : KeptRow) (u : List KeptRow) → kept_at t from ≡ r ∷ u → (b : Behind BlockRead) → block_at (length t) f (kept_at t from) ≡ taken b
        → (xs : List Entry) → es ≡ entry from b.value ∷ xs → Left (b.value.lf + 1) xs → First from es

  module _ (from : ℕ) (es : List Entry) where
    module _ (k : ℕ) (l : length (kept_at t from) ≤ suc k) (r : KeptRow) (u : List KeptRow) (q : kept_at t from ≡ r ∷ u) where
      by_next : (b : Behind BlockRead) → block_at (length t) f (kept_at t from) ≡ taken b
          → (a : Answer (List Entry)) → blocks_at k (length t) f (b.value.lf + 1) b.rest ≡ a → (a >>= λ x. taken (entry from b.value ∷ x)) ≡ taken es → First from es
      by_next b i (refused x y) j e = let z : ◌≡◌ {A = ℕ} 0 1 = cc in absurd (omega arith)
      by_next b i (taken xs) j e =
          let same = block-behind from b i in
          let less = (advances f (length t) from (kept_at t from) b (rising-at t from) i).fewer in
          block r u q b i xs (ap (value_or []) (sym e)) (record { fuel = k; enough = rw (← same) (omega arith); come = rw same at j })

      by-block : (a : Answer (Behind BlockRead)) → block_at (length t) f (kept_at t from) ≡ a
          → (a >>= λ b. blocks_at k (length t) f (b.value.lf + 1) b.rest >>= λ x. taken (entry from b.value ∷ x)) ≡ taken es → First from es
      by-block (refused x y) i e = let z : ◌≡◌ {A = ℕ} 0 1 = cc in absurd (omega arith)
      by-block (taken b) i e = by_next b i (blocks_at k (length t) f (b.value.lf + 1) b.rest) refl e

    by_rows : (rs : List KeptRow) → kept_at t from ≡ rs → (k : ℕ) → length (kept_at t from) ≤ k → blocks_at k (length t) f from (kept_at t from) ≡ taken es → First from es
    by_rows [] q k l e = nothing q (ap (value_or []) (sym e ∙ none_left k from q))
    by_rows (r ∷ u) q zero l e = let some = ap length q in absurd (omega arith)
    by_rows (r ∷ u) q (suc k) l e = by-block k l r u q (block_at (length t) f (kept_at t from)) refl (sym (one_left k from r u q) ∙ e)

    pub first : Left from es → First from es
    first g = by_rows (kept_at t from) refl g.fuel g.enough g.come

  -- all blocks of an accepted tape stand behind its head
  pub behind-head : (es : List Entry) → read f t ≡ taken es → (lf : ℕ) (rest : List KeptRow) → head_at (length t) (kept t) ≡ taking lf rest → Left (lf + 1) es
  behind-head es e lf rest h =
      let r = head_rows (length t) (kept t) _ h in
      let same = rows_behind t lf 0 rest r.stands.to r.split in
      let blocks = sym (program-blocks (length t) f (kept t) lf rest h) ∙ (read_taken f t e).1 in
      record { fuel = length (kept_at t (lf + 1)); enough = le_refl _; come = rw same at blocks }

  -- ---- block n

  -- read from its own first row, an entry is the same, and behind it stand the rows behind its LF
  pub record OwnEntry (x : Entry) : Type 0 where
    pub b : BlockRead
    pub reads : block_at (length t) f (kept_at t x.from) ≡ taking b (kept_at t x.to)
    pub is : entry x.from b ≡ x

  own_first : {from : ℕ} {es : List Entry} → First from es → 0 < length es → OwnEntry (get_or es 0 nowhere)
  own_first (nothing q e) l = absurd (not-suc-le-zero (rw e at l))
  own_first {from} (block r u q b i xs e h) l = rw e (record { b = b.value; reads = i ∙ ap (taking b.value) (block-behind from b i); is = refl })

  own-next : (n : ℕ) → ((i : ℕ) (xs : List Entry) → Left i xs → n < length xs → OwnEntry (get_or xs n nowhere)) → {from : ℕ} {es : List Entry} → First from es → suc n < length es
      → OwnEntry (get_or es (suc n) nowhere)
  own-next n turn (nothing q e) l = absurd (not-suc-le-zero (rw e at l))
  own-next n turn (block r u q b i xs e h) l = rw e (turn (b.value.lf + 1) xs h (le_of_suc-le-suc (rw e at l)))

  own-left : (n from : ℕ) (es : List Entry) → Left from es → n < length es → OwnEntry (get_or es n nowhere)
  own-left zero from es g l = own_first (first from es g) l
  own-left (suc n) from es g l = own-next n (λ i xs. own-left n i xs) (first from es g) l

  -- a block of an accepted tape, its LF and what is behind it are the same read from its own first row
  pub own-entry : {es : List Entry} → read f t ≡ taken es → (n : ℕ) → n < length es → OwnEntry (get_or es n nowhere)
  own-entry {es} e n l =
      let p = places f t es (read_taken f t e).1 nowhere in
      own-left n (p.head.value + 1) es (behind-head es e p.head.value p.head.rest p.begins) l

  -- so the entry is the one that begins there
  pub own-from : {es : List Entry} → read f t ≡ taken es → (n : ℕ) → n < length es → entry_from f t (get_or es n nowhere).from ≡ taken (get_or es n nowhere)
  unfolding entry_from
  own-from e n l = let o = own-entry e n l in rw (o.reads, o.is)

-- ---- block n from its own first row

pub own-part : (f : Format) (t : List ℕ) (n : ℕ) (part : Part) → taken part ≡ nth_part n (read f t) → entry_from f t part.from ≡ (read f t >>= nth n)
own-part f t n part e = by (read f t) refl e
  where
    by : (a : Answer (List Entry)) → read f t ≡ a → taken part ≡ nth_part n a → entry_from f t part.from ≡ (a >>= nth n)
    by (refused x y) r w = let z : ◌≡◌ {A = ℕ} 0 1 = cc in absurd (omega arith)
    by (taken es) r w = among (ltb n (length es)) refl w
      where
        among : (b : Bool) → ltb n (length es) ≡ b → taken part ≡ (cond b (taken (get_or es n nowhere)) (refused 15 (length es)) >>= λ x. taken (part_of x))
            → entry_from f t part.from ≡ cond b (taken (get_or es n nowhere)) (refused 15 (length es))
        among true l h = let z : part ≡ part_of (get_or es n nowhere) = cc in rw z (own-from f t r n (ltb-true n (length es) l))
        among false l h = let z : ◌≡◌ {A = ℕ} 0 1 = cc in absurd (omega arith)
