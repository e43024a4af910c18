-- Complete: a program that stands as the rows is the answer; and so unique: two programs never share their rows.
use Prim.Native.Nat.{ℕ, zero, suc, ◌+◌, ◌≤◌}
use mathlib.Core.Path.{◌≡◌, refl, sym, ap, ◌∙◌}
use mathlib.Core.List.{List, [], ◌∷◌, ◌++◌, map}
use native.Mathlib.Omega.{arith}
use lib.ListN.{length, length-append, length-map}
use Rattle.rows.specs.Answer.{Answer, taken}
use Rattle.rows.specs.Kept.{KeptRow}
use Rattle.shorthand.specs.declared.Format.{Format}
use Rattle.shorthand.specs.Facts.{Facts}
use Rattle.reading.specs.declared.Block.{Block}
use Rattle.reading.specs.Relation.{Blocks, none, more, Program, program, chars}
use Rattle.reading.specs.declared.Entry.{Entry}
use Rattle.reading.specs.Parse.{entry, block_at, blocks_at}
use Rattle.reading.specs.Answers.{program_at}
use Rattle.reading.proofs.RowsAhead.{Takes}
use Rattle.reading.proofs.BlockTakes.{head-takes, block-takes, block-some}

-- entries of the blocks bs are the answer
abbrev Entries : Answer (List Entry) → List Block → Type 0
Entries a bs = (es : List Entry) × (a ≡ taken es) × (map (λ e. e.block) es ≡ bs)

pub rows-length : (rs : List KeptRow) (x : List ℕ) → chars rs ≡ x → length rs ≡ length x
rows-length rs x e = sym (length-map rs (λ r. r.char)) ∙ ap length e

module _ (f : Format) (facts : Facts f) (len : ℕ) where
  no_rows : (k from : ℕ) (rs : List KeptRow) → chars rs ≡ [] → Entries (blocks_at k len f from rs) []
  unfolding blocks_at
  no_rows zero from rs e = ([], refl, refl)
  no_rows (suc k) from [] e = ([], refl, refl)
  no_rows (suc k) from (r ∷ rs) e = let z = ap length e in absurd (omega arith)

  -- a block is taken, and then those behind it
  next-block : (k from : ℕ) (rs : List KeptRow) (b : Block) (bs : List Block) (place : ℕ) (s : List ℕ) → length rs ≤ k → 1 ≤ length rs
      → Takes (block_at len f rs) (record { block = b; lf = place }) s → length s + 1 ≤ length rs
      → ((j to : ℕ) (rs' : List KeptRow) → chars rs' ≡ s → length rs' ≤ j → Entries (blocks_at j len f to rs') bs) → Entries (blocks_at k len f from rs) (b ∷ bs)
  unfolding blocks_at
  next-block zero from rs b bs place s few some t less rest = absurd (omega arith)
  next-block (suc k) from [] b bs place s few some t less rest = absurd (omega arith)
  next-block (suc k) from (r ∷ rs) b bs place s few some t less rest =
      let q = rest k (place + 1) t.rest t.leaves (omega (arith, rows-length t.rest s t.leaves)) in
      (entry from (record { block = b; lf = place }) ∷ q.0, rw (t.takes, q.1), rw q.2)

  blocks-take : {bs : List Block} {x : List ℕ} → Blocks f bs x → (k from : ℕ) (rs : List KeptRow) → chars rs ≡ x → length rs ≤ k → Entries (blocks_at k len f from rs) bs
  blocks-take none k from rs e few = no_rows k from rs e
  blocks-take (more {b} {bs} {r} {s} p q) k from rs e few =
      let t = block-takes f facts p len s rs e in
      let n : length s + 1 ≤ length rs = omega (arith, block-some p, rows-length rs (r ++ s) e, length-append r s) in
      next-block k from rs b bs t.0 s few (omega arith) t.1 n (λ j to rs' h l. blocks-take q j to rs' h l)

  program-takes : {bs : List Block} {x : List ℕ} → Program f bs x → (rs : List KeptRow) → chars rs ≡ x → Entries (program_at len f rs) bs
  unfolding program_at
  program-takes (program {bs} {e} {r} end q) rs h =
      let t = head-takes end len rs r h in
      rw t.1.takes (blocks-take q (length t.1.rest) (t.0 + 1) t.1.rest t.1.leaves (omega arith))

pub complete : (f : Format) → Facts f → (bs : List Block) (len : ℕ) (rs : List KeptRow) → Program f bs (chars rs)
    → (es : List Entry) × (program_at len f rs ≡ taken es) × (map (λ e. e.block) es ≡ bs)
complete f facts bs len rs p = program-takes f facts len p rs refl

pub unique : (f : Format) → Facts f → (bs cs : List Block) (rs : List KeptRow) → Program f bs (chars rs) → Program f cs (chars rs) → bs ≡ cs
unique f facts bs cs rs p q =
    let a = complete f facts bs 0 rs p in
    let b = complete f facts cs 0 rs q in
    let e : a.0 ≡ b.0 = cc in
    sym a.2 ∙ ap (map (λ x. x.block)) e ∙ b.2
