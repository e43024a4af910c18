-- The mark stands for a missing number and for nothing else: every number of an accepted block has nine digits at most.
use Prim.Native.Nat.{ℕ, ◌^◌, ◌<◌}
use mathlib.Core.Path.{◌≡◌, refl}
use mathlib.Core.Bool.{Bool, true, false, false≢true}
use mathlib.Core.List.{List}
use native.Mathlib.Nat.{lt_of_lt_of_le, zero-lt-suc, pow-le-pow_right}
use native.Mathlib.Omega.{arith}
use lib.ListN.{length}
use Rattle.rows.specs.Answer.{taken}
use Rattle.rows.specs.Kept.{KeptRow}
use Rattle.rows.specs.Passes.{Every}
use Rattle.shorthand.specs.declared.Format.{Format}
use Rattle.shorthand.specs.Facts.{Facts}
use Rattle.reading.specs.declared.Block.{Block}
use Rattle.reading.specs.Relation.{counted, bare, Blocked, block}
use Rattle.reading.specs.declared.Entry.{Entry}
use Rattle.reading.specs.Answers.{read}
use Rattle.reading.proofs.Accepted.{read_taken}
use Rattle.reading.proofs.ReadBlocks.{Entries, none, more}
use Rattle.reading.proofs.Sound.{taken-rows}
use Rattle.index.specs.Index.{mark, number_in}

-- a block whose number, where it has one, has nine digits at most
abbrev pub Counted : Block → Type 0
Counted b = b.numbered ≡ true → b.sequence < 10 ^ 9

block-counted : {f : Format} → Facts f → {b : Block} {r : List ℕ} → Blocked f b r → Counted b
block-counted facts (block (counted skip alignment l) e w d) h = lt_of_lt_of_le l (pow-le-pow_right (zero-lt-suc 9) facts.sequence.1)
block-counted facts (block (bare skip u) e w d) h = absurd (false≢true h)

entries-counted : {f : Format} → Facts f → {from : ℕ} {es : List Entry} {rs : List KeptRow} → Entries f from es rs → Every (λ x. Counted x.block) es
entries-counted facts none = tt
entries-counted facts (more h l m) = (block-counted facts h, entries-counted facts m)

-- every block of an accepted tape is one
pub all-counted : (f : Format) → Facts f → (t : List ℕ) {es : List Entry} → read f t ≡ taken es → Every (λ x. Counted x.block) es
all-counted f facts t {es} e = entries-counted facts (taken-rows f (length t) _ es (read_taken f t e).1).blocks

-- the index holds the mark for it exactly where it has no number
pub never-the-mark : (b : Block) → Counted b → number_in b ≡ mark → b.numbered ≡ false
never-the-mark b h e = by b.numbered refl
  where
    by : (x : Bool) → b.numbered ≡ x → b.numbered ≡ false
    by false q = q
    by true q = absurd (below (h q) (rw q at e))
      where
        below : b.sequence < 10 ^ 9 → b.sequence ≡ mark → ⊥
        below l z = omega (arith, l, z)

pub the_mark : (b : Block) → b.numbered ≡ false → number_in b ≡ mark
the_mark b e = rw e
