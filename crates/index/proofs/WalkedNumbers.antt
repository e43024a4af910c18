-- The first block of a number through the index is what a walk over the blocks finds.
use Prim.Native.Nat.{ℕ, suc}
use mathlib.Core.Path.{◌≡◌, refl, sym, ap, ◌∙◌}
use mathlib.Core.Bool.{Bool, true, false, ◌&&◌, cond}
use mathlib.Core.List.{List, [], ◌∷◌}
use native.Mathlib.Omega.{arith}
use lib.Dec.{eqb}
use borrow.Author.Tests.{eqb-true, eqb-false, ne_eqb}
use Rattle.rows.specs.Answer.{taken, refused}
use Rattle.rows.specs.Passes.{Every}
use Rattle.shorthand.specs.declared.Format.{Format}
use Rattle.shorthand.specs.Facts.{Facts}
use Rattle.reading.specs.declared.Block.{Block}
use Rattle.reading.specs.declared.Entry.{Entry}
use Rattle.reading.specs.Answers.{read}
use Rattle.index.specs.Index.{mark, marked, number_in, numbers_of}
use Rattle.index.specs.Finding.{first_at, number_found, has_number, first_numbered}
use Rattle.index.proofs.Marks.{Counted, all-counted}

-- the entry of a block holds a number that is not the mark exactly where the block has it
entry_has : (q : ℕ) → (q ≡ mark → ⊥) → (b : Block) → eqb (number_in b) q ≡ has_number q b
entry_has q other b = by b.numbered refl
  where
    by : (x : Bool) → b.numbered ≡ x → eqb (marked x b.sequence) q ≡ (x && eqb b.sequence q)
    by true e = refl
    by false e = ne_eqb mark q (λ z. other (sym z))

-- no block has the mark for its number
none-marked : (b : Block) → Counted b → has_number mark b ≡ false
none-marked b h = by b.numbered refl
  where
    by : (x : Bool) → b.numbered ≡ x → (x && eqb b.sequence mark) ≡ false
    by true e = ne_eqb b.sequence mark (λ z. omega (arith, z, h e))
    by false e = refl

module _ (q : ℕ) where
  by_entries : (q ≡ mark → ⊥) → (i : ℕ) (es : List Entry) → first_at q i (numbers_of es) ≡ first_numbered q i es
  unfolding first_at first_numbered
  by_entries other i [] = refl
  by_entries other i (x ∷ es) = rw (entry_has q other x.block) (ap (cond (has_number q x.block) (taken i)) (by_entries other (suc i) es))

none_first : (i : ℕ) (es : List Entry) → Every (λ x. Counted x.block) es → first_numbered mark i es ≡ refused 25 0
unfolding first_numbered
none_first i [] h = refl
none_first i (x ∷ es) h = rw (none-marked x.block h.0) (none_first (suc i) es h.1)

pub number-found : (f : Format) → Facts f → (t : List ℕ) {es : List Entry} → read f t ≡ taken es → (q : ℕ) → number_found (numbers_of es) q ≡ first_numbered q 0 es
number-found f facts t {es} e q = by (eqb q mark) refl
  where
    by : (b : Bool) → eqb q mark ≡ b → cond b (refused 25 0) (first_at q 0 (numbers_of es)) ≡ first_numbered q 0 es
    by true z = sym (ap (λ m. first_numbered m 0 es) (eqb-true q mark z) ∙ none_first 0 es (all-counted f facts t e))
    by false z = by_entries q (eqb-false q mark z) 0 es
