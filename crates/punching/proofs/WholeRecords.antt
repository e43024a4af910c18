-- A whole record by the tests that judge it, and what the entry points answer by what the shorthand and the profile did.
use Prim.Native.Nat.{ℕ, zero, suc, ◌+◌, ◌^◌, ◌≤◌, ◌<◌}
use mathlib.Core.Path.{◌≡◌, refl, sym}
use mathlib.Core.Bool.{true, false, not}
use mathlib.Core.List.{List, [], ◌∷◌, ◌++◌}
use native.Mathlib.Nat.{le_of_suc-le-suc, not-suc-le-zero}
use native.Mathlib.Omega.{arith}
use borrow.Author.Tests.{ltb-true, lt-ltb, le-leb, lt-leb}
use lib.Dec.{ltb}
use lib.Count.{ones}
use lib.ListN.{length, take, drop, set}
use Rattle.rows.specs.Answer.{Answer, taken, refused, ◌>>=◌, ◌>>◌}
use Rattle.shorthand.specs.declared.Format.{Format}
use Rattle.shorthand.specs.Layout.{items_of, way_of}
use Rattle.profile.specs.Answers.{agreed}
use Rattle.words.specs.declared.Word.{Word}
use Rattle.reading.specs.declared.Block.{Block}
use Rattle.reading.specs.Record.{start_of, is_empty, words_of}
use Rattle.reading.specs.Relation.{start_rows}
use Rattle.punching.specs.Rows.{word_rows, head_rows}
use Rattle.punching.specs.Fits.{Fit, sequence_fits, words_fit, record_fits}
use Rattle.punching.specs.Answers.{measured_for, written, after}
use Rattle.punching.specs.Line.{words_measured}
use Rattle.punching.proofs.Measures.{tested, rows-length}

pub head-set : (b : List ℕ) → 2 ≤ length b → set (set b 0 165) 1 10 ≡ head_rows ++ drop 2 b
unfolding ones
head-set [] h = absurd (not-suc-le-zero h)
head-set (x ∷ []) h = absurd (not-suc-le-zero (le_of_suc-le-suc h))
head-set (x ∷ y ∷ b) h = refl

-- ---- a record's sequence

-- of 22 places, a block without number has a word where its count is not 0
pub count-said : (b : Block) → length b.words ≡ 22 → b.numbered ≡ false → not (is_empty (start_of b) (words_of b)) ≡ ltb 0 b.count
count-said b long none = by b.count b.words long
  where
    by : (n : ℕ) (ws : List Word) → length ws ≡ 22 → not (is_empty (start_of b) (take n ws)) ≡ ltb 0 n
    by zero ws l = rw none
    by (suc n) [] l = absurd (omega (arith, l))
    by (suc n) (w ∷ ws) l = sym (lt-ltb 0 (suc n) (omega arith))

-- a number that fits is small enough for its digits
pub number_small : (f : Format) (b : Block) → sequence_fits f b ≡ taken tt → b.numbered ≡ true → b.sequence < 10 ^ f.sequence
number_small f b e n = ltb-true _ _ (tested (ltb b.sequence (10 ^ f.sequence)) 17 0 (rw n at e))

-- ---- a record's measure, by what its parts were found to be

module _ (f : Format) (b : Block) where
  pub too_many : 22 < b.count → measured_for f b ≡ refused 16 23
  unfolding measured_for record_fits
  too_many h = rw (lt-leb b.count 22 h)

  module _ (few : b.count ≤ 22) where
    pub sequence-refused : (n q : ℕ) → sequence_fits f b ≡ refused n q → measured_for f b ≡ refused n q
    unfolding measured_for record_fits
    sequence-refused n q h = rw (le-leb b.count 22 few, h)

    -- the words' measure decides, and the start and the LF are added
    pub by-words : sequence_fits f b ≡ taken tt
        → measured_for f b ≡ words_measured 1 (way_of f) (items_of f) (words_of b) >>= λ n. taken (length (start_rows f.sequence (start_of b)) + n + 1)
    unfolding measured_for record_fits
    by-words fits = rw (le-leb b.count 22 few, fits, rows-length f b) (by (words_fit 1 (items_of f) (words_of b)))
      where
        by : (a : Fit) → (a >> taken (length (start_rows f.sequence (start_of b)) + length (word_rows (way_of f) (items_of f) (words_of b)) + 1))
            ≡ (a >> taken (length (word_rows (way_of f) (items_of f) (words_of b)))) >>= λ n. taken (length (start_rows f.sequence (start_of b)) + n + 1)
        by (taken u) = refl
        by (refused n p) = refl

-- ---- the buffer

-- a refusal leaves the buffer as it was
pub leaves : (buffer : List ℕ) (a : Answer (List ℕ)) (n q : ℕ) → a ≡ refused n q → (refused n q ≡ written a) × (buffer ≡ after buffer a)
leaves buffer a n q e = (rw e, rw e)

-- ---- under an edition, a shorthand and a profile

module _ {A : Type 0} (g : Format → Answer A) (e : ℕ) (s p : List ℕ) where
  pub under : (f : Format) → taken f ≡ agreed e s p → (agreed e s p >>= g) ≡ g f
  under f q = rw (sym q)

  pub under-refused : (n k : ℕ) → refused n k ≡ agreed e s p → (agreed e s p >>= g) ≡ refused n k
  under-refused n k q = rw (sym q)
