-- "An index that these operations made for this image" (document 02, 7/12): an image, the two arrays, and how many entries they have.
use Rattle.std.specs.Prelude.{ℕ, suc, ◌-◌, ◌≡◌, List, length, take}
use Rattle.rows.specs.Answer.{taken}
use Rattle.reading.specs.declared.Block.{Block}
use Rattle.reading.specs.declared.Entry.{Entry}
use Rattle.reading.specs.Survey.{Surveyed}
use Rattle.punching.specs.Answers.{after}
use Rattle.index.specs.Index.{firsts_of, numbers_of, indexed, laid}
use Rattle.images.specs.Images.{Append, appended, buffer_grown, firsts_grown, numbers_grown, last_taken, buffer_shrunk}

-- built for a tape; kept with an image, the first rows of a buffer, when a block is appended, and when the last is taken off
pub data Made (e : ℕ) (s p : List ℕ) : List ℕ → List ℕ → List ℕ → ℕ → Type 0 where
  built : {t : List ℕ} (firsts numbers : List ℕ) {es : List Entry} → indexed e s p t (length firsts) (length numbers) ≡ taken es
      → Made e s p t (after firsts (laid firsts_of (taken es))) (after numbers (laid numbers_of (taken es))) (length es)
  grown : (buffer : List ℕ) (rows : ℕ) (b : Block) {firsts numbers : List ℕ} {count : ℕ} {a : Append} → Made e s p (take rows buffer) firsts numbers count
      → appended e s p (take rows buffer) (length buffer) (length firsts) (length numbers) b ≡ taken a
      → Made e s p (take a.plan.rows (buffer_grown buffer (taken a))) (firsts_grown firsts (taken a)) (numbers_grown numbers b (taken a)) (suc a.plan.blocks)
  shrunk : (buffer : List ℕ) (rows : ℕ) {firsts numbers : List ℕ} {count : ℕ} {x : Surveyed} → Made e s p (take rows buffer) firsts numbers count
      → last_taken e s p (take rows buffer) ≡ taken x → Made e s p (take (length (take rows buffer)) (buffer_shrunk buffer (taken x))) firsts numbers (length x.entries - 1)
