-- What measuring, writing and punching answer, and what they leave in the buffer: 1, 2 and 3, 22 and 23, the record, then 19 (documents 01, "Refusal numbers", and
-- 02, 2/12 and 6/12).
use Rattle.std.specs.Prelude.{ℕ, cond, List, ◌++◌, leb, length, drop}
use Rattle.rows.specs.Answer.{Answer, taken, refused, ◌>>=◌, ◌>>◌}
use Rattle.shorthand.specs.declared.Format.{Format}
use Rattle.profile.specs.Answers.{agreed}
use Rattle.reading.specs.declared.Block.{Block}
use Rattle.punching.specs.Rows.{rows_of, head_rows}
use Rattle.punching.specs.Fits.{record_fits}

-- rows that find room in a buffer, or 19 at the rows needed
abbrev pub room_for : List ℕ → List ℕ → Answer (List ℕ)
room_for buffer rows = cond (leb (length rows) (length buffer)) (taken rows) (refused 19 (length rows))

-- the head checks only 19
abbrev pub head_punched : List ℕ → Answer (List ℕ)
head_punched buffer = room_for buffer head_rows

-- how many rows a record needs, or why it has none: under a Format, and under an edition, a shorthand and a profile
unfoldable pub measured_for : Format → Block → Answer ℕ
measured_for f b = record_fits f b >> taken (length (rows_of f b))

unfoldable pub measured : ℕ → List ℕ → List ℕ → Block → Answer ℕ
measured e s p b = agreed e s p >>= λ f. measured_for f b

-- the writer judges for itself, by the same measure, and then asks for room
unfoldable pub written_for : Format → Block → List ℕ → Answer (List ℕ)
written_for f b buffer = measured_for f b >> room_for buffer (rows_of f b)

unfoldable pub block_written : ℕ → List ℕ → List ℕ → Block → List ℕ → Answer (List ℕ)
block_written e s p b buffer = agreed e s p >>= λ f. written_for f b buffer

-- a block under a Format
unfoldable pub block_for : Format → Block → List ℕ → Answer (List ℕ)
block_for f b buffer = record_fits f b >> room_for buffer (rows_of f b)

-- a block under an edition, a shorthand and a profile
unfoldable pub block_punched : ℕ → List ℕ → List ℕ → Block → List ℕ → Answer (List ℕ)
block_punched e s p b buffer = agreed e s p >>= λ f. block_for f b buffer

-- the number of rows written
abbrev pub written : Answer (List ℕ) → Answer ℕ
written a = a >>= λ rows. taken (length rows)

-- the buffer after: the rows and then the old rest, or as it was
abbrev pub after : List ℕ → Answer (List ℕ) → List ℕ
after buffer (taken rows) = rows ++ drop (length rows) buffer
after buffer (refused n p) = buffer
