-- What a survey of a tape holds, an entry read from its own first row, and rows that are read with no head.
use Rattle.std.specs.Prelude.{ℕ, ◌+◌, List, [], ◌∷◌, length}
use Rattle.rows.specs.Answer.{Answer, taken, ◌>>=◌, ◌>>◌}
use Rattle.rows.specs.Kept.{kept_at, kept}
use Rattle.rows.specs.Stages.{judged}
use Rattle.shorthand.specs.declared.Format.{Format}
use Rattle.parts.specs.Ends.{entered}
use Rattle.reading.specs.declared.Part.{Part}
use Rattle.reading.specs.declared.Entry.{Entry}
use Rattle.reading.specs.Parse.{entry, block_at, blocks_at}
use Rattle.reading.specs.Answers.{read}
use Rattle.reading.specs.Front.{part_of}

-- no rows, before row i
abbrev pub no_rows : ℕ → Part
no_rows i = record { from = i; to = i }

-- where the last of some blocks stands, or what is given where there is none
abbrev pub last_part : Part → List Entry → Part
last_part p [] = p
last_part p (x ∷ es) = last_part (part_of x) es

-- the blocks of a tape, and where the last of them stands
pub record Surveyed : Type 0 where
  pub entries : List Entry
  pub last : Part

-- some blocks that stand from row i on; where there is none, no rows before row i
abbrev pub surveyed_from : ℕ → Answer (List Entry) → Answer Surveyed
surveyed_from i a = a >>= λ es. taken (record { entries = es; last = last_part (no_rows i) es })

-- all four stages under a Format; where there is no block, no rows just after the head's end
unfoldable pub surveyed : Format → List ℕ → Answer Surveyed
surveyed f t = entered t >>= λ h. surveyed_from (h.value + 1) (read f t)

abbrev pub last_in : Answer Surveyed → Answer Part
last_in a = a >>= λ x. taken x.last

-- the block that begins at row i, whatever stands before it, and its rows; 14 where nothing is left
unfoldable pub entry_from : Format → List ℕ → ℕ → Answer Entry
entry_from f t i = block_at (length t) f (kept_at t i) >>= λ b. taken (entry i b.value)

-- rows with no head, from place 0 on: the first three stages, and then blocks to their end
unfoldable pub alone : Format → List ℕ → Answer (List Entry)
alone f t = judged t >> blocks_at (length (kept t)) (length t) f 0 (kept t)
