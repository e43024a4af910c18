-- What each entry point answers: 1 to 15 in document 01's order, with 22 and 23 of the profile behind 3 (document 02, 2/12).
use Rattle.std.specs.Prelude.{ℕ, ◌+◌, ◌-◌, cond, List, length, get_or, take, drop, ltb}
use Rattle.rows.specs.Answer.{Answer, taken, refused, ◌>>=◌, ◌>>◌}
use Rattle.rows.specs.Stages.{judged}
use Rattle.rows.specs.Kept.{KeptRow, kept}
use Rattle.shorthand.specs.declared.Format.{Format}
use Rattle.profile.specs.Answers.{agreed}
use Rattle.reading.specs.declared.Block.{Block}
use Rattle.reading.specs.Record.{empty_block}
use Rattle.reading.specs.declared.Entry.{Entry}
use Rattle.reading.specs.Parse.{blocks_at}
use Rattle.parts.specs.Ends.{head_at}

-- the fourth stage: the head, and then blocks to the end of the tape
unfoldable pub program_at : ℕ → Format → List KeptRow → Answer (List Entry)
program_at len f rs = head_at len rs >>= λ h. blocks_at (length h.rest) len f (h.value + 1) h.rest

-- all four stages under a Format
unfoldable pub read : Format → List ℕ → Answer (List Entry)
read f t = judged t >> program_at (length t) f (kept t)

-- 1, 2 and 3, 22 and 23, and then the four stages: an edition, a shorthand, a profile and a tape
unfoldable pub read_under : ℕ → List ℕ → List ℕ → List ℕ → Answer (List Entry)
read_under e s p t = agreed e s p >>= λ f. read f t

-- what stands past the last block: nothing
abbrev pub nowhere : Entry
nowhere = record { block = empty_block; from = 0; to = 0 }

-- entry n, from 0, or 15 at the number of blocks
abbrev pub nth : ℕ → List Entry → Answer Entry
nth n es = cond (ltb n (length es)) (taken (get_or es n nowhere)) (refused 15 (length es))

abbrev pub entry_numbered : ℕ → List ℕ → List ℕ → List ℕ → ℕ → Answer Entry
entry_numbered e s p t n = read_under e s p t >>= nth n

-- the number of some blocks
abbrev pub size_of : Answer (List Entry) → Answer ℕ
size_of a = a >>= λ es. taken (length es)

-- the number of blocks
abbrev pub counted : ℕ → List ℕ → List ℕ → List ℕ → Answer ℕ
counted e s p t = size_of (read_under e s p t)

-- block n
abbrev pub block_numbered : ℕ → List ℕ → List ℕ → List ℕ → ℕ → Answer Block
block_numbered e s p t n = entry_numbered e s p t n >>= λ x. taken x.block

-- the rows of an entry, as a part of its tape
abbrev pub entry_rows : List ℕ → Entry → List ℕ
entry_rows t x = take (x.to - x.from) (drop x.from t)

-- the rows of block n
abbrev pub rows_numbered : ℕ → List ℕ → List ℕ → List ℕ → ℕ → Answer (List ℕ)
rows_numbered e s p t n = entry_numbered e s p t n >>= λ x. taken (entry_rows t x)
