-- What the private functions' answers say: where a block stands, and its record.
use Rattle.std.specs.Prelude.{ℕ, suc, ◌≤◌, ◌<◌, cond, Option, List, [], ◌∷◌, ltb, length, get_or}
use Rattle.rows.specs.Answer.{Answer, taken, refused, ◌>>=◌}
use Rattle.rows.specs.Kept.{KeptRow}
use Rattle.rows.specs.declared.Kept.{Kept}
use Rattle.shorthand.specs.declared.Format.{Format}
use Rattle.words.specs.Front.{rows_at}
use Rattle.reading.specs.declared.Block.{Block}
use Rattle.reading.specs.declared.Part.{Part}
use Rattle.reading.specs.declared.Entry.{Entry}
use Rattle.reading.specs.Parse.{blocks_at}
use Rattle.reading.specs.Answers.{nowhere, nth}

-- where the rows of an entry stand
abbrev pub part_of : Entry → Part
part_of x = record { from = x.from; to = x.to }

-- where the rows of block n of some blocks stand, which are none where it is not there
abbrev pub part_in : ℕ → Answer (List Entry) → Answer Part
part_in n a = a >>= λ es. taken (part_of (get_or es n nowhere))

-- where the rows of block n stand, and its record, or 15 at the number of blocks
abbrev pub nth_part : ℕ → Answer (List Entry) → Answer Part
nth_part n a = (a >>= nth n) >>= λ x. taken (part_of x)

abbrev pub nth_block : ℕ → Answer (List Entry) → Answer Block
nth_block n a = (a >>= nth n) >>= λ x. taken x.block

-- places rise from i on and stay below n
pub data Rising (n : ℕ) : ℕ → List KeptRow → Type 0 where
  over : {i : ℕ} → Rising n i []
  rise : {i : ℕ} {r : KeptRow} {rs : List KeptRow} → i ≤ r.place → r.place < n → Rising n (suc r.place) rs → Rising n i (r ∷ rs)

-- 15 where block n is not among the count
abbrev pub has_block : ℕ → Answer ℕ → Answer (Unit {0})
has_block n a = a >>= λ c. cond (ltb n c) (taken tt) (refused 15 c)

-- all blocks from a fetched row on, the first from the place from on
abbrev pub blocks_behind : Format → List ℕ → ℕ → Option Kept → Answer (List Entry)
blocks_behind f t from front = blocks_at (length (rows_at t front)) (length t) f from (rows_at t front)
