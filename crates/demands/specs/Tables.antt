-- The table of refusals as relations: each number with its place and what calls for it (documents 01, "Refusal numbers", and 02, 5/12 to
-- 11/12).
use Rattle.std.specs.Prelude.{ℕ, suc, ◌+◌, ◌^◌, ◌≤◌, ◌<◌, ◌≡◌, Bool, true, false, List, [], length, get_or, drop}
use Rattle.rows.specs.Answer.{taken}
use Rattle.rows.specs.Stages.{limit}
use Rattle.rows.specs.Passes.{Every}
use Rattle.rows.specs.Faults.{RowRefusal}
use Rattle.shorthand.specs.declared.Format.{Format}
use Rattle.profile.specs.Relation.{Settled, Unsettled}
use Rattle.reading.specs.declared.Block.{Block}
use Rattle.reading.specs.Record.{words_of}
use Rattle.reading.specs.declared.Entry.{Entry}
use Rattle.reading.specs.Answers.{read_under, counted}
use Rattle.punching.specs.Rows.{rows_of}
use Rattle.index.specs.Index.{mark, numbers_of}
use Rattle.index.specs.Finding.{up_to, entry_found}
use Rattle.corrections.specs.Listing.{listing}
use Rattle.slides.specs.declared.Travel.{Travel}
use Rattle.slides.specs.declared.Slides.{Slides}
use Rattle.slides.specs.Axes.{axes, sound, FirstBad}
use Rattle.slides.specs.Moves.{rule_of, start}
use Rattle.slides.specs.History.{Leaves, FirstLeaving}
use Rattle.slides.specs.Answers.{blocks_to}
use Rattle.salvage.specs.Pieces.{head_of}
use Rattle.salvage.specs.Saving.{saved_of}
use Rattle.places.specs.Faults.{RefusalOf}

-- 4 to 14 of a tape under a shorthand and a profile that are in order: 4 to 7 by its rows, 8 to 14 by what its kept rows could still have become
pub data TapeRefusal (e : ℕ) (s p t : List ℕ) : ℕ → ℕ → Type 0 where
  rows : {f : Format} {n k : ℕ} → Settled e s p f → RowRefusal t n k → TapeRefusal e s p t n k
  program : {n k : ℕ} → RefusalOf e s p t n k → TapeRefusal e s p t n k

-- 1 to 3 of the edition and the shorthand, 22 and 23 of the profile, 4 to 14 of a tape under them
pub data Reading (e : ℕ) (s p t : List ℕ) : ℕ → ℕ → Type 0 where
  settling : {n k : ℕ} → Unsettled e s p n k → Reading e s p t n k
  tape : {n k : ℕ} → TapeRefusal e s p t n k → Reading e s p t n k

-- the same, and 15 at the number of blocks for block n and those after it
pub data Fetching (e : ℕ) (s p t : List ℕ) (n : ℕ) : ℕ → ℕ → Type 0 where
  unread : {m k : ℕ} → Reading e s p t m k → Fetching e s p t n m k
  past : {c : ℕ} → counted e s p t ≡ taken c → c ≤ n → Fetching e s p t n 15 c

-- a number may not be missing: the Format asks for one, or the block is for alignment, or it has no word
pub data Needed (f : Format) (b : Block) : Type 0 where
  by_format : f.unnumbered ≡ false → Needed f b
  by_alignment : b.alignment ≡ true → Needed f b
  no_word : words_of b ≡ [] → Needed f b

-- 1 to 3, 22 and 23, and 16 to 18 of a record that is measured
pub data Measuring (e : ℕ) (s p : List ℕ) (b : Block) : ℕ → ℕ → Type 0 where
  settling : {n k : ℕ} → Unsettled e s p n k → Measuring e s p b n k
  crowded : 22 < b.count → Measuring e s p b 16 23
  too_large : {f : Format} → Settled e s p f → b.numbered ≡ true → 10 ^ f.sequence ≤ b.sequence → Measuring e s p b 17 0
  missing : {f : Format} → Settled e s p f → b.numbered ≡ false → Needed f b → Measuring e s p b 16 0
  word : {n k : ℕ} → 16 ≤ n → n ≤ 18 → 1 ≤ k → k ≤ b.count → Measuring e s p b n k

-- the same, and 19 at the rows needed, of one that is written or punched into a buffer
pub data Punching (e : ℕ) (s p : List ℕ) (b : Block) (buffer : List ℕ) : ℕ → ℕ → Type 0 where
  unmeasured : {n k : ℕ} → Measuring e s p b n k → Punching e s p b buffer n k
  full : {f : Format} → Settled e s p f → length buffer < length (rows_of f b) → Punching e s p b buffer 19 (length (rows_of f b))

-- the head: 19 at its two rows
pub data Heading (buffer : List ℕ) : ℕ → ℕ → Type 0 where
  full : length buffer < 2 → Heading buffer 19 2

-- an index built for a tape: 24 at its blocks where the arrays have no room for them
pub data Indexing (e : ℕ) (s p t : List ℕ) (firsts numbers : ℕ) : ℕ → ℕ → Type 0 where
  unread : {n k : ℕ} → Reading e s p t n k → Indexing e s p t firsts numbers n k
  no_room : {c : ℕ} → counted e s p t ≡ taken c → (c ≤ firsts → c ≤ numbers → ⊥) → Indexing e s p t firsts numbers 24 c

-- a block appended to an image, of a tape that is accepted: the record's, then 24 at one entry more than there are blocks, then 4, then 19 at the rows that the image needs
pub data Appending (e : ℕ) (s p t : List ℕ) (capacity firsts numbers : ℕ) (b : Block) : ℕ → ℕ → Type 0 where
  unread : {n k : ℕ} → Reading e s p t n k → Appending e s p t capacity firsts numbers b n k
  unmeasured : {c n k : ℕ} → counted e s p t ≡ taken c → Measuring e s p b n k → Appending e s p t capacity firsts numbers b n k
  no_room : {c : ℕ} → counted e s p t ≡ taken c → (suc c ≤ firsts → suc c ≤ numbers → ⊥) → Appending e s p t capacity firsts numbers b 24 (suc c)
  too_long : {f : Format} → Settled e s p f → limit < length t + length (rows_of f b) → Appending e s p t capacity firsts numbers b 4 limit
  full : {f : Format} → Settled e s p f → length t + length (rows_of f b) ≤ limit → capacity < length t + length (rows_of f b)
      → Appending e s p t capacity firsts numbers b 19 (length t + length (rows_of f b))

-- the last block taken off: 15 at 0 where there is none
pub data TakingOff (e : ℕ) (s p t : List ℕ) : ℕ → ℕ → Type 0 where
  unread : {n k : ℕ} → Reading e s p t n k → TakingOff e s p t n k
  empty : counted e s p t ≡ taken 0 → TakingOff e s p t 15 0

-- a tape saved: 4 of the whole; what its head is refused by as a tape of its own; 24 at the losses where one of the lists has no room for them
pub data Salvaging (e : ℕ) (s p t : List ℕ) (firsts sizes numbers : ℕ) : ℕ → ℕ → Type 0 where
  settling : {n k : ℕ} → Unsettled e s p n k → Salvaging e s p t firsts sizes numbers n k
  too_long : {f : Format} → Settled e s p f → limit < length t → Salvaging e s p t firsts sizes numbers 4 limit
  head : {n k : ℕ} → length t ≤ limit → TapeRefusal e s p (head_of t) n k → Salvaging e s p t firsts sizes numbers n k
  no_room : {f : Format} {c : ℕ} → Settled e s p f → length t ≤ limit → counted e s p (head_of t) ≡ taken c → (length (saved_of f t).lost ≤ firsts → length (saved_of f t).lost ≤ sizes → length (saved_of f t).lost ≤ numbers → ⊥)
      → Salvaging e s p t firsts sizes numbers 24 (length (saved_of f t).lost)

-- block n through an index, of this tape or not: 4; 15 at the entries; 5 to 7 of its own rows, counted on the tape; and what the fourth stage says of a single block
pub data LookingUp (e : ℕ) (s p t firsts : List ℕ) (n : ℕ) : ℕ → ℕ → Type 0 where
  settling : {m k : ℕ} → Unsettled e s p m k → LookingUp e s p t firsts n m k
  long : {f : Format} → Settled e s p f → limit < length t → LookingUp e s p t firsts n 4 limit
  past : {f : Format} → Settled e s p f → length firsts ≤ n → LookingUp e s p t firsts n 15 (length firsts)
  own_rows : {f : Format} {m k : ℕ} → Settled e s p f → n < length firsts → RowRefusal (drop (get_or firsts n 0) (up_to t firsts n)) m k → LookingUp e s p t firsts n m (get_or firsts n 0 + k)
  own_block : {f : Format} {m k : ℕ} → Settled e s p f → n < length firsts → 8 ≤ m → m ≤ 14 → k ≤ length (up_to t firsts n) → LookingUp e s p t firsts n m k

-- the axes followed to block n: 26 at the letter of the first that can't be, of a tape that has the block; then 27 at the first block that leaves its travel
pub data Following (e : ℕ) (s p t : List ℕ) (n : ℕ) (tr : Travel) (slashed : Bool) : ℕ → ℕ → Type 0 where
  unfetched : {m k : ℕ} → Fetching e s p t n m k → Following e s p t n tr slashed m k
  travel : {c a : ℕ} → counted e s p t ≡ taken c → n < c → FirstBad tr start.places a → Following e s p t n tr slashed 26 (get_or axes a 0)
  leaving : {f : Format} {es : List Entry} {k : ℕ} → Settled e s p f → read_under e s p t ≡ taken es → n < length es → sound tr start.places ≡ taken tt
      → FirstLeaving (rule_of f p tr slashed) (blocks_to n es) start k → Following e s p t n tr slashed 27 k

-- the axes stepped over block n, found through an index: 26 of what is handed in as well, and then 27 at the block
pub data Stepping (e : ℕ) (s p t firsts : List ℕ) (n : ℕ) (sl : Slides) (tr : Travel) (slashed : Bool) : ℕ → ℕ → Type 0 where
  unfound : {m k : ℕ} → LookingUp e s p t firsts n m k → Stepping e s p t firsts n sl tr slashed m k
  travel : {x : Entry} {a : ℕ} → entry_found e s p t firsts n ≡ taken x → FirstBad tr sl.places a → Stepping e s p t firsts n sl tr slashed 26 (get_or axes a 0)
  leaving : {f : Format} {x : Entry} → Settled e s p f → entry_found e s p t firsts n ≡ taken x → sound tr sl.places ≡ taken tt
      → Leaves (rule_of f p tr slashed) x.block sl → Stepping e s p t firsts n sl tr slashed 27 n

-- a correction tape and a master tape: the correction's own refusals, and then, where it is accepted, the master's
pub data Correcting (e : ℕ) (s p c m : List ℕ) : ℕ → ℕ → Type 0 where
  correction : {n k : ℕ} → Reading e s p c n k → Correcting e s p c m n k
  master : {x n k : ℕ} → counted e s p c ≡ taken x → Reading e s p m n k → Correcting e s p c m n k

-- entry n of their corrected listing: the same, and 15 at the number of its entries
pub data Entering (e : ℕ) (s p c m : List ℕ) (n : ℕ) : ℕ → ℕ → Type 0 where
  unread : {i k : ℕ} → Correcting e s p c m i k → Entering e s p c m n i k
  past : {cs ms : List Entry} → read_under e s p c ≡ taken cs → read_under e s p m ≡ taken ms → length (listing (numbers_of cs) (numbers_of ms)) ≤ n
      → Entering e s p c m n 15 (length (listing (numbers_of cs) (numbers_of ms)))

-- a number among those of an index: 25 at 0 where it is the mark for a missing one, or no entry holds it
pub data Seeking (ns : List ℕ) (q : ℕ) : ℕ → ℕ → Type 0 where
  the_mark : q ≡ mark → Seeking ns q 25 0
  nowhere : Every (λ n. n ≡ q → ⊥) ns → Seeking ns q 25 0

-- the rows of a number on either: the same, and 25 at 0 where neither of two accepted tapes has it
pub data Asking (e : ℕ) (s p c m : List ℕ) (q : ℕ) : ℕ → ℕ → Type 0 where
  unread : {i k : ℕ} → Correcting e s p c m i k → Asking e s p c m q i k
  neither : {cs ms : List Entry} {n k : ℕ} → read_under e s p c ≡ taken cs → read_under e s p m ≡ taken ms → Seeking (numbers_of cs) q n k → Seeking (numbers_of ms) q 25 0
      → Asking e s p c m q 25 0

-- a code c of k digits given as a number: 13 in three to five digits alone; 21 for another length, or more digits than that
pub data Speaking (k c : ℕ) : ℕ → ℕ → Type 0 where
  second_zero : 3 ≤ k → k ≤ 5 → c < 10 ^ k → Speaking k c 13 0
  digits : (2 ≤ k → k ≤ 5 → c < 10 ^ k → ⊥) → Speaking k c 21 0

-- a speed to be coded in k digits
pub data Coding (k : ℕ) : ℕ → ℕ → Type 0 where
  beyond : 2 ≤ k → k ≤ 5 → Coding k 20 0
  digits : (2 ≤ k → k ≤ 5 → ⊥) → Coding k 21 0
