-- The index of a tape's blocks: the first row and the number of each, in two lent arrays (document 02, 7/12).
use Rattle.std.specs.Prelude.{ℕ, ◌≡◌, Bool, ◌&&◌, cond, List, [], map, leb, length, take}
use Rattle.rows.specs.Answer.{Answer, taken, refused, value_or, ◌>>=◌, ◌>>◌}
use Rattle.shorthand.specs.declared.Format.{Format}
use Rattle.profile.specs.Answers.{agreed}
use Rattle.reading.specs.declared.Block.{Block}
use Rattle.reading.specs.declared.Entry.{Entry}
use Rattle.reading.specs.Answers.{read}

-- the mark for a missing number; every number has nine digits at most
abbrev pub mark : ℕ
mark = 18_446_744_073_709_551_615

-- what the index holds of a number
abbrev pub marked : Bool → ℕ → ℕ
marked numbered n = cond numbered n mark

abbrev pub number_in : Block → ℕ
number_in b = marked b.numbered b.sequence

-- the first row of every block: the one just after the end before it
abbrev pub firsts_of : List Entry → List ℕ
firsts_of es = map (λ x. x.from) es

-- the number of every block, or the mark
abbrev pub numbers_of : List Entry → List ℕ
numbers_of es = map (λ x. number_in x.block) es

-- the arrays begin with the first rows and the numbers of these blocks
pub record Indexes (es : List Entry) (firsts numbers : List ℕ) : Type 0 where
  pub rows : take (length es) firsts ≡ firsts_of es
  pub marks : take (length es) numbers ≡ numbers_of es

-- arrays of so many places have room for n entries, or 24 at the entries needed
abbrev pub index_room : ℕ → ℕ → ℕ → Answer (Unit {0})
index_room n firsts numbers = cond (leb n firsts && leb n numbers) (taken tt) (refused 24 n)

-- the blocks of a tape, where there is room for them: under a Format, and under an edition, a shorthand and a profile
unfoldable pub indexed_for : Format → List ℕ → ℕ → ℕ → Answer (List Entry)
indexed_for f t firsts numbers = read f t >>= λ es. index_room (length es) firsts numbers >> taken es

unfoldable pub indexed : ℕ → List ℕ → List ℕ → List ℕ → ℕ → ℕ → Answer (List Entry)
indexed e s p t firsts numbers = agreed e s p >>= λ f. indexed_for f t firsts numbers

-- the blocks of an accepted tape, and of any other none
abbrev pub entries_of : Format → List ℕ → List Entry
entries_of f t = value_or [] (read f t)

-- what is laid into an array: these entries of every block
abbrev pub laid : (List Entry → List ℕ) → Answer (List Entry) → Answer (List ℕ)
laid what a = a >>= λ es. taken (what es)
