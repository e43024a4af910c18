-- What is found through an index: block n and its rows, and the first block of a number. Nothing before the block's first row is looked at (document 02, 7/12).
use Rattle.std.specs.Prelude.{ℕ, suc, ◌+◌, Bool, ◌&&◌, cond, List, [], ◌∷◌, eqb, ltb, length, get_or, take, drop}
use Rattle.rows.specs.Answer.{Answer, taken, refused, ◌>>=◌, ◌>>◌}
use Rattle.rows.specs.Stages.{in_limit, judged}
use Rattle.shorthand.specs.declared.Format.{Format}
use Rattle.profile.specs.Answers.{agreed}
use Rattle.reading.specs.declared.Block.{Block}
use Rattle.reading.specs.declared.Entry.{Entry}
use Rattle.reading.specs.Answers.{entry_rows}
use Rattle.reading.specs.Survey.{entry_from}
use Rattle.index.specs.Index.{mark}

-- the place of a refusal, counted from row i
abbrev pub shifted : ℕ → Answer (Unit {0}) → Answer (Unit {0})
shifted i (taken u) = taken u
shifted i (refused n p) = refused n (i + p)

-- the tape up to the next block's first row; of the last block, all of it
abbrev pub up_to : List ℕ → List ℕ → ℕ → List ℕ
up_to t firsts n = cond (ltb (n + 1) (length firsts)) (take (get_or firsts (n + 1) 0) t) t

-- the block that begins at row i: stages 1 to 3 of its own rows, which are the last of t, and then the block
abbrev pub own_entry : Format → List ℕ → ℕ → Answer Entry
own_entry f t i = shifted i (judged (drop i t)) >> entry_from f t i

-- entry n by its first row: 4, then 15 at the number of entries, then what its own rows say
unfoldable pub entry_by : Format → List ℕ → List ℕ → ℕ → Answer Entry
entry_by f t firsts n = in_limit t >> cond (ltb n (length firsts)) (own_entry f (up_to t firsts n) (get_or firsts n 0)) (refused 15 (length firsts))

unfoldable pub entry_found : ℕ → List ℕ → List ℕ → List ℕ → List ℕ → ℕ → Answer Entry
entry_found e s p t firsts n = agreed e s p >>= λ f. entry_by f t firsts n

-- block n, and its rows as a part of the tape
abbrev pub block_found : ℕ → List ℕ → List ℕ → List ℕ → List ℕ → ℕ → Answer Block
block_found e s p t firsts n = entry_found e s p t firsts n >>= λ x. taken x.block

abbrev pub rows_found : ℕ → List ℕ → List ℕ → List ℕ → List ℕ → ℕ → Answer (List ℕ)
rows_found e s p t firsts n = entry_found e s p t firsts n >>= λ x. taken (entry_rows t x)

-- the first of some entries, counted from i, that holds q; or 25 at 0
unfoldable pub first_at : ℕ → ℕ → List ℕ → Answer ℕ
first_at q i [] = refused 25 0
first_at q i (n ∷ ns) = cond (eqb n q) (taken i) (first_at q (suc i) ns)

-- the first block with the number q; no block has the mark for a number
abbrev pub number_found : List ℕ → ℕ → Answer ℕ
number_found numbers q = cond (eqb q mark) (refused 25 0) (first_at q 0 numbers)

-- a block has the number q; one without a number has none
abbrev pub has_number : ℕ → Block → Bool
has_number q b = b.numbered && eqb b.sequence q

-- what a walk over the blocks finds: the first of them, counted from i, that has the number q; or 25 at 0
unfoldable pub first_numbered : ℕ → ℕ → List Entry → Answer ℕ
first_numbered q i [] = refused 25 0
first_numbered q i (x ∷ es) = cond (has_number q x.block) (taken i) (first_numbered q (suc i) es)
