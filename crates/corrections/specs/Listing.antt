-- The corrected listing of two tapes, by the numbers of their blocks in order, with the mark for a missing one (document 02, 8/12). A block without a number is
-- never matched: no number is found as the mark.
use Rattle.std.specs.Prelude.{ℕ, zero, suc, Bool, true, false, ◌&&◌, not, cond, List, [], ◌∷◌, ◌++◌, eqb, length, get_or}
use Rattle.rows.specs.Answer.{Answer, taken, refused}
use Rattle.index.specs.Index.{mark}
use Rattle.index.specs.Finding.{number_found}
use Rattle.corrections.specs.declared.Tape.TheVariants.{Correction, Master}
use Rattle.corrections.specs.declared.Named.{Named}

-- an entry names a tape and its block
abbrev pub on_master : ℕ → Named
on_master i = record { tape = Master; block = i }

abbrev pub on_correction : ℕ → Named
on_correction j = record { tape = Correction; block = j }

-- the number of block n, or the mark
abbrev pub number_at : List ℕ → ℕ → ℕ
number_at ns n = get_or ns n mark

-- found, and at i
abbrev pub is_at : ℕ → Answer ℕ → Bool
is_at i (taken j) = eqb j i
is_at i (refused n p) = false

abbrev pub is_found : Answer ℕ → Bool
is_found (taken j) = true
is_found (refused n p) = false

-- the correction's block where there is one, else the master's block i
abbrev pub given : ℕ → Answer ℕ → Named
given i (taken j) = on_correction j
given i (refused n p) = on_master i

-- the entry of the master's block i: the first block of a number gives way to the correction's first of that number
abbrev pub entry_for : List ℕ → List ℕ → ℕ → Named
entry_for cs ms i = cond (is_at i (number_found ms (number_at ms i))) (given i (number_found cs (number_at ms i))) (on_master i)

-- the correction's block j has an entry of its own: it is the first of its number there, and the master has none of it
abbrev pub is_new : List ℕ → List ℕ → ℕ → Bool
is_new cs ms j = is_at j (number_found cs (number_at cs j)) && not (is_found (number_found ms (number_at cs j)))

-- the entries of k blocks of the master from block i on
unfoldable pub masters_from : List ℕ → List ℕ → ℕ → ℕ → List Named
masters_from cs ms zero i = []
masters_from cs ms (suc k) i = entry_for cs ms i ∷ masters_from cs ms k (suc i)

-- those of k blocks of the correction from block j on that have one of their own
unfoldable pub new_from : List ℕ → List ℕ → ℕ → ℕ → List Named
new_from cs ms zero j = []
new_from cs ms (suc k) j = cond (is_new cs ms j) (on_correction j ∷ new_from cs ms k (suc j)) (new_from cs ms k (suc j))

-- first in the master's order, then each number only on the correction, once, in its order
unfoldable pub listing : List ℕ → List ℕ → List Named
listing cs ms = masters_from cs ms (length ms) 0 ++ new_from cs ms (length cs) 0
