-- What is saved of a tape, and what is lost (document 02, 9/12).
use Rattle.std.specs.Prelude.{ℕ, ◌+◌, cond, ◌&&◌, List, [], ◌∷◌, ◌++◌, eqb, leb, length, replicate}
use Rattle.rows.specs.Answer.{Answer, taken, refused, number_of, ◌>>=◌, ◌>>◌}
use Rattle.rows.specs.Stages.{in_limit}
use Rattle.shorthand.specs.declared.Format.{Format}
use Rattle.profile.specs.Answers.{agreed}
use Rattle.reading.specs.Answers.{read}
use Rattle.salvage.specs.Pieces.{head_of, pieces_of}

-- would head and piece alone be accepted? 0, or the number of the refusal
abbrev pub piece_number : Format → List ℕ → List ℕ → ℕ
piece_number f h r = number_of (read f (h ++ r))

-- every row overpunched to DEL
abbrev pub overpunched : List ℕ → List ℕ
overpunched r = replicate (length r) 255

-- an accepted piece stays, any other is overpunched
abbrev pub saved_piece : ℕ → List ℕ → List ℕ
saved_piece n r = cond (eqb n 0) r (overpunched r)

abbrev pub saved_rows : Format → List ℕ → List (List ℕ) → List ℕ
saved_rows f h [] = []
saved_rows f h (r ∷ rs) = saved_piece (piece_number f h r) r ++ saved_rows f h rs

-- an overpunched piece: its first row, its length, and the number of its refusal
pub record Loss : Type 0 where
  pub first : ℕ
  pub size : ℕ
  pub number : ℕ

abbrev pub with_loss : ℕ → ℕ → ℕ → List Loss → List Loss
with_loss n at size ls = cond (eqb n 0) ls (record { first = at; size = size; number = n } ∷ ls)

-- the losses among some pieces, the first of which begins at a row
abbrev pub losses : Format → List ℕ → ℕ → List (List ℕ) → List Loss
losses f h at [] = []
losses f h at (r ∷ rs) = with_loss (piece_number f h r) at (length r) (losses f h (at + length r) rs)

-- the rows of the tape afterwards, and the list
pub record Saved : Type 0 where
  pub rows : List ℕ
  pub lost : List Loss

abbrev pub saved_of : Format → List ℕ → Saved
saved_of f t = record { rows = head_of t ++ saved_rows f (head_of t) (pieces_of t); lost = losses f (head_of t) (length (head_of t)) (pieces_of t) }

-- lists of so many places have room for n entries, or 24 at the entries needed
abbrev pub list_room : ℕ → ℕ → ℕ → ℕ → Answer (Unit {0})
list_room n firsts sizes numbers = cond (leb n firsts && (leb n sizes && leb n numbers)) (taken tt) (refused 24 n)

-- 4; what a damaged head is refused by; 24: under a Format
unfoldable pub salvaged_for : Format → List ℕ → ℕ → ℕ → ℕ → Answer Saved
salvaged_for f t firsts sizes numbers =
    in_limit t >> (read f (head_of t) >> (list_room (length (saved_of f t).lost) firsts sizes numbers >> taken (saved_of f t)))

-- the same with lists that are lent
abbrev pub salvaged_in : Format → List ℕ → List ℕ → List ℕ → List ℕ → Answer Saved
salvaged_in f t firsts sizes numbers = salvaged_for f t (length firsts) (length sizes) (length numbers)

-- 1, 2 and 3, 22 and 23, and then the same: under an edition, a shorthand and a profile
unfoldable pub salvaged : ℕ → List ℕ → List ℕ → List ℕ → ℕ → ℕ → ℕ → Answer Saved
salvaged e s p t firsts sizes numbers = agreed e s p >>= λ f. salvaged_for f t firsts sizes numbers

abbrev pub salvaged_lent : ℕ → List ℕ → List ℕ → List ℕ → List ℕ → List ℕ → List ℕ → Answer Saved
salvaged_lent e s p t firsts sizes numbers = salvaged e s p t (length firsts) (length sizes) (length numbers)
