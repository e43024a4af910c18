-- An end, and the head of a tape (documents 01, "Four stages", 4, and 02, 5/12; refusals 8, 9, 10 and 14).
use Rattle.std.specs.Prelude.{ℕ, Bool, cond, List, [], ◌∷◌, eqb, length}
use Rattle.rows.specs.Answer.{Answer, taken, refused, ◌>>=◌, ◌>>◌}
use Rattle.rows.specs.Stages.{judged}
use Rattle.rows.specs.Kept.{KeptRow, kept}
use Rattle.words.specs.declared.Wanted.{Wanted}
use Rattle.words.specs.Figures.{Behind, taking, wrong_by, wrong, fronts, behind}

-- the LF directly behind a CR; the CR's own row is wrong where another row follows
abbrev pub after_cr : ℕ → Wanted → KeptRow → List KeptRow → Answer (Behind ℕ)
after_cr len w cr [] = wrong len w []
after_cr len w cr (r ∷ rs) = cond (eqb r.char 10) (taking r.place rs) (refused (wrong_by w) cr.place)

-- an end, the head's or a block's as is wanted, is LF, or CR directly before LF: the place of the LF
abbrev pub ended : ℕ → Wanted → List KeptRow → Answer (Behind ℕ)
ended len w [] = wrong len w []
ended len w (r ∷ rs) = cond (eqb r.char 10) (taking r.place rs) (cond (eqb r.char 13) (after_cr len w r rs) (wrong len w (r ∷ rs)))

-- "%" and an end, or 8
unfoldable pub head_at : ℕ → List KeptRow → Answer (Behind ℕ)
head_at len rs = cond (fronts 37 rs) (ended len Wanted.Head (behind rs)) (wrong len Wanted.Head rs)

-- the first three stages, and then the head
unfoldable pub entered : List ℕ → Answer (Behind ℕ)
entered t = judged t >> head_at (length t) (kept t)

-- the end of a block, or 10 at any other row; where the block is empty, with neither number nor word, 9 at its LF
abbrev pub close_at : ℕ → Bool → List KeptRow → Answer (Behind ℕ)
close_at len empty rs = ended len Wanted.End rs >>= λ e. cond empty (refused (wrong_by Wanted.Start) e.value) (taken e)
