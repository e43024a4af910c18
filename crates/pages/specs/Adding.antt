-- One line more on a page (spoken of by private functions alone).
use Rattle.std.specs.Prelude.{ℕ, ◌+◌, ◌-◌, Bool, cond, List, [], ◌∷◌, ◌++◌, leb, eqb, length, take, Result, Ok, Err}
use Rattle.rows.specs.declared.refusals.Cause.{Cause}
use Rattle.rows.specs.declared.refusals.Refusal.{Refusal}
use Rattle.std.proofs.lemmas.List.Edits.{sets}
use Rattle.pages.specs.declared.Sheet.{Sheet}

-- a line of so many bytes and its LF fit in what is left of the buffer
abbrev pub fits_in : ℕ → ℕ → Sheet → Bool
fits_in used size s = leb (used + 1) (size - s.bytes)

-- the page with the line, or the length of a line that does not fit
abbrev pub added_to : ℕ → ℕ → Sheet → ℕ → Result Sheet ℕ
added_to used size s next = cond (fits_in used size s) (Ok (record { blocks = s.blocks + 1; bytes = s.bytes + (used + 1); next = next })) (Err (used + 1))

-- the line, its first bytes and LF, behind those of the page
abbrev pub line_after : List ℕ → ℕ → List ℕ → Sheet → List ℕ
line_after line used buffer s = cond (fits_in used (length buffer) s) (sets buffer s.bytes (take used line ++ (10 ∷ []))) buffer

-- a page that is full before a line of so many bytes
abbrev pub full_at : Sheet → ℕ → Result Sheet Refusal
full_at s n = cond (eqb s.blocks 0) (Err (record { cause = Cause.Room; place = n })) (Ok s)
