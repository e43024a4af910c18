-- A page of a listing: the lines of the blocks from a row on, as many as fit in a lent buffer.
use Rattle.std.specs.Prelude.{ℕ, ◌-◌, cond, List, [], ◌∷◌, leb, length}
use Rattle.rows.specs.Answer.{Answer, taken, refused, ◌>>=◌}
use Rattle.rows.specs.Kept.{kept_at}
use Rattle.shorthand.specs.declared.Format.{Format}
use Rattle.reading.specs.declared.Entry.{Entry}
use Rattle.reading.specs.Parse.{blocks_at}
use Rattle.pages.specs.declared.Sheet.{Sheet}
use Rattle.lines.specs.Lines.{block_line}
use Rattle.lines.specs.Listing.{block_lines}

-- the blocks from a row on, to the end of the tape
abbrev pub blocks_from : Format → List ℕ → ℕ → Answer (List Entry)
blocks_from f t from = blocks_at (length (kept_at t from)) (length t) f from (kept_at t from)

-- the first of some blocks, as many as have lines that fit one behind another
abbrev pub fitting : ℕ → ℕ → List Entry → List Entry
fitting n size [] = []
fitting n size (e ∷ es) =
    let line = length (block_line n e.block) in
    cond (leb line size) (e ∷ fitting n (size - line) es) []

-- the row behind the last of some blocks, the first of which begins at a row
abbrev pub end_of : ℕ → List Entry → ℕ
end_of from [] = from
end_of from (e ∷ es) = end_of e.to es

-- the text of a page, how many blocks it lists, and the row that the next one begins at
pub record Paged : Type 0 where
  pub text : List ℕ
  pub blocks : ℕ
  pub next : ℕ

abbrev pub page_of : ℕ → ℕ → List Entry → Paged
page_of n from es = record { text = block_lines n es; blocks = length es; next = end_of from es }

-- the page of those of the blocks es that fit, or 19 at the length of the first line where it is longer than the buffer; past the last block a page is empty
abbrev pub page_in : ℕ → ℕ → List Entry → List Entry → Answer Paged
page_in n from [] fit = taken (page_of n from [])
page_in n from (e ∷ es) [] = refused 19 (length (block_line n e.block))
page_in n from (e ∷ es) (x ∷ xs) = taken (page_of n from (x ∷ xs))

-- the page from a row on, in a buffer of so many bytes
unfoldable pub paged : Format → ℕ → List ℕ → ℕ → Answer Paged
paged f size t from = blocks_from f t from >>= λ es. page_in f.sequence from es (fitting f.sequence size es)

-- what is answered of a page
abbrev pub sheet_of : Answer Paged → Answer Sheet
sheet_of a = a >>= λ p. taken (record { blocks = p.blocks; bytes = length p.text; next = p.next })

abbrev pub text_of : Answer Paged → Answer (List ℕ)
text_of a = a >>= λ p. taken p.text
