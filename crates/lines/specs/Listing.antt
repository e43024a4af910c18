-- What the listing program writes for a profile, its argument, and its whole input (documents 01, "The listing program", and 02, 2/12).
use Rattle.std.specs.Prelude.{ℕ, ◌+◌, ◌-◌, ◌&&◌, cond, List, [], ◌∷◌, ◌++◌, ltb, leb, length, take, drop}
use Rattle.std.specs.Str.{bytes_eq}
use Rattle.rows.specs.Answer.{Answer, taken, refused, value_or, ◌>>=◌}
use Rattle.shorthand.specs.declared.Format.{Format}
use Rattle.shorthand.specs.Layout.{empty_format}
use Rattle.profile.specs.Answers.{agreed}
use Rattle.reading.specs.declared.Entry.{Entry}
use Rattle.reading.specs.Answers.{read}
use Rattle.text.specs.Text.{text}
use Rattle.text.specs.Finding.{index_of}
use Rattle.lines.specs.declared.Header.{Header}
use Rattle.lines.specs.Lines.{block_line, count_line, refusal_line}

-- ---- the header: edition, a space, the shorthand, LF

-- the edition by its text; any other is none, and 0
abbrev pub edition_of : List ℕ → ℕ
edition_of xs = cond (bytes_eq xs (text "1057")) 1057 (cond (bytes_eq xs (text "2539")) 2539 0)

-- where the header's LF stands, among the first 200 bytes
abbrev pub header_end : List ℕ → ℕ
header_end input = index_of 10 (take 200 input)

-- the edition stands before the first space, the shorthand behind it up to the LF, and then the rows; what has no header has no edition, 1
abbrev pub found_at : List ℕ → ℕ → ℕ → Answer Header
found_at input lf space =
    cond (ltb lf (length (take 200 input)) && ltb space lf) (taken (record { edition = edition_of (take space input); from = space + 1; to = lf; rows = lf + 1 })) (refused 1 0)

unfoldable pub header_found : List ℕ → Answer Header
header_found input = found_at input (header_end input) (index_of 32 (take (header_end input) input))

-- the same with all 0 where there is no header
abbrev pub no_header : Header
no_header = record { edition = 0; from = 0; to = 0; rows = 0 }

abbrev pub header_of : List ℕ → Header
header_of input = value_or no_header (header_found input)

abbrev pub shorthand_of : List ℕ → Header → List ℕ
shorthand_of input h = take (h.to - h.from) (drop h.from input)

abbrev pub rows_of : List ℕ → Header → List ℕ
rows_of input h = drop h.rows input

-- ---- the answer: 1, 2 and 3, 22 and 23; 4 at 60,000 in its turn; and then as reading says

abbrev pub most : ℕ
most = 60000

abbrev pub listed : Format → List ℕ → Answer (List Entry)
listed f rows = cond (leb (length rows) most) (read f rows) (refused 4 most)

unfoldable pub listed_under : ℕ → List ℕ → List ℕ → List ℕ → Answer (List Entry)
listed_under e s p rows = agreed e s p >>= λ f. listed f rows

-- ---- the text

abbrev pub block_lines : ℕ → List Entry → List ℕ
block_lines n [] = []
block_lines n (e ∷ es) = block_line n e.block ++ block_lines n es

-- a line for each block and then the count, or the one line of a refusal
abbrev pub printed : ℕ → Answer (List Entry) → List ℕ
printed n (taken es) = block_lines n es ++ count_line (length es)
printed n (refused m p) = refusal_line m p

-- the Format of an input under a profile: of its header, if it has one
abbrev pub format_under : List ℕ → List ℕ → Answer Format
format_under p input = header_found input >>= λ h. agreed h.edition (shorthand_of input h) p

-- all that the program writes; a profile of no bytes is none
unfoldable pub listing : List ℕ → List ℕ → List ℕ
listing p input =
    printed (value_or empty_format (format_under p input)).sequence (header_found input >>= λ h. listed_under h.edition (shorthand_of input h) p (rows_of input h))
