-- The rows that the punch writes (documents 01, "The record", punching, and 02, 5/12): full digits, a sign in every signed item, tabs only up to the last word,
-- no addresses where items are known by their tabs alone, even parity.
use Rattle.std.specs.Prelude.{ℕ, ◌+◌, Bool, true, false, cond, Option, Some, None, List, [], ◌∷◌, ◌++◌, map, eqb, ℤ, pos, negsuc, nat_abs}
use Rattle.rows.specs.Row.{even}
use Rattle.speeds.specs.Coding.{exact_for}
use Rattle.shorthand.specs.declared.Kind.{Kind}
use Rattle.shorthand.specs.declared.Kind.TheVariants.{Plain}
use Rattle.shorthand.specs.declared.Item.{Item}
use Rattle.shorthand.specs.declared.Format.{Format}
use Rattle.shorthand.specs.Layout.{items_of, width, Way, way_of, Sign, barred, required, optional, sign_of}
use Rattle.words.specs.declared.Value.{Value}
use Rattle.words.specs.declared.Value.TheVariants.{Number}
use Rattle.words.specs.declared.Word.{Word}
use Rattle.parts.specs.declared.Begun.{Begun}
use Rattle.reading.specs.declared.Block.{Block}
use Rattle.reading.specs.Record.{block_of, start_of, words_of}
use Rattle.reading.specs.Relation.{digits, address, tab, start_rows}

-- a character's row: the eighth hole where the others are odd
abbrev pub row_of : ℕ → ℕ
row_of c = cond (even c) c (c + 128)

abbrev pub minus : ℤ → Bool
minus (pos n) = false
minus (negsuc n) = true

-- "+" or "-" in every signed item, plus for zero
abbrev pub sign_rows : Sign → ℤ → List ℕ
sign_rows barred z = []
sign_rows required z = cond (minus z) 45 43 ∷ []
sign_rows optional z = cond (minus z) 45 43 ∷ []

abbrev pub code_rows : ℕ → Option ℕ → List ℕ
code_rows k (Some c) = digits k c
code_rows k None = []

-- a word's data at full length; nothing where the kinds differ, which is refused
abbrev pub data_rows : Kind → Value → List ℕ
data_rows (Plain n) (Number v) = digits n v
data_rows (Plain n) (Value.Dimension z) = []
data_rows (Plain n) (Value.Speed s) = []
data_rows (Kind.Speed k) (Number v) = []
data_rows (Kind.Speed k) (Value.Dimension z) = []
data_rows (Kind.Speed k) (Value.Speed s) = code_rows k (exact_for k s)
data_rows (Kind.Dimension d) (Number v) = []
data_rows (Kind.Dimension d) (Value.Dimension z) = sign_rows (sign_of (Kind.Dimension d)) z ++ digits (width (Kind.Dimension d)) (nat_abs z)
data_rows (Kind.Dimension d) (Value.Speed s) = []

-- words in the items' order, with tabs up to the last of them
unfoldable pub word_rows : Way → List Item → List Word → List ℕ
word_rows y its [] = []
word_rows y [] (w ∷ ws) = []
word_rows y (it ∷ its) (w ∷ ws) =
    tab y ++ cond (eqb w.letter it.letter) (address y it ++ (data_rows it.kind w.value ++ word_rows y its ws)) (word_rows y its (w ∷ ws))

-- the words of a block
abbrev pub words_rows : Format → Block → List ℕ
words_rows f b = word_rows (way_of f) (items_of f) (words_of b)

-- a block's characters, LF for its end
unfoldable pub block_chars : Format → Block → List ℕ
block_chars f b = start_rows f.sequence (start_of b) ++ (word_rows (way_of f) (items_of f) (words_of b) ++ (10 ∷ []))

-- the rows of a block
abbrev pub rows_of : Format → Block → List ℕ
rows_of f b = map row_of (block_chars f b)

-- "%" and LF
abbrev pub head_rows : List ℕ
head_rows = map row_of (37 ∷ 10 ∷ [])

-- the field of a number that is missing holds 0
abbrev pub cleared_start : Begun → Begun
cleared_start s = record { skip = s.skip; alignment = s.alignment; numbered = s.numbered; sequence = cond s.numbered s.sequence 0 }

-- a record with all cleared that the punch doesn't look at
abbrev pub cleared : Block → Block
cleared b = block_of (cleared_start (start_of b)) (words_of b)
