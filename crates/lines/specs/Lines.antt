-- The lines of a listing (document 01, "The listing program"), each ended by LF.
use Rattle.std.specs.Prelude.{ℕ, List, [], ◌∷◌, ◌++◌}
use Rattle.reading.specs.declared.Block.{Block}
use Rattle.reading.specs.Record.{start_of, words_of}
use Rattle.text.specs.Text.{text, decimal, words_text, start_text}

-- the line of a block under a shorthand whose N item has n digits
abbrev pub block_line : ℕ → Block → List ℕ
block_line n b = start_text n (start_of b) ++ (words_text (words_of b) ++ (10 ∷ []))

-- the last line counts the blocks
abbrev pub count_line : ℕ → List ℕ
count_line n = text "blocks " ++ (decimal n ++ (10 ∷ []))

-- a refusal's one line: its number and place
abbrev pub refusal_line : ℕ → ℕ → List ℕ
refusal_line n p = text "refused " ++ (decimal n ++ (32 ∷ (decimal p ++ (10 ∷ []))))
