-- A block by its parts (documents 01, "The record", and 02, 5/12).
use Rattle.std.specs.Prelude.{◌-◌, Bool, false, not, List, [], ◌∷◌, ◌++◌, length, take, replicate}
use Rattle.words.specs.declared.Value.TheVariants.{Number}
use Rattle.words.specs.declared.Word.{Word}
use Rattle.parts.specs.declared.Begun.{Begun}
use Rattle.parts.specs.Starts.{unnumbered}
use Rattle.reading.specs.declared.Block.{Block}

-- what places past the count hold after reading: letter 0 and plain number 0
abbrev pub blank : Word
blank = record { letter = 0; value = Number 0 }

-- the block that begins so: its words and then cleared places, 22 in all
abbrev pub block_of : Begun → List Word → Block
block_of s ws =
    record { skip = s.skip; alignment = s.alignment; numbered = s.numbered; sequence = s.sequence; count = length ws; words = ws ++ replicate (22 - length ws) blank }

-- how a block begins
abbrev pub start_of : Block → Begun
start_of b = record { skip = b.skip; alignment = b.alignment; numbered = b.numbered; sequence = b.sequence }

-- a block with neither number nor word is none
abbrev pub is_empty : Begun → List Word → Bool
is_empty s [] = not s.numbered
is_empty s (w ∷ ws) = false

-- the words of a block
abbrev pub words_of : Block → List Word
words_of b = take b.count b.words

-- what a refusal hands back
abbrev pub empty_block : Block
empty_block = block_of (unnumbered false) []
