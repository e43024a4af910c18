-- The answer of the fourth stage: the words of a block, a block, and all blocks of the kept rows (document 01).
use Rattle.std.specs.Prelude.{ℕ, zero, suc, ◌+◌, List, [], ◌∷◌}
use Rattle.rows.specs.Answer.{Answer, taken, ◌>>=◌}
use Rattle.rows.specs.Kept.{KeptRow}
use Rattle.shorthand.specs.declared.Item.{Item}
use Rattle.shorthand.specs.declared.Format.{Format}
use Rattle.shorthand.specs.Layout.{items_of, Way, way_of}
use Rattle.words.specs.declared.Word.{Word}
use Rattle.words.specs.Figures.{Behind, taking}
use Rattle.words.specs.Data.{word_at}
use Rattle.parts.specs.declared.Begun.{Begun}
use Rattle.parts.specs.Ends.{close_at}
use Rattle.parts.specs.Starts.{start_at}
use Rattle.parts.specs.Items.{Standing, stops, out, at, standing, bare_in}
use Rattle.reading.specs.declared.Block.{Block}
use Rattle.reading.specs.declared.Entry.{Entry}
use Rattle.reading.specs.Record.{block_of, is_empty}

-- ---- the words of a block

abbrev pub cons_word : Word → Answer (Behind (List Word)) → Answer (Behind (List Word))
cons_word w a = a >>= λ x. taking (w ∷ x.value) x.rest

-- the words from an item on, by how it stands, where the others give those of the items after it
abbrev pub resumed : ℕ → Item → List KeptRow → (List KeptRow → Answer (Behind (List Word))) → Standing → Answer (Behind (List Word))
resumed len it rs others stops = taking [] rs
resumed len it rs others (out u) = others u
resumed len it rs others (at a u) = word_at len it a u >>= λ w. cons_word w.value (others w.rest)

-- an item's word where it stands, and then those of the items after it
unfoldable pub words_at : ℕ → Way → List Item → List KeptRow → Answer (Behind (List Word))
words_at len y [] rs = taking [] rs
words_at len y (it ∷ its) rs = resumed len it rs (words_at len y its) (standing y it.letter rs)

-- ---- a block

-- a block, and the place of its LF
pub record BlockRead : Type 0 where
  pub block : Block
  pub lf : ℕ

-- behind its start: the words, and an end, or 10 at any other row; 9 at the LF of an empty block
abbrev pub words_and_end : ℕ → Format → Behind Begun → Answer (Behind BlockRead)
words_and_end len f s =
    words_at len (way_of f) (items_of f) s.rest >>= λ ws. close_at len (is_empty s.value ws.value) ws.rest >>= λ e. taking (record { block = block_of s.value ws.value; lf = e.value }) e.rest

unfoldable pub block_at : ℕ → Format → List KeptRow → Answer (Behind BlockRead)
block_at len f rs = start_at len f.sequence (bare_in f) rs >>= words_and_end len f

-- ---- all blocks

abbrev pub entry : ℕ → BlockRead → Entry
entry from b = record { block = b.block; from = from; to = b.lf + 1 }

abbrev pub unless_none : List KeptRow → Answer (List Entry) → Answer (List Entry)
unless_none [] some = taken []
unless_none (r ∷ rs) some = some

-- blocks to the end of the tape, the first from the place from on. The first argument is at least the number of kept rows
unfoldable pub blocks_at : ℕ → ℕ → Format → ℕ → List KeptRow → Answer (List Entry)
blocks_at zero len f from rs = taken []
blocks_at (suc k) len f from rs =
    unless_none rs (block_at len f rs >>= λ b. blocks_at k len f (b.value.lf + 1) b.rest >>= λ es. taken (entry from b.value ∷ es))
