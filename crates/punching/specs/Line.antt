-- The rows of a block in the making: what a put adds to them, and what measuring a part of it answers.
use Rattle.std.specs.Prelude.{ℕ, ◌+◌, ◌≤◌, ◌<◌, ◌≡◌, List, ◌++◌, map, length, take}
use Rattle.rows.specs.Answer.{Answer, taken, ◌>>◌}
use Rattle.shorthand.specs.declared.Kind.{Kind}
use Rattle.shorthand.specs.declared.Item.{Item}
use Rattle.shorthand.specs.Layout.{Way}
use Rattle.words.specs.declared.Value.{Value}
use Rattle.words.specs.declared.Word.{Word}
use Rattle.reading.specs.Relation.{address}
use Rattle.punching.specs.Rows.{row_of, data_rows, word_rows}
use Rattle.punching.specs.Fits.{value_fits, words_fit}

-- characters as rows behind the rows p
abbrev pub joined : List ℕ → List ℕ → List ℕ
joined p cs = p ++ map row_of cs

-- of the line l the first n rows are now those that stood up to a place, and the characters cs behind them; it is as long as it was
pub record Put (l₀ : List ℕ) (at : ℕ) (cs l : List ℕ) (n : ℕ) : Type 0 where
  pub end : n ≡ at + length cs
  pub rows : take n l ≡ joined (take at l₀) cs
  pub same : length l ≡ length l₀

-- room for characters behind the first so many rows of a line; for a word of an item, and one row more
abbrev pub Room : List ℕ → ℕ → List ℕ → Type 0
Room l at cs = at + length cs ≤ length l

abbrev pub WordRoom : List ℕ → ℕ → Way → Item → Value → Type 0
WordRoom l at y it v = at + length (address y it) + length (data_rows it.kind v) < length l

-- a value that was measured: as some word it fits its item's kind
abbrev pub Fitting : Kind → Value → Type 0
Fitting k v = (i : ℕ) × (value_fits i k v ≡ taken tt)

-- the data of word i and words from i on, each judged before its rows are counted
abbrev pub data_measured : ℕ → Kind → Value → Answer ℕ
data_measured i k v = value_fits i k v >> taken (length (data_rows k v))

abbrev pub words_measured : ℕ → Way → List Item → List Word → Answer ℕ
words_measured i y its ws = words_fit i its ws >> taken (length (word_rows y its ws))
