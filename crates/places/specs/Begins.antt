-- Rows that begin the rows of some program, and what could stand behind them (documents 01, "Four stages", and 02, 5/12).
-- The limit of 1,000,000 rows is left out: it is the first stage's, and a tape may be refused so near to it that only rows past it would make a program.
use Rattle.std.specs.Prelude.{ℕ, ◌≤◌, ◌≡◌, Bool, true, List, [], ◌∷◌, ◌++◌}
use Rattle.shorthand.specs.declared.Item.{Item}
use Rattle.shorthand.specs.declared.Format.{Format}
use Rattle.shorthand.specs.Layout.{items_of, Way, way_of}
use Rattle.words.specs.declared.Word.{Word}
use Rattle.parts.specs.declared.Begun.{Begun}
use Rattle.reading.specs.declared.Block.{Block}
use Rattle.reading.specs.Relation.{Worded, tab, Words, End, skip_rows, start_rows, Start, Program}

abbrev pub Digit : ℕ → Type 0
Digit c = (48 ≤ c) × (c ≤ 57)

-- some rows behind these make a program's rows
abbrev pub Begins : Format → List ℕ → Type 0
Begins f x = (bs : List Block) × (more : List ℕ) × Program f bs (x ++ more)

-- either end could stand behind these rows, and would close a block
abbrev pub Closes : Format → List ℕ → Type 0
Closes f x = (e : List ℕ) → End e → (bs : List Block) × (b : Block) × Program f (bs ++ (b ∷ [])) (x ++ e)

-- the items before one, each left out or with its word, and its own tab
pub data Reached (y : Way) : List Item → Item → List ℕ → Type 0 where
  first : {it : Item} {its : List Item} → Reached y (it ∷ its) it (tab y)
  out : {j it : Item} {its : List Item} {r : List ℕ} → Reached y its it r → Reached y (j ∷ its) it (tab y ++ r)
  here : {j it : Item} {its : List Item} {w : Word} {d r : List ℕ} → Worded y j w d → Reached y its it r → Reached y (j ∷ its) it (tab y ++ (d ++ r))

-- a word of the item could stand behind these rows: they are a program's, a block's start, and the items before it
pub record Due (f : Format) (it : Item) (x : List ℕ) : Type 0 where
  pub blocks : List Block
  pub ended : List ℕ
  pub start : Begun
  pub passed : List ℕ
  pub program : Program f blocks ended
  pub starts : Start f start
  pub reached : Reached (way_of f) (items_of f) it passed
  pub rows : x ≡ ended ++ (start_rows f.sequence start ++ passed)

-- a block with neither number nor word so far: behind a program's rows "/" or not, and the tabs of items left out
pub record Empty (f : Format) (x : List ℕ) : Type 0 where
  pub blocks : List Block
  pub ended : List ℕ
  pub skip : Bool
  pub passed : List ℕ
  pub program : Program f blocks ended
  pub allowed : f.unnumbered ≡ true
  pub left_out : Words (way_of f) (items_of f) [] passed
  pub rows : x ≡ ended ++ (skip_rows skip ++ passed)
