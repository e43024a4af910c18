-- The items of a Format one after the other: how each stands decides what the words from it on are.
use mathlib.Core.Path.{◌≡◌, sym, ap}
use mathlib.Core.List.{List, [], ◌∷◌}
use Prim.Native.Nat.{ℕ, ◌+◌, ◌≤◌, ◌<◌}
use lib.ListN.{drop}
use Rattle.rows.specs.Kept.{KeptRow}
use Rattle.shorthand.specs.declared.Item.{Item}
use Rattle.shorthand.specs.declared.Format.{Format}
use Rattle.shorthand.specs.Layout.{items_of, Way, way_of}
use Rattle.shorthand.specs.Facts.{Facts}
use Rattle.shorthand.proofs.FormatItems.{item-at, items-end}
use Rattle.words.specs.Figures.{taking}
use Rattle.reading.specs.Parse.{resumed, words_at}
use Rattle.parts.specs.Items.{item_at, Standing, standing}

-- ---- how an item stands

pub words-by : (len : ℕ) (y : Way) (it : Item) (its : List Item) (rs : List KeptRow) (s : Standing) → s ≡ standing y it.letter rs
    → words_at len y (it ∷ its) rs ≡ resumed len it rs (words_at len y its) s
unfolding words_at
words-by len y it its rs s e = ap (resumed len it rs (words_at len y its)) (sym e)

-- ---- one turn of the walk over a Format's items

module _ (len : ℕ) (f : Format) (h : Facts f) (rs : List KeptRow) (k : ℕ) where
  abbrev pub item_now : Item
  item_now = item_at f k

  pub words-turn : k < f.count → (s : Standing) → s ≡ standing (way_of f) item_now.letter rs
      → words_at len (way_of f) (drop k (items_of f)) rs ≡ resumed len item_now rs (words_at len (way_of f) (drop (k + 1) (items_of f))) s
  words-turn l s e = rw (item-at f h k l) (words-by len (way_of f) item_now (drop (k + 1) (items_of f)) rs s e)

  pub words-over : f.count ≤ k → words_at len (way_of f) (drop k (items_of f)) rs ≡ taking [] rs
  unfolding words_at
  words-over l = rw (items-end f h k l)
