-- Blocks of rows that stand d places further on: the parsers answer the same blocks, and every place, of a refusal too, is moved by d.
use Prim.Native.Nat.{ℕ, zero, suc, ◌+◌}
use mathlib.Core.Path.{◌≡◌, refl}
use mathlib.Core.List.{List, [], ◌∷◌, map}
use native.Mathlib.Nat.{add_assoc}
use Rattle.rows.specs.Answer.{Answer}
use Rattle.rows.specs.Kept.{KeptRow}
use Rattle.shorthand.specs.declared.Item.{Item}
use Rattle.shorthand.specs.declared.Format.{Format}
use Rattle.shorthand.specs.Layout.{items_of, Way, way_of}
use Rattle.words.specs.declared.Word.{Word}
use Rattle.words.specs.Figures.{Behind}
use Rattle.words.specs.Data.{word_at}
use Rattle.parts.specs.declared.Begun.{Begun}
use Rattle.parts.specs.Ends.{close_at}
use Rattle.parts.specs.Starts.{start_at}
use Rattle.parts.specs.Items.{Standing, stops, out, at, standing, bare_in}
use Rattle.reading.specs.Record.{is_empty}
use Rattle.reading.specs.declared.Entry.{Entry}
use Rattle.reading.specs.Parse.{resumed, words_at, BlockRead, words_and_end, block_at, blocks_at}
use Rattle.reading.proofs.MovedRows.{moved, moved_row}
use Rattle.reading.proofs.MovedParsers.{moved_behind, same, further, moved_standing, then-moved, bare-moved, standing-moved, word_moved, close-moved, start-moved}

abbrev pub moved_entry : ℕ → Entry → Entry
moved_entry d x = record { block = x.block; from = d + x.from; to = d + x.to }

-- a block read, and the rows behind it
abbrev moved_read : ℕ → Behind BlockRead → Behind BlockRead
moved_read d = moved_behind d (λ b. record { block = b.block; lf = d + b.lf })

module _ (d len : ℕ) where
  -- the words from an item on, where those of the items after it are moved
  resumed-moved : (it : Item) (rs : List KeptRow) (k l : List KeptRow → Answer (Behind (List Word))) → ((u : List KeptRow) → l (map (moved_row d) u) ≡ moved d (same d) (k u))
      → (s : Standing) → resumed (d + len) it (map (moved_row d) rs) l (moved_standing d s) ≡ moved d (same d) (resumed len it rs k s)
  resumed-moved it rs k l e stops = refl
  resumed-moved it rs k l e (out u) = e u
  resumed-moved it rs k l e (at a u) =
      then-moved d (same d) (same d) (word_at len it a u) _ _ (word_moved d len it a u) (λ w.
      then-moved d (same d) (same d) (k w.rest) _ _ (e w.rest) (λ x. refl))

  words-moved : (y : Way) (its : List Item) (rs : List KeptRow) → words_at (d + len) y its (map (moved_row d) rs) ≡ moved d (same d) (words_at len y its rs)
  unfolding words_at
  words-moved y [] rs = refl
  words-moved y (it ∷ its) rs =
      rw (standing-moved d y it.letter rs) (resumed-moved it rs (words_at len y its) (words_at (d + len) y its) (words-moved y its) (standing y it.letter rs))

  -- behind a start
  rest-moved : (f : Format) (s : Behind Begun) → words_and_end (d + len) f (same d s) ≡ moved d (moved_read d) (words_and_end len f s)
  rest-moved f s =
      then-moved d (same d) (moved_read d) (words_at len (way_of f) (items_of f) s.rest) _ _ (words-moved (way_of f) (items_of f) s.rest) (λ ws.
      let empty = is_empty s.value ws.value in
      then-moved d (further d) (moved_read d) (close_at len empty ws.rest) _ _ (close-moved d len empty ws.rest) (λ e. refl))

  block-moved : (f : Format) (rs : List KeptRow) → block_at (d + len) f (map (moved_row d) rs) ≡ moved d (moved_read d) (block_at len f rs)
  unfolding block_at
  block-moved f rs =
      then-moved d (same d) (moved_read d) (start_at len f.sequence (bare_in f) rs) _ _ (start-moved d len f.sequence (bare_in f) (bare-moved d f) rs) (rest-moved f)

-- rows d places further on are answered with the same blocks, their places and a refusal's moved by d
pub blocks-moved : (f : Format) (d k len from : ℕ) (rs : List KeptRow)
    → blocks_at k (d + len) f (d + from) (map (moved_row d) rs) ≡ moved d (map (moved_entry d)) (blocks_at k len f from rs)
unfolding blocks_at
blocks-moved f d zero len from rs = refl
blocks-moved f d (suc k) len from [] = refl
blocks-moved f d (suc k) len from (r ∷ rs) =
    then-moved d (moved_read d) (map (moved_entry d)) (block_at len f (r ∷ rs)) _ _ (block-moved d len f (r ∷ rs)) (λ b.
    rw (add_assoc d b.value.lf 1)
    (then-moved d (map (moved_entry d)) (map (moved_entry d)) (blocks_at k len f (b.value.lf + 1) b.rest) _ _ (blocks-moved f d k len (b.value.lf + 1) b.rest) (λ es. refl)))
