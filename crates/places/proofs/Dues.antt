-- An item that is due: it is one of the Format's, and each of its words makes whole words of the rows that reach it.
use mathlib.Core.Path.{◌≡◌, refl, sym, ap, subst}
use mathlib.Core.List.{List, [], ◌∷◌, ◌++◌, append_assoc, append-nil, map, Memᴰ}
use mathlib.Core.Bool.{false}
use Prim.Native.Nat.{ℕ}
use lib.ListN.{length}
use native.Mathlib.Omega.{arith}
use lib.Dec.{T, eqb}
use Rattle.rows.specs.Kept.{KeptRow}
use Rattle.shorthand.specs.declared.Item.{Item}
use Rattle.shorthand.specs.declared.Format.{Format}
use Rattle.shorthand.specs.Edition.{letters, any_of}
use Rattle.shorthand.specs.Layout.{items_of, Way}
use Rattle.shorthand.specs.Facts.{Widths, Fair, more}
use Rattle.words.specs.declared.Value.{Value}
use Rattle.words.specs.declared.Word.{Word}
use Rattle.parts.specs.declared.Begun.{Begun}
use Rattle.reading.specs.declared.Block.{Block}
use Rattle.reading.specs.Record.{is_empty}
use Rattle.reading.specs.Relation.{Data, address, Worded, word, tab, Words, done, out, here, start_rows, Start, Blocked, chars}
use Rattle.places.specs.Begins.{Reached, first, Due}

-- some word of the item, and some words of the items that a block with this start may have
abbrev pub Some : Way → Item → List ℕ → Type 0
Some y it u = (w : Word) × Worded y it w u

abbrev pub SomeWords : Way → List Item → Begun → List ℕ → Type 0
SomeWords y its s u = (ws : List Word) × (is_empty s ws ≡ false) × Words y its ws u

pub stands : (y : Way) (it : Item) {x : Value} {d : List ℕ} → Data it.kind x d → Some y it (address y it ++ d)
stands y it {x} q = (record { letter = it.letter; value = x }, word q)

-- ---- one of the items

pub reached-item : {y : Way} {its : List Item} {it : Item} {r : List ℕ} → Reached y its it r → Memᴰ it its
reached-item first = Memᴰ.head refl
reached-item (Reached.out h) = Memᴰ.tail (reached-item h)
reached-item (Reached.here q h) = Memᴰ.tail (reached-item h)

pub due-item : {f : Format} {it : Item} {x : List ℕ} → Due f it x → Memᴰ it (items_of f)
due-item h = reached-item h.reached

pub item-widths : {its : List Item} {it : Item} → Fair its → Memᴰ it its → Widths it.kind
item-widths Fair.none m = elim m [ ]
item-widths (more l w d h) (Memᴰ.head e) = subst (λ i. Widths i.kind) (sym e) w
item-widths (more l w d h) (Memᴰ.tail m) = item-widths h m

pub item-letter : {its : List Item} {it : Item} → Fair its → Memᴰ it its → T (any_of (λ c. eqb c it.letter) letters)
item-letter Fair.none m = elim m [ ]
item-letter (more l w d f) (Memᴰ.head e) = subst (λ i. T (any_of (λ c. eqb c i.letter) letters)) (sym e) l
item-letter (more l w d f) (Memᴰ.tail m) = item-letter f m

-- ---- its words

pub reached-words : (s : Begun) {y : Way} {its : List Item} {it : Item} {r : List ℕ} → Reached y its it r → {d : List ℕ} → Some y it d → SomeWords y its s (r ++ d)
reached-words s {y} (first {it} {its}) {d} q = (q.0 ∷ [], refl, subst (λ x. Words y (it ∷ its) (q.0 ∷ []) (tab y ++ x)) (append-nil d) (here q.1 done))
reached-words s {y} (Reached.out {r = r} h) {d} q = let k = reached-words s h q in (k.0, k.1, rw (append_assoc (tab y) r d) (out k.2))
reached-words s {y} (Reached.here {w = w} {d = e} {r = r} p h) {d} q =
    let k = reached-words s h q in (w ∷ k.0, refl, rw (append_assoc (tab y) (e ++ r) d, append_assoc e r d) (here p k.2))

-- ---- a started block

-- the rows of a start
pub data Opened (f : Format) : Begun → List ℕ → Type 0 where
  opened : {s : Begun} → Start f s → Opened f s (start_rows f.sequence s)

abbrev pub SomeBlock : Format → List ℕ → Type 0
SomeBlock f u = (b : Block) × Blocked f b u

-- ---- rows of given characters

-- their places are of no account
abbrev pub rows_of : List ℕ → List KeptRow
rows_of cs = map (λ c. record { place = 0; char = c }) cs

pub chars-of : (cs : List ℕ) → chars (rows_of cs) ≡ cs
chars-of [] = refl
chars-of (c ∷ cs) = ap (λ l. c ∷ l) (chars-of cs)

-- rows whose characters are those of two lists are rows of each
pub record Parted (l : List KeptRow) (a b : List ℕ) : Type 0 where
  pub left : List KeptRow
  pub right : List KeptRow
  pub split : l ≡ left ++ right
  pub of_left : chars left ≡ a
  pub of_right : chars right ≡ b

pub parted : (l : List KeptRow) (a b : List ℕ) → chars l ≡ a ++ b → Parted l a b
parted l [] b e = record { left = []; right = l; split = refl; of_left = refl; of_right = e }
parted [] (c ∷ a) b e = let z = ap length e in absurd (omega arith)
parted (r ∷ l) (c ∷ a) b e =
    let h : r.char ≡ c = cc in
    let q = parted l a b (cc) in
    record { left = r ∷ q.left; right = q.right; split = ap (λ x. r ∷ x) q.split; of_left = rw (h, q.of_left); of_right = q.of_right }
