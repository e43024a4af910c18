-- Which rows a program may stand as under a Format, from the program to the rows (documents 01, "Four stages" and "The record", and 02, 2/12
-- and 5/12).
-- Nothing here answers a value for rows.
use Rattle.std.specs.Prelude.{ℕ, zero, suc, ◌+◌, ◌/◌, ◌%◌, ◌^◌, ◌<◌, ◌≡◌, Bool, true, false, cond, List, [], ◌∷◌, ◌++◌, map, length, replicate, ℤ, pos, neg_ℤ}
use Rattle.rows.specs.Answer.{taken}
use Rattle.rows.specs.Kept.{KeptRow, kept}
use Rattle.rows.specs.Passes.{Passes}
use Rattle.speeds.specs.declared.Speed.{Speed}
use Rattle.speeds.specs.Meaning.{speed_for}
use Rattle.shorthand.specs.declared.Missing.{Missing}
use Rattle.shorthand.specs.declared.Missing.TheVariants.{Nothing, Leading, Trailing}
use Rattle.shorthand.specs.declared.Kind.{Kind}
use Rattle.shorthand.specs.declared.Kind.TheVariants.{Plain}
use Rattle.shorthand.specs.declared.Figures.{Figures}
use Rattle.shorthand.specs.declared.Item.{Item}
use Rattle.shorthand.specs.declared.Format.{Format}
use Rattle.shorthand.specs.Layout.{items_of, Way, by_letter, by_both, by_tab, way_of, Sign, barred, required, optional, sign_of}
use Rattle.profile.specs.Relation.{Settled}
use Rattle.words.specs.declared.Value.{Value}
use Rattle.words.specs.declared.Value.TheVariants.{Number}
use Rattle.words.specs.declared.Word.{Word}
use Rattle.parts.specs.declared.Begun.{Begun}
use Rattle.parts.specs.Starts.{unnumbered}
use Rattle.reading.specs.declared.Block.{Block}
use Rattle.reading.specs.Record.{block_of, is_empty}

-- the n digits of v, the highest first
abbrev pub digits : ℕ → ℕ → List ℕ
digits zero v = []
digits (suc n) v = (48 + v / 10 ^ n) ∷ digits n (v % 10 ^ n)

abbrev pub zeros : ℕ → List ℕ
zeros j = replicate j 48

-- a number of n digits as punched: all of them; or with zeros missing at the end that the item names, one digit at least standing
pub data Punched (n v : ℕ) : Missing → List ℕ → Type 0 where
  in_full : v < 10 ^ n → Punched n v Nothing (digits n v)
  front : {ds : List ℕ} (j : ℕ) → v < 10 ^ n → digits n v ≡ zeros j ++ ds → 0 < length ds → Punched n v Leading ds
  back : {ds : List ℕ} (j : ℕ) → v < 10 ^ n → digits n v ≡ ds ++ zeros j → 0 < length ds → Punched n v Trailing ds

-- the sign before a magnitude m, and the value that they make: none where it is barred; "+" or "-"; none for plus where it is optional
pub data Signed (m : ℕ) : Sign → ℤ → List ℕ → Type 0 where
  never : Signed m barred (pos m) []
  plus : Signed m required (pos m) (43 ∷ [])
  minus : Signed m required (neg_ℤ (pos m)) (45 ∷ [])
  plus_stands : Signed m optional (pos m) (43 ∷ [])
  minus_stands : Signed m optional (neg_ℤ (pos m)) (45 ∷ [])
  plus_missing : Signed m optional (pos m) []

-- a word's data by its item's kind: a plain number in full; a coded speed; a dimension's sign and figures
pub data Data : Kind → Value → List ℕ → Type 0 where
  number : {n v : ℕ} {ds : List ℕ} → Punched n v Nothing ds → Data (Plain n) (Number v) ds
  speed : {k : ℕ} {v : Speed} (c : ℕ) → speed_for k c ≡ taken v → Data (Kind.Speed k) (Value.Speed v) (digits k c)
  dimension : {d : Figures} {m : ℕ} {z : ℤ} {s ds : List ℕ} → Signed m (sign_of (Kind.Dimension d)) z s → Punched (d.before + d.after) m d.missing ds
      → Data (Kind.Dimension d) (Value.Dimension z) (s ++ ds)

-- the address of an item's word: its letter, or nothing where the item is known by its tab alone
abbrev pub address : Way → Item → List ℕ
address by_letter it = it.letter ∷ []
address by_both it = it.letter ∷ []
address by_tab it = []

pub data Worded (y : Way) (it : Item) : Word → List ℕ → Type 0 where
  word : {x : Value} {ds : List ℕ} → Data it.kind x ds → Worded y it (record { letter = it.letter; value = x }) (address y it ++ ds)

-- with tabs each HT steps to the next item; without there is nothing between words
abbrev pub tab : Way → List ℕ
tab by_letter = []
tab by_both = 9 ∷ []
tab by_tab = 9 ∷ []

-- words in the items' order: an item's word is left out or stands; tabs after the last word stay or go
pub data Words (y : Way) : List Item → List Word → List ℕ → Type 0 where
  done : {its : List Item} → Words y its [] []
  out : {it : Item} {its : List Item} {ws : List Word} {r : List ℕ} → Words y its ws r → Words y (it ∷ its) ws (tab y ++ r)
  here : {it : Item} {its : List Item} {w : Word} {ws : List Word} {d r : List ℕ} → Worded y it w d → Words y its ws r
      → Words y (it ∷ its) (w ∷ ws) (tab y ++ (d ++ r))

-- an end is LF, or CR directly before LF
pub data End : List ℕ → Type 0 where
  lf : End (10 ∷ [])
  cr_lf : End (13 ∷ 10 ∷ [])

-- "/" for optional skip
abbrev pub skip_rows : Bool → List ℕ
skip_rows true = 47 ∷ []
skip_rows false = []

-- ":" for alignment or N, with exactly the digits of the N item; nothing where there is no number
abbrev pub sequence_rows : ℕ → Begun → List ℕ
sequence_rows d s = cond s.numbered (cond s.alignment 58 78 ∷ digits d s.sequence) []

-- a block's start
abbrev pub start_rows : ℕ → Begun → List ℕ
start_rows d s = skip_rows s.skip ++ sequence_rows d s

-- how a block may begin: with a number of the N item's digits; or with none where the Format allows it, and then without alignment
pub data Start (f : Format) : Begun → Type 0 where
  counted : {n : ℕ} (skip alignment : Bool) → n < 10 ^ f.sequence → Start f (record { skip = skip; alignment = alignment; numbered = true; sequence = n })
  bare : (skip : Bool) → f.unnumbered ≡ true → Start f (unnumbered skip)

pub data Blocked (f : Format) : Block → List ℕ → Type 0 where
  block : {s : Begun} {ws : List Word} {r e : List ℕ} → Start f s → is_empty s ws ≡ false → Words (way_of f) (items_of f) ws r → End e
      → Blocked f (block_of s ws) (start_rows f.sequence s ++ (r ++ e))

pub data Blocks (f : Format) : List Block → List ℕ → Type 0 where
  none : Blocks f [] []
  more : {b : Block} {bs : List Block} {r s : List ℕ} → Blocked f b r → Blocks f bs s → Blocks f (b ∷ bs) (r ++ s)

-- "%", an end, and then blocks to the end of the tape
pub data Program (f : Format) : List Block → List ℕ → Type 0 where
  program : {bs : List Block} {e r : List ℕ} → End e → Blocks f bs r → Program f bs (37 ∷ (e ++ r))

abbrev pub chars : List KeptRow → List ℕ
chars rs = map (λ r. r.char) rs

-- t is a tape of the program bs under the edition e, the shorthand s and the profile p
pub record TapeOf (e : ℕ) (s p : List ℕ) (bs : List Block) (t : List ℕ) : Type 0 where
  pub format : Format
  pub settled : Settled e s p format
  pub passes : Passes t
  pub stands : Program format bs (chars (kept t))
