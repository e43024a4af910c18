-- One item after the other: how its letter and the next word's decide what is left to judge and to put.
use Prim.Native.Nat.{ℕ, zero, suc, ◌+◌, ◌≤◌, ◌<◌}
use mathlib.Core.Path.{◌≡◌, refl, sym, ap}
use mathlib.Core.Bool.{Bool, true, false, ◌||◌, cond}
use mathlib.Core.List.{List, [], ◌∷◌, ◌++◌, append_assoc}
use native.Mathlib.Nat.{zero-add, add-zero, le_of_suc-le-suc, not-suc-le-zero}
use native.Mathlib.Numerals.{add-one}
use native.Mathlib.Omega.{arith}
use borrow.Author.Tests.{eq-eqb, ne_eqb, eqb-true, ltb-true}
use lib.Dec.{T, eqb, ltb}
use lib.ListN.{length, get_or, drop, length-append, drop_of_length-le}
use lib.Seq.{drop-cons, get_or-take, length-take-le}
use Rattle.rows.specs.Answer.{Answer, taken, refused, ◌>>=◌, ◌>>◌}
use Rattle.shorthand.specs.declared.Item.{Item}
use Rattle.shorthand.specs.declared.Format.{Format}
use Rattle.shorthand.specs.Edition.{letters, any_of}
use Rattle.shorthand.specs.Layout as layout
use Rattle.shorthand.specs.Layout.{items_of, way_of}
use Rattle.shorthand.specs.Facts.{Widths, Fair, none, more, Facts}
use Rattle.words.specs.declared.Word.{Word}
use Rattle.reading.specs.declared.Block.{Block}
use Rattle.reading.specs.Record.{blank, words_of}
use Rattle.reading.specs.Relation.{address, tab}
use Rattle.shorthand.proofs.FormatItems.{counted, item-is, widths-at}
use Rattle.punching.specs.Rows.{data_rows, word_rows}
use Rattle.punching.specs.Fits.{Fit, value_fits, words_fit}

-- ---- every letter of an item is a character of seven holes at most

all_below : List ℕ → Bool
all_below [] = true
all_below (c ∷ cs) = cond (ltb c 128) (all_below cs) false

one_below : (x : ℕ) (cs : List ℕ) → T (any_of (λ c. eqb c x) cs) → T (all_below cs) → x < 128
unfolding all_below
one_below x [] t a = absurd t
one_below x (c ∷ cs) t a = go (eqb c x) refl (ltb c 128) refl t a (one_below x cs)
  where
    go : (y : Bool) → eqb c x ≡ y → (z : Bool) → ltb c 128 ≡ z → T (y || any_of (λ d. eqb d x) cs) → T (cond z (all_below cs) false) → (T (any_of (λ d. eqb d x) cs) → T (all_below cs) → x < 128) → x < 128
    go true e true f u b r = rw (eqb-true c x e) at (ltb-true c 128 f)
    go false e true f u b r = r u b
    go y e false f u b r = absurd b

fair-letter : {its : List Item} → Fair its → (k : ℕ) → k < length its → (get_or its k layout.blank).letter < 128
unfolding all_below
fair-letter none k l = absurd (not-suc-le-zero l)
fair-letter (more {it} letter widths other rest) zero l = one_below it.letter letters letter tt
fair-letter (more letter widths other rest) (suc k) l = fair-letter rest k (le_of_suc-le-suc l)

module _ (f : Format) (h : Facts f) (k : ℕ) (l : k < length (items_of f)) where
  pub letter_at : (get_or (items_of f) k layout.blank).letter < 128
  letter_at = fair-letter h.fair k l

  pub widths_at : Widths (get_or (items_of f) k layout.blank).kind
  widths_at = let m : k < f.count = omega (arith, counted f h) in rw (item-is f h k m) (widths-at f h k m)

  -- of 22 items at most
  pub few_at : k < 22
  few_at = omega (arith, counted f h, h.few)

-- ---- the words of a block one after the other

module _ (b : Block) (long : length b.words ≡ 22) (few : b.count ≤ 22) where
  pub word_at : (i : ℕ) → i < b.count → drop i (words_of b) ≡ get_or b.words i blank ∷ drop (i + 1) (words_of b)
  word_at i l =
      let n : length (words_of b) ≡ b.count = length-take-le b.count b.words (omega arith) in
      rw (add-one, drop-cons (words_of b) i blank (omega arith), get_or-take b.count b.words i blank l)

  pub words-end : (i : ℕ) → b.count ≤ i → drop i (words_of b) ≡ []
  words-end i l = drop_of_length-le (words_of b) {i = i} (omega (arith, length-take-le b.count b.words (omega arith)))

-- ---- one turn of the walk over a Format's items and a block's words

-- what is left to judge and to put from item k and word i on
abbrev pub fit_left : Format → Block → ℕ → ℕ → Fit
fit_left f b k i = words_fit (i + 1) (drop k (items_of f)) (drop i (words_of b))

abbrev pub rows_left : Format → Block → ℕ → ℕ → List ℕ
rows_left f b k i = word_rows (way_of f) (drop k (items_of f)) (drop i (words_of b))

-- what a turn judges and puts before what is left from item m and word j on
pub record Turn (f : Format) (b : Block) (k i : ℕ) (fit : Fit) (cs : List ℕ) (m j : ℕ) : Type 0 where
  pub fits : fit_left f b k i ≡ fit >> fit_left f b m j
  pub rows : rows_left f b k i ≡ cs ++ rows_left f b m j

module _ (f : Format) (b : Block) (long : length b.words ≡ 22) (few : b.count ≤ 22) (k i : ℕ) where
  abbrev pub item_now : Item
  item_now = get_or (items_of f) k layout.blank

  abbrev pub word_now : Word
  word_now = get_or b.words i blank

  -- after the last word nothing is left
  pub words-over : b.count ≤ i → (fit_left f b k i ≡ taken tt) × (rows_left f b k i ≡ [])
  unfolding words_fit word_rows
  words-over l = rw (words-end b long few i l) (refl, refl)

  -- after the last item no row is left
  pub items-over : length (items_of f) ≤ k → rows_left f b k i ≡ []
  unfolding word_rows
  items-over l = rw (drop_of_length-le (items_of f) {i = k} l) (by (drop i (words_of b)))
    where
      by : (ws : List Word) → word_rows (way_of f) [] ws ≡ []
      by [] = refl
      by (w ∷ ws) = refl

  module _ (m : i < b.count) where
    -- and a word is refused
    pub word-alone : length (items_of f) ≤ k → fit_left f b k i ≡ refused 16 (i + 1)
    unfolding words_fit
    word-alone l = rw (drop_of_length-le (items_of f) {i = k} l, word_at b long few i m)

    module _ (l : k < length (items_of f)) where
      item_at : drop k (items_of f) ≡ item_now ∷ drop (k + 1) (items_of f)
      item_at = rw (add-one, drop-cons (items_of f) k layout.blank l)

      -- another letter: the item's word is left out, and its tab stands
      pub turn-out : (word_now.letter ≡ item_now.letter → ⊥) → Turn f b k i (taken tt) (tab (way_of f)) (k + 1) i
      unfolding words_fit word_rows
      turn-out n =
          let e = ne_eqb word_now.letter item_now.letter n in
          record { fits = rw (item_at, word_at b long few i m, e); rows = rw (item_at, word_at b long few i m, e) }

      -- its letter: the tab, the address and the data
      pub turn_in : word_now.letter ≡ item_now.letter
          → Turn f b k i (value_fits (i + 1) item_now.kind word_now.value) (tab (way_of f) ++ (address (way_of f) item_now ++ data_rows item_now.kind word_now.value)) (k + 1) (i + 1)
      unfolding words_fit word_rows
      turn_in same =
          let e = eq-eqb word_now.letter item_now.letter same in
          record { fits = rw (item_at, word_at b long few i m, e, add-one (i + 1)); rows = rw (item_at, word_at b long few i m, e, append_assoc, append_assoc) }

-- ---- measuring in turns

-- n rows and then those of a measure
abbrev pub behind : ℕ → Answer ℕ → Answer ℕ
behind n a = a >>= λ m. taken (n + m)

pub behind-none : (a : Answer ℕ) → a ≡ behind 0 a
behind-none (taken n) = ap taken (sym (zero-add n))
behind-none (refused n p) = refl

-- what is left to measure
abbrev pub measured_left : Format → Block → ℕ → ℕ → Answer ℕ
measured_left f b k i = fit_left f b k i >> taken (length (rows_left f b k i))

module _ (f : Format) (b : Block) (long : length b.words ≡ 22) (few : b.count ≤ 22) (k i n : ℕ) where
  -- after the last word the rows so far are the answer
  pub measured-over : b.count ≤ i → behind n (measured_left f b k i) ≡ taken n
  measured-over l = let o = words-over f b long few k i l in rw (o.0, o.1) (ap taken (add-zero n))

  -- after the last item a word is refused
  pub measured-alone : i < b.count → length (items_of f) ≤ k → behind n (measured_left f b k i) ≡ refused 16 (i + 1)
  measured-alone m l = rw (word-alone f b long few k i m l)

module _ {f : Format} {b : Block} {k i m j : ℕ} {fit : Fit} {cs : List ℕ} (t : Turn f b k i fit cs m j) (n : ℕ) where
  -- a turn that fits adds its rows
  pub measured-turn : fit ≡ taken tt → behind n (measured_left f b k i) ≡ behind (n + length cs) (measured_left f b m j)
  measured-turn e = rw (t.fits, t.rows, e) (by (fit_left f b m j))
    where
      by : (a : Fit) → behind n (a >> taken (length (cs ++ rows_left f b m j))) ≡ behind (n + length cs) (a >> taken (length (rows_left f b m j)))
      by (taken u) = ap taken (omega (arith, length-append cs (rows_left f b m j)))
      by (refused x y) = refl

  -- one that is refused is the answer
  pub measured-away : (x y : ℕ) → fit ≡ refused x y → behind n (measured_left f b k i) ≡ refused x y
  measured-away x y e = rw (t.fits, e)

-- a turn's rows are those of its tab, its address and its data
pub turn-width : (n : ℕ) (t a d : List ℕ) → n + length (t ++ (a ++ d)) ≡ n + length t + (length a + length d)
turn-width n t a d = omega (arith, length-append t (a ++ d), length-append a d)

-- and find room where what is to come does
pub turn-room : {rest : List ℕ} {n x y : ℕ} (at : ℕ) (t a d r : List ℕ) → rest ≡ (t ++ (a ++ d)) ++ r → at + length rest < x → n ≡ at + length t → y ≡ x → n + length a + length d < y
turn-room at t a d r e h i j = omega (arith, ap length e, length-append (t ++ (a ++ d)) r, turn-width 0 t a d)
