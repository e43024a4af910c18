-- The length before paper is loaded (document 02, 6/12): what a record's rows sum up to, and that the writer does just what the measure said, with every buffer.
use Prim.Native.Nat.{ℕ, suc, ◌+◌, ◌*◌, ◌≤◌, ◌<◌, zero-le}
use mathlib.Core.Path.{◌≡◌, refl, sym, ap, ◌∙◌}
use mathlib.Core.Bool.{Bool, true, false, cond}
use mathlib.Core.List.{List, [], ◌∷◌, ◌++◌}
use native.Mathlib.Nat.{le_refl}
use native.Mathlib.Omega.{arith}
use borrow.Author.Tests.{leb-true, le-leb, lt-leb}
use lib.Dec.{eqb, leb}
use lib.IntN.{ℤ, nat_abs}
use lib.ListN.{length, drop, length-append, length-map}
use Rattle.rows.specs.Answer.{Answer, taken, refused, ◌>>=◌, ◌>>◌}
use Rattle.std.specs.Prelude.{Option}
use Rattle.std.specs.Prelude.{None, Some}
use Rattle.speeds.specs.Coding.{exact_for}
use Rattle.shorthand.specs.declared.Kind.{Kind}
use Rattle.shorthand.specs.declared.Kind.TheVariants.{Plain}
use Rattle.shorthand.specs.declared.Item.{Item}
use Rattle.shorthand.specs.declared.Format.{Format}
use Rattle.shorthand.specs.Layout.{items_of, width, Way, by_letter, by_both, by_tab, way_of, Sign, barred, required, optional, sign_of}
use Rattle.shorthand.specs.Facts.{Widths, Fair, none, more, Facts}
use Rattle.shorthand.proofs.FormatItems.{counted}
use Rattle.profile.specs.Answers.{agreed}
use Rattle.words.specs.declared.Value.{Value}
use Rattle.words.specs.declared.Value.TheVariants.{Number}
use Rattle.words.specs.declared.Word.{Word}
use Rattle.words.specs.Figures.{may_stand}
use Rattle.parts.specs.declared.Begun.{Begun}
use Rattle.reading.specs.declared.Block.{Block}
use Rattle.reading.specs.Record.{start_of, words_of}
use Rattle.reading.specs.Relation.{digits, address, tab, skip_rows, sequence_rows, start_rows}
use Rattle.reading.proofs.Outcomes.{never}
use Rattle.reading.proofs.DigitRows.{digits-length}
use Rattle.punching.specs.Rows.{sign_rows, code_rows, data_rows, word_rows, block_chars, rows_of}
use Rattle.punching.specs.Fits.{Fit, unless, coded, value_fits, sequence_fits, words_fit, record_fits}
use Rattle.punching.specs.Answers.{room_for, measured_for, measured, written_for, block_written, block_for, block_punched, after}

-- ---- what is judged before it is counted

-- taken, it was judged fit
pub judged-fit : {A : Type 0} (a : Fit) (x y : A) → a >> taken x ≡ taken y → (a ≡ taken tt) × (x ≡ y)
judged-fit (taken tt) x y e = (refl, cc)
judged-fit (refused n p) x y e = never e

-- refused, it was judged so
pub judged-away : {A : Type 0} (a : Fit) (x : A) (n p : ℕ) → a >> taken x ≡ refused n p → a ≡ refused n p
judged-away (taken tt) x n p e = never (sym e)
judged-away (refused m q) x n p e = let i : m ≡ n = cc in let j : q ≡ p = cc in rw (i, j)

-- of two that follow one another both were fit
pub both-fit : (a b : Fit) → a >> b ≡ taken tt → (a ≡ taken tt) × (b ≡ taken tt)
both-fit (taken tt) b e = (refl, e)
both-fit (refused n p) b e = never e

-- ---- the length of a record's rows as a sum

-- "/" or not, and N or ":" with its digits, or no number
abbrev pub start_width : ℕ → Begun → ℕ
start_width d s = cond s.skip 1 0 + cond s.numbered (1 + d) 0

-- an item's digits, and a sign where one may stand
abbrev pub data_width : Kind → ℕ
data_width k = cond (may_stand (sign_of k)) (width k + 1) (width k)

-- words in the items' order: a tab for each item up to the last word, and for each word its address, sign and digits
abbrev pub words_width : Way → List Item → List Word → ℕ
words_width y its [] = 0
words_width y [] (w ∷ ws) = 0
words_width y (it ∷ its) (w ∷ ws) =
    length (tab y) + cond (eqb w.letter it.letter) (length (address y it) + (data_width it.kind + words_width y its ws)) (words_width y its (w ∷ ws))

-- a number is one row more than its digits
pub sequence-length : (d : ℕ) (s : Begun) → length (sequence_rows d s) ≡ cond s.numbered (1 + d) 0
sequence-length d s = by s.numbered
  where
    by : (x : Bool) → length (cond x (cond s.alignment 58 78 ∷ digits d s.sequence) []) ≡ cond x (1 + d) 0
    by true = rw (digits-length d s.sequence) (omega arith)
    by false = refl

-- a start by its parts
pub start-length : (d : ℕ) (s : Begun) → length (start_rows d s) ≡ start_width d s
start-length d s = rw (length-append, by s.skip, sequence-length d s)
  where
    by : (x : Bool) → length (skip_rows x) ≡ cond x 1 0
    by true = refl
    by false = refl

-- a dimension's figures, with a sign where one may stand
signed-length : (s : Sign) (z : ℤ) (n v : ℕ) → length (sign_rows s z ++ digits n v) ≡ cond (may_stand s) (n + 1) n
signed-length barred z n v = digits-length n v
signed-length required z n v = omega (arith, digits-length n v)
signed-length optional z n v = omega (arith, digits-length n v)

-- a code has all its digits
code-length : (i k : ℕ) (x : Option ℕ) → coded i x ≡ taken tt → length (code_rows k x) ≡ k
code-length i k (Some c) e = digits-length k c
code-length i k None e = never e

-- a value that fits has as many characters as its item's kind says
pub data-length : (i : ℕ) (k : Kind) (v : Value) → value_fits i k v ≡ taken tt → length (data_rows k v) ≡ data_width k
data-length i (Plain n) (Number v) e = digits-length n v
data-length i (Plain n) (Value.Dimension z) e = never e
data-length i (Plain n) (Value.Speed s) e = never e
data-length i (Kind.Speed k) (Number v) e = never e
data-length i (Kind.Speed k) (Value.Dimension z) e = never e
data-length i (Kind.Speed k) (Value.Speed s) e = code-length i k (exact_for k s) e
data-length i (Kind.Dimension d) (Number v) e = never e
data-length i (Kind.Dimension d) (Value.Dimension z) e = signed-length (sign_of (Kind.Dimension d)) z (width (Kind.Dimension d)) (nat_abs z)
data-length i (Kind.Dimension d) (Value.Speed s) e = never e

-- words that fit, in the items' order
pub words-length : (i : ℕ) (y : Way) (its : List Item) (ws : List Word) → words_fit i its ws ≡ taken tt → length (word_rows y its ws) ≡ words_width y its ws
unfolding words_fit word_rows
words-length i y its [] e = refl
words-length i y [] (w ∷ ws) e = refl
words-length i y (it ∷ its) (w ∷ ws) e =
    rw length-append (ap (λ n. length (tab y) + n) (by (eqb w.letter it.letter) (words-length (suc i) y its ws) (words-length i y its (w ∷ ws)) e))
  where
    by : (x : Bool) → (words_fit (suc i) its ws ≡ taken tt → length (word_rows y its ws) ≡ words_width y its ws)
        → (words_fit i its (w ∷ ws) ≡ taken tt → length (word_rows y its (w ∷ ws)) ≡ words_width y its (w ∷ ws))
        → cond x (value_fits i it.kind w.value >> words_fit (suc i) its ws) (words_fit i its (w ∷ ws)) ≡ taken tt
        → length (cond x (address y it ++ (data_rows it.kind w.value ++ word_rows y its ws)) (word_rows y its (w ∷ ws)))
        ≡ cond x (length (address y it) + (data_width it.kind + words_width y its ws)) (words_width y its (w ∷ ws))
    by true behind later h =
        let f = both-fit (value_fits i it.kind w.value) (words_fit (suc i) its ws) h in
        rw (length-append, length-append, data-length i it.kind w.value f.0, behind f.1)
    by false behind later h = later h

-- what a record that fits is known to have
pub record FitParts (f : Format) (b : Block) : Type 0 where
  pub few : b.count ≤ 22
  pub sequence : sequence_fits f b ≡ taken tt
  pub words : words_fit 1 (items_of f) (words_of b) ≡ taken tt

-- a test that nothing was refused for held
pub tested : (x : Bool) (n p : ℕ) → unless x n p ≡ taken tt → x ≡ true
tested true n p e = refl
tested false n p e = never e

-- each of the three stages was passed
pub record-fit : (f : Format) (b : Block) → record_fits f b ≡ taken tt → FitParts f b
unfolding record_fits
record-fit f b e =
    let h = both-fit (unless (leb b.count 22) 16 23) _ e in
    let g = both-fit (sequence_fits f b) _ h.1 in
    record { few = leb-true _ _ (tested (leb b.count 22) 16 23 h.0); sequence = g.0; words = g.1 }

-- any record's rows: its start, its words and the LF
pub rows-length : (f : Format) (b : Block) → length (rows_of f b) ≡ length (start_rows f.sequence (start_of b)) + length (word_rows (way_of f) (items_of f) (words_of b)) + 1
unfolding block_chars
rows-length f b =
    let s = start_rows f.sequence (start_of b) in
    let w = word_rows (way_of f) (items_of f) (words_of b) in
    rw length-map (omega (arith, length-append s (w ++ (10 ∷ [])), length-append w (10 ∷ [])))

-- and of one that fits, by the numbers alone
pub record-length : (f : Format) (b : Block) → record_fits f b ≡ taken tt
    → length (rows_of f b) ≡ start_width f.sequence (start_of b) + words_width (way_of f) (items_of f) (words_of b) + 1
record-length f b e =
    rw (rows-length f b, start-length f.sequence (start_of b), words-length 1 (way_of f) (items_of f) (words_of b) (record-fit f b e).words)

-- ---- the most rows that a record can have

-- one tab before an item, one letter for an address, at most 19 characters for data
pub tab-most : (y : Way) → length (tab y) ≤ 1
tab-most by_letter = omega arith
tab-most by_both = le_refl 1
tab-most by_tab = le_refl 1

pub address-most : (y : Way) (it : Item) → length (address y it) ≤ 1
address-most by_letter it = le_refl 1
address-most by_both it = le_refl 1
address-most by_tab it = omega arith

signed-most : (x : Bool) (n : ℕ) → n ≤ 18 → cond x (n + 1) n ≤ 19
signed-most true n h = omega arith
signed-most false n h = omega arith

pub data-most : (k : Kind) → Widths k → data_width k ≤ 19
data-most (Plain n) w = omega arith
data-most (Kind.Speed n) w = omega arith
data-most (Kind.Dimension d) w = signed-most (may_stand (sign_of (Kind.Dimension d))) (d.before + d.after) (omega (arith, w.0, w.1))

-- 21 rows for each item at most
words-most : (y : Way) {its : List Item} → Fair its → (ws : List Word) → words_width y its ws ≤ 21 * length its
words-most y fair [] = zero-le
words-most y none (w ∷ ws) = zero-le
words-most y (more {it} {its} l widths new fair) (w ∷ ws) =
    by (eqb w.letter it.letter) (data-most it.kind widths) (words-most y fair ws) (words-most y fair (w ∷ ws))
  where
    by : (x : Bool) → data_width it.kind ≤ 19 → words_width y its ws ≤ 21 * length its → words_width y its (w ∷ ws) ≤ 21 * length its
        → length (tab y) + cond x (length (address y it) + (data_width it.kind + words_width y its ws)) (words_width y its (w ∷ ws)) ≤ 21 * suc (length its)
    by true d behind later = omega (arith, tab-most y, address-most y it)
    by false d behind later = omega (arith, tab-most y)

module _ {f : Format} (facts : Facts f) (b : Block) where
  -- 22 words with a tab, an address, a sign and 18 digits each
  pub few-rows : words_fit 1 (items_of f) (words_of b) ≡ taken tt → length (word_rows (way_of f) (items_of f) (words_of b)) ≤ 462
  few-rows e =
      omega (arith, words-length 1 (way_of f) (items_of f) (words_of b) e, words-most (way_of f) facts.fair (words_of b), counted f facts, facts.few)

  -- "/", N and 9 digits
  pub start-most : length (start_rows f.sequence (start_of b)) ≤ 11
  start-most = rw (start-length f.sequence (start_of b)) (by b.skip b.numbered)
    where
      by : (x y : Bool) → cond x 1 0 + cond y (1 + f.sequence) 0 ≤ 11
      by true true = omega (arith, facts.sequence.1)
      by true false = omega arith
      by false true = omega (arith, facts.sequence.1)
      by false false = omega arith

  -- a buffer of 474 rows has room for every record
  pub record-most : record_fits f b ≡ taken tt → length (rows_of f b) ≤ 474
  record-most e = omega (arith, rows-length f b, start-most, few-rows (record-fit f b e).words)

-- ---- the measure, and the writer that judges by it, under a Format

module _ (f : Format) (b : Block) where
  -- measured, a record fits and has as many rows
  pub measured-fit : (n : ℕ) → measured_for f b ≡ taken n → (record_fits f b ≡ taken tt) × (length (rows_of f b) ≡ n)
  unfolding measured_for
  measured-fit n e = judged-fit (record_fits f b) (length (rows_of f b)) n e

  module _ (buffer : List ℕ) where
    -- what is written is measured first
    written_after : written_for f b buffer ≡ measured_for f b >> written_for f b buffer
    unfolding written_for
    written_after = by (measured_for f b)
      where
        by : (a : Answer ℕ) → (a >> room_for buffer (rows_of f b)) ≡ a >> (a >> room_for buffer (rows_of f b))
        by (taken n) = refl
        by (refused n p) = refl

    -- punched or written: the one measure judges
    pub written-punched : written_for f b buffer ≡ block_for f b buffer
    unfolding written_for measured_for block_for
    written-punched = by (record_fits f b)
      where
        by : (a : Fit) → ((a >> taken (length (rows_of f b))) >> room_for buffer (rows_of f b)) ≡ a >> room_for buffer (rows_of f b)
        by (taken u) = refl
        by (refused n p) = refl

    -- a record that the measure refuses is not written
    pub written-refused : (n p : ℕ) → measured_for f b ≡ refused n p → written_for f b buffer ≡ refused n p
    unfolding written_for
    written-refused n p e = rw e

    module _ (n : ℕ) (e : measured_for f b ≡ taken n) where
      -- one that it measured to n rows is refused by a shorter buffer
      pub written-short : length buffer < n → written_for f b buffer ≡ refused 19 n
      unfolding written_for
      written-short h = rw (e, (measured-fit n e).1, lt-leb n (length buffer) h)

      -- and written into any other
      pub written-room : n ≤ length buffer → written_for f b buffer ≡ taken (rows_of f b)
      unfolding written_for
      written-room h = rw (e, (measured-fit n e).1, le-leb n (length buffer) h)

-- ---- under an edition, a shorthand and a profile

-- what the writer leaves where a record was measured to n rows: its rows under the agreed Format, n of them, and behind them the buffer as it was
pub record Filled (e : ℕ) (s p : List ℕ) (b : Block) (n : ℕ) (buffer : List ℕ) : Type 0 where
  pub format : Format
  pub agrees : agreed e s p ≡ taken format
  pub long : length (rows_of format b) ≡ n
  pub rows : block_written e s p b buffer ≡ taken (rows_of format b)
  pub leaves : after buffer (block_written e s p b buffer) ≡ rows_of format b ++ drop n buffer

module _ (e : ℕ) (s p : List ℕ) (b : Block) where
  -- whatever is measured to n rows is so under the agreed Format
  measured-under : (n : ℕ) → measured e s p b ≡ taken n → (f : Format) × (agreed e s p ≡ taken f) × (measured_for f b ≡ taken n)
  unfolding measured
  measured-under n q = by (agreed e s p) refl q
    where
      by : (a : Answer Format) → agreed e s p ≡ a → (a >>= λ f. measured_for f b) ≡ taken n → (f : Format) × (agreed e s p ≡ taken f) × (measured_for f b ≡ taken n)
      by (taken f) k h = (f, k, h)
      by (refused m i) k h = never h

  -- measured to n rows, a record is written into every buffer of n rows and more, as n rows
  pub measured-written : (n : ℕ) → measured e s p b ≡ taken n → (buffer : List ℕ) → n ≤ length buffer → Filled e s p b n buffer
  unfolding block_written
  measured-written n q buffer h =
      let m = measured-under n q in
      let long = (measured-fit m.0 b n m.2).1 in
      let rows = written-room m.0 b buffer n m.2 h in
      record { format = m.0; agrees = m.1; long = long; rows = rw m.1 rows; leaves = rw (m.1, rows, long) }

  -- and into no shorter one: it is refused there by 19, at the n rows needed
  pub measured-short : (n : ℕ) → measured e s p b ≡ taken n → (buffer : List ℕ) → length buffer < n → block_written e s p b buffer ≡ refused 19 n
  unfolding block_written
  measured-short n q buffer h = let m = measured-under n q in rw m.1 (written-short m.0 b buffer n m.2 h)

  module _ (buffer : List ℕ) where
    -- the writer judges by the measure
    pub written-measured : block_written e s p b buffer ≡ measured e s p b >> block_written e s p b buffer
    unfolding measured block_written
    written-measured = by (agreed e s p)
      where
        by : (a : Answer Format) → (a >>= λ f. written_for f b buffer) ≡ (a >>= λ f. measured_for f b) >> (a >>= λ f. written_for f b buffer)
        by (taken f) = written_after f b buffer
        by (refused n q) = refl

    -- what the measure refuses, the writer refuses likewise
    pub measured-refused : (m k : ℕ) → measured e s p b ≡ refused m k → block_written e s p b buffer ≡ refused m k
    measured-refused m k q = written-measured ∙ ap (λ a. a >> block_written e s p b buffer) q

    -- the writer alone does what punching does
    pub written-as-punched : block_written e s p b buffer ≡ block_punched e s p b buffer
    unfolding block_written block_punched
    written-as-punched = by (agreed e s p)
      where
        by : (a : Answer Format) → (a >>= λ f. written_for f b buffer) ≡ a >>= λ f. block_for f b buffer
        by (taken f) = written-punched f b buffer
        by (refused n q) = refl

    -- measuring and writing in sequence are punching
    pub punched-in-sequence : block_punched e s p b buffer ≡ measured e s p b >> block_written e s p b buffer
    punched-in-sequence = sym written-as-punched ∙ written-measured
