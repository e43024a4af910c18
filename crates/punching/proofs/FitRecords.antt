-- The records that no row of the table refuses are exactly those that can stand on a tape; whatever is read can be punched.
use Prim.Native.Nat.{ℕ, zero, suc, ◌-◌, ◌^◌, ◌≤◌, ◌<◌, zero-le}
use mathlib.Core.Path.{◌≡◌, refl, ap₂, subst}
use mathlib.Core.Bool.{Bool, true, false, ◌&&◌, not, cond}
use mathlib.Core.Logic.{◌↔◌}
use mathlib.Core.List.{List, [], ◌∷◌, map}
use native.Mathlib.Omega.{arith}
use lib.Dec.{T, T_not, eqb, ltb, eqb_refl}
use lib.IntN.{ℤ, pos, neg_ℤ, nat_abs}
use lib.ListN.{length, replicate, length-take}
use lib.Seq.{take-append_seam}
use borrow.Author.Tests.{lt-ltb, le-leb, eq-eqb, ne_eqb}
use Rattle.rows.specs.Answer.{taken}
use Rattle.rows.specs.Passes.{Every}
use Rattle.rows.specs.Stages.{limit}
use Rattle.speeds.proofs.ExactCode.{means-exact}
use Rattle.shorthand.specs.declared.Missing.{Missing}
use Rattle.shorthand.specs.declared.Kind.{Kind}
use Rattle.shorthand.specs.declared.Item.{Item}
use Rattle.shorthand.specs.declared.Format.{Format}
use Rattle.shorthand.specs.Layout.{Way, Sign, required, optional}
use Rattle.shorthand.specs.Facts.{Fair, Facts}
use Rattle.shorthand.specs.Edition.{any_of}
use Rattle.shorthand.proofs.Tests.{left, right}
use Rattle.profile.proofs.Settling.{settled-facts}
use Rattle.words.specs.declared.Value.{Value}
use Rattle.words.specs.declared.Word.{Word}
use Rattle.parts.specs.declared.Begun.{Begun}
use Rattle.parts.specs.Starts.{unnumbered}
use Rattle.reading.specs.declared.Block.{Block}
use Rattle.reading.specs.Record.{blank, block_of, start_of, is_empty, words_of}
use Rattle.words.specs.Figures.{may_stand}
use Rattle.reading.specs.Relation.{Punched, in_full, front, back, Signed, never, plus, minus_stands, plus_stands, plus_missing, Data, number, speed, dimension, Worded, word, Words, done, out, here, Start, counted, bare, Blocked, block, Blocks, none, more, Program, program, TapeOf}
use Rattle.punching.specs.Rows.{minus, block_chars, cleared_start, cleared}
use Rattle.punching.specs.Fits.{unless, value_fits, sequence_fits, words_fit, record_fits}
use Rattle.punching.proofs.Records.{empty-cleared, punched-stands}
use Rattle.punching.proofs.PunchedTapes.{punched_tape, punched-tape}

-- ---- a word

small : {n v : ℕ} {m : Missing} {ds : List ℕ} → Punched n v m ds → v < 10 ^ n
small (in_full h) = h
small (front j h e some) = h
small (back j h e some) = h

-- a signed value has its magnitude, and is negative only where a sign may stand
record Measured (m : ℕ) (s : Sign) (z : ℤ) : Type 0 where
  size : nat_abs z ≡ m
  sign : not (minus z && not (may_stand s)) ≡ true

opposite : (m : ℕ) (s : Sign) → may_stand s ≡ true → Measured m s (neg_ℤ (pos m))
opposite zero s e = record { size = refl; sign = refl }
opposite (suc m) s e = record { size = refl; sign = rw e }

measured : {m : ℕ} {s : Sign} {z : ℤ} {x : List ℕ} → Signed m s z x → Measured m s z
measured never = record { size = refl; sign = refl }
measured plus = record { size = refl; sign = refl }
measured {m} Signed.minus = opposite m required refl
measured plus_stands = record { size = refl; sign = refl }
measured {m} minus_stands = opposite m optional refl
measured plus_missing = record { size = refl; sign = refl }

value-fit : {k : Kind} {v : Value} {ds : List ℕ} → Data k v ds → (i : ℕ) → value_fits i k v ≡ taken tt
value-fit (number p) i = rw (lt-ltb _ _ (small p))
value-fit (speed {k = k} {v = v} c e) i = rw (means-exact k v c e)
value-fit (dimension {d = d} g p) i = let q = measured g in rw (q.size, lt-ltb _ _ (small p), q.sign)

-- ---- words

word_fit : {y : Way} {it : Item} {w : Word} {d : List ℕ} → Worded y it w d → (i : ℕ) → (w.letter ≡ it.letter) × (value_fits i it.kind w.value ≡ taken tt)
word_fit (word d) i = (refl, value-fit d i)

abbrev has : List Item → ℕ → Bool
has its l = any_of (λ c. eqb c l) (map (λ i. i.letter) its)

-- the first word has the letter of one of the items
first-letter : {y : Way} {its : List Item} {w : Word} {ws : List Word} {r : List ℕ} → Words y its (w ∷ ws) r → T (has its w.letter)
first-letter {w = w} (out {it = it} {its = its} h) = right (eqb it.letter w.letter) (has its w.letter) (first-letter h)
first-letter {w = w} (here {it = it} {its = its} x h) = left (eqb it.letter w.letter) (has its w.letter) (rw (word_fit x 0).0 (eqb_refl it.letter))

-- no letter stands twice, so an item whose word is left out is passed by
passed : {y : Way} {its : List Item} {r : List ℕ} (i : ℕ) (it : Item) (ws : List Word) → T (not (has its it.letter)) → Words y its ws r
    → words_fit i its ws ≡ taken tt → words_fit i (it ∷ its) ws ≡ taken tt
unfolding words_fit
passed i it [] new h e = e
passed {its = its} i it (w ∷ ws) new h e =
    let other = ne_eqb w.letter it.letter (λ q. T_not (has its it.letter) new (rw q at (first-letter h))) in
    rw other e

words-fit : {y : Way} {its : List Item} {ws : List Word} {r : List ℕ} → Fair its → Words y its ws r → (i : ℕ) → words_fit i its ws ≡ taken tt
unfolding words_fit
words-fit fair done i = refl
words-fit (Fair.more l w new fair) (out {it = it} {ws = ws} h) i = passed i it ws new h (words-fit fair h i)
words-fit (Fair.more l w new fair) (here x h) i = let f = word_fit x i in rw (eq-eqb _ _ f.0, f.1) (words-fit fair h (suc i))

few_words : {y : Way} {its : List Item} {ws : List Word} {r : List ℕ} → Words y its ws r → length ws ≤ length its
few_words done = zero-le
few_words (out h) = omega (arith, few_words h)
few_words (here x h) = omega (arith, few_words h)

-- ---- a record

words-of : (s : Begun) (ws : List Word) → words_of (block_of s ws) ≡ ws
words-of s ws = take-append_seam ws (replicate (22 - length ws) blank)

start-cleared : {f : Format} {s : Begun} → Start f s → cleared_start s ≡ s
start-cleared (counted skip alignment h) = refl
start-cleared (bare skip h) = refl

-- a block that stands as some rows has all cleared that the punch doesn't look at
pub block-cleared : {f : Format} {b : Block} {r : List ℕ} → Blocked f b r → cleared b ≡ b
block-cleared (block {s} {ws} start some w e) = ap₂ block_of (start-cleared start) (words-of s ws)

-- its start fits
start-fit : {f : Format} {s : Begun} (ws : List Word) → Start f s → is_empty s ws ≡ false → sequence_fits f (block_of s ws) ≡ taken tt
start-fit ws (counted skip alignment h) some = rw (lt-ltb _ _ h)
start-fit ws (bare skip h) some = rw (h, words-of (unnumbered skip) ws, some)

module _ {f : Format} (facts : Facts f) where
  -- and is refused by no row of the table
  pub block_fit : {b : Block} {r : List ℕ} → Blocked f b r → record_fits f b ≡ taken tt
  unfolding record_fits
  block_fit (block {s} {ws} start some w e) =
      let few : length ws ≤ 22 = omega (arith, few_words w, length-take f.count f.items, facts.few) in
      rw (le-leb _ _ few, start-fit ws start some, words-of s ws) (words-fit facts.fair w 1)

  -- clearing leaves the sequence as fit as it was
  sequence-cleared : (f : Format) (b : Block) → sequence_fits f (cleared b) ≡ sequence_fits f b
  sequence-cleared f b = rw (words-of (cleared_start (start_of b)) (words_of b), empty-cleared (start_of b) (words_of b)) (by b.numbered)
    where
      by : (x : Bool) → cond x (unless (ltb (cond x b.sequence 0) (10 ^ f.sequence)) 17 0) (unless (f.unnumbered && not b.alignment && not (is_empty (start_of b) (words_of b))) 16 0)
          ≡ cond x (unless (ltb b.sequence (10 ^ f.sequence)) 17 0) (unless (f.unnumbered && not b.alignment && not (is_empty (start_of b) (words_of b))) 16 0)
      by true = refl
      by false = refl

  -- of records with a fit count, exactly those are taken that can stand as some rows
  pub fit-exactly : (b : Block) → b.count ≤ 22 → (record_fits f b ≡ taken tt) ↔ ((r : List ℕ) × Blocked f (cleared b) r)
  unfolding record_fits
  fit-exactly b few = (
    λ e. (block_chars f b, punched-stands f facts b e),
    λ h.
        let less : length (words_of b) ≤ 22 = omega (arith, length-take b.count b.words) in
        let same = words-of (cleared_start (start_of b)) (words_of b) in
        rw (le-leb b.count 22 few) (rw (le-leb (length (words_of b)) 22 less, sequence-cleared f b, same) at (block_fit h.1)),
  )

  -- ---- what is read can be punched

  blocks-fit : {bs : List Block} {r : List ℕ} → Blocks f bs r → Every (λ b. record_fits f b ≡ taken tt) bs × (map cleared bs ≡ bs)
  blocks-fit none = (tt, refl)
  blocks-fit (more h m) = let rest = blocks-fit m in ((block_fit h, rest.0), ap₂ (λ b bs. b ∷ bs) (block-cleared h) rest.1)

  pub program-fit : {bs : List Block} {r : List ℕ} → Program f bs r → Every (λ b. record_fits f b ≡ taken tt) bs × (map cleared bs ≡ bs)
  program-fit (program e h) = blocks-fit h

-- the blocks of any tape, punched anew, are within the limit a tape of the same program
pub punched-again : {e : ℕ} {s p : List ℕ} {bs : List Block} {t : List ℕ} (h : TapeOf e s p bs t) → length (punched_tape h.format bs) ≤ limit → TapeOf e s p bs (punched_tape h.format bs)
punched-again {e} {s} {p} {bs} h short =
    let q = program-fit (settled-facts h.settled) h.stands in
    subst (λ (cs : List Block). TapeOf e s p cs (punched_tape h.format bs)) q.1 (punched-tape h.settled bs q.0 short)
