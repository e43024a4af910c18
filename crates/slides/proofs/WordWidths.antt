-- A block that was read has 22 words at most, and none of its dimensions more than 18 digits.
use Prim.Native.Nat.{ℕ, zero, suc, ◌-◌, ◌^◌, ◌≤◌, ◌<◌, zero-le}
use mathlib.Core.Path.{◌≡◌, refl}
use mathlib.Core.Bool.{Bool, true, false, cond}
use mathlib.Core.List.{List}
use native.Mathlib.Nat.{le_of_lt, lt_of_lt_of_le, zero-lt-suc, pow-le-pow_right}
use native.Mathlib.Omega.{arith}
use lib.Dec.{ltb}
use lib.IntN.{ℤ, pos, neg_ℤ, nat_abs}
use lib.ListN.{length, get_or, drop, replicate, length-take}
use lib.Seq.{take-append_seam}
use Rattle.rows.specs.Answer.{Answer, taken, refused, ◌>>◌}
use Rattle.rows.specs.Kept.{kept_at}
use Rattle.rows.specs.Passes.{Every}
use Rattle.rows.specs.Stages.{limit, judged}
use Rattle.shorthand.specs.declared.Missing.{Missing}
use Rattle.shorthand.specs.declared.Kind.{Kind}
use Rattle.shorthand.specs.declared.Item.{Item}
use Rattle.shorthand.specs.declared.Format.{Format}
use Rattle.shorthand.specs.Layout.{Way, Sign}
use Rattle.shorthand.specs.Facts.{Widths, Fair, Facts}
use Rattle.words.specs.declared.Value.{Value}
use Rattle.words.specs.declared.Word.{Word}
use Rattle.words.proofs.Widths.{width-most}
use Rattle.parts.specs.declared.Begun.{Begun}
use Rattle.reading.specs.declared.Block.{Block}
use Rattle.reading.specs.Record.{blank, block_of, words_of}
use Rattle.reading.specs.Relation.{Punched, in_full, front, back, Signed, never, plus, minus, plus_stands, minus_stands, plus_missing, Data, number, speed, dimension, Worded, word, Words, done, out, here, Blocked, block}
use Rattle.reading.specs.declared.Entry.{Entry}
use Rattle.reading.specs.Parse.{entry, block_at}
use Rattle.reading.specs.Survey.{entry_from}
use Rattle.reading.proofs.Outcomes as outcomes
use Rattle.reading.proofs.Programs.{from-taken}
use Rattle.reading.proofs.Sound.{block-rows}
use Rattle.index.specs.Finding.{shifted, up_to, own_entry, entry_by}
use Rattle.slides.specs.Front.{Near, Full}

-- ---- a word

small : {n v : ℕ} {m : Missing} {ds : List ℕ} → Punched n v m ds → v < 10 ^ n
small (in_full h) = h
small (front j h e some) = h
small (back j h e some) = h

opposite : (m : ℕ) → nat_abs (neg_ℤ (pos m)) ≡ m
opposite zero = refl
opposite (suc m) = refl

size : {m : ℕ} {s : Sign} {z : ℤ} {x : List ℕ} → Signed m s z x → nat_abs z ≡ m
size never = refl
size plus = refl
size {m} minus = opposite m
size plus_stands = refl
size {m} minus_stands = opposite m
size plus_missing = refl

near-value : {k : Kind} {v : Value} {ds : List ℕ} → Widths k → Data k v ds → Near v
near-value w (number p) = tt
near-value w (speed c e) = tt
near-value w (dimension {d = d} g p) = rw (size g) (le_of_lt (lt_of_lt_of_le (small p) (pow-le-pow_right (zero-lt-suc 9) (width-most (Kind.Dimension d) w))))

near_word : {y : Way} {it : Item} {w : Word} {d : List ℕ} → Widths it.kind → Worded y it w d → Near w.value
near_word h (word d) = near-value h d

near-words : {y : Way} {its : List Item} {ws : List Word} {r : List ℕ} → Fair its → Words y its ws r → Every (λ w. Near w.value) ws
near-words fair done = tt
near-words (Fair.more l w new fair) (out h) = near-words fair h
near-words (Fair.more l w new fair) (here x h) = (near_word w x, near-words fair h)

few_words : {y : Way} {its : List Item} {ws : List Word} {r : List ℕ} → Words y its ws r → length ws ≤ length its
few_words done = zero-le
few_words (out h) = omega (arith, few_words h)
few_words (here x h) = omega (arith, few_words h)

-- ---- a block

words-of : (s : Begun) (ws : List Word) → words_of (block_of s ws) ≡ ws
words-of s ws = take-append_seam ws (replicate (22 - length ws) blank)

module _ (f : Format) (facts : Facts f) where
  block-full : {b : Block} {r : List ℕ} → Blocked f b r → Full b
  block-full (block {s} {ws} start some w e) =
      record {
        few = omega (arith, few_words w, length-take f.count f.items, facts.few);
        near = rw (words-of s ws) (near-words facts.fair w);
      }

  -- ---- an entry

  -- the block that begins at a row
  pub entry-full : (t : List ℕ) (i : ℕ) (x : Entry) → entry_from f t i ≡ taken x → Full x.block
  unfolding entry_from
  entry-full t i x e =
      let r = from-taken (block_at (length t) f (kept_at t i)) (λ b. taken (entry i b.value)) x e in
      let same : entry i r.0.value ≡ x = let z = r.2 in cc in
      rw (← same) (block-full (block-rows f (length t) (kept_at t i) r.0 r.1).stands.0)

  own-full : (t : List ℕ) (i : ℕ) (x : Entry) → own_entry f t i ≡ taken x → Full x.block
  own-full t i x = by (judged (drop i t))
    where
      by : (a : Answer (Unit {0})) → (shifted i a >> entry_from f t i) ≡ taken x → Full x.block
      by (taken u) e = entry-full t i x e
      by (refused m p) e = outcomes.never e

  -- and the one that is found by the first rows of all blocks
  pub found-full : (t firsts : List ℕ) (n : ℕ) (x : Entry) → entry_by f t firsts n ≡ taken x → Full x.block
  unfolding entry_by
  found-full t firsts n x = by (ltb limit (length t)) (ltb n (length firsts))
    where
      by : (a b : Bool)
          → (◌>>◌ {A = Unit {0}} (cond a (refused 4 limit) (taken tt)) (cond b (own_entry f (up_to t firsts n) (get_or firsts n 0)) (refused 15 (length firsts)))) ≡ taken x → Full x.block
      by true b e = outcomes.never e
      by false true e = own-full (up_to t firsts n) (get_or firsts n 0) x e
      by false false e = outcomes.never e
