-- A record that no row of the table refuses stands, as the rows punched for it, in reading's relation; and which refusals a record can have.
use Prim.Native.Nat.{ℕ, suc, ◌+◌, ◌^◌, ◌≤◌, ◌<◌}
use mathlib.Core.Path.{◌≡◌, refl, sym, ◌∙◌, subst}
use mathlib.Core.Bool.{Bool, true, false, ◌&&◌, not, cond, false≢true}
use mathlib.Core.List.{List, [], ◌∷◌, ◌++◌, append-nil, append_assoc}
use native.Mathlib.Omega.{arith}
use lib.Dec.{T, eqb, leb, ltb}
use lib.IntN.{ℤ, pos, negsuc, nat_abs}
use lib.ListN.{length, length-take}
use borrow.Author.Tests.{ltb-true, ltb-false, leb-true, leb-false, eqb-true}
use Rattle.rows.specs.Row.{among}
use Rattle.rows.specs.Answer.{taken, refused, ◌>>◌}
use Rattle.rows.proofs.Outcomes.{Holds, refusal, value, holds-map, of-taken, of-refused}
use Rattle.std.specs.Prelude.{Option}
use Rattle.std.specs.Prelude.{None, Some}
use Rattle.speeds.specs.declared.Speed.{Speed}
use Rattle.speeds.specs.Coding.{exact_for}
use Rattle.speeds.proofs.ExactCode.{exact-means}
use Rattle.shorthand.specs.declared.Missing.{Missing}
use Rattle.shorthand.specs.declared.Missing.TheVariants.{Nothing, Leading, Trailing}
use Rattle.shorthand.specs.declared.Kind.{Kind}
use Rattle.shorthand.specs.declared.Kind.TheVariants.{Plain}
use Rattle.shorthand.specs.declared.Item.{Item}
use Rattle.shorthand.specs.declared.Format.{Format}
use Rattle.shorthand.specs.Layout.{items_of, width, Way, way_of, Sign, barred, required, optional, sign_of}
use Rattle.shorthand.specs.Facts.{Widths, Fair, more, Facts}
use Rattle.words.specs.declared.Value.{Value}
use Rattle.words.specs.declared.Value.TheVariants.{Number}
use Rattle.words.specs.declared.Word.{Word}
use Rattle.reading.specs.declared.Block.{Block}
use Rattle.parts.specs.declared.Begun.{Begun}
use Rattle.reading.specs.Record.{start_of, is_empty, words_of}
use Rattle.words.specs.Figures.{may_stand}
use Rattle.reading.specs.Relation.{digits, Punched, in_full, front, back, Signed, never, plus, minus_stands, plus_stands, Data, number, speed, dimension, word, address, tab, Words, done, out, here, lf, skip_rows, start_rows, Start, counted, bare, Blocked, block}
use Rattle.reading.proofs.DigitRows.{digits-length}
use Rattle.punching.specs.Rows.{minus, sign_rows, code_rows, data_rows, word_rows, block_chars, cleared_start, cleared}
use Rattle.punching.specs.Fits.{Fit, unless, coded, value_fits, sequence_fits, words_fit, record_fits}

-- ---- the data of a word at full length

full : (m : Missing) (n v : ℕ) → 1 ≤ n → v < 10 ^ n → Punched n v m (digits n v)
full Nothing n v some h = in_full h
full Leading n v some h = front {ds = digits n v} 0 h refl (omega (arith, digits-length n v))
full Trailing n v some h = back {ds = digits n v} 0 h (sym (append-nil (digits n v))) (omega (arith, digits-length n v))

-- a number that is negative only where a sign may stand has its sign there
signs : (s : Sign) (z : ℤ) → not (minus z && not (may_stand s)) ≡ true → Signed (nat_abs z) s z (sign_rows s z)
signs barred (pos n) h = never
signs barred (negsuc n) h = let e : ◌≡◌ {A = ℕ} 0 1 = cc in absurd (omega arith)
signs required (pos n) h = plus
signs required (negsuc n) h = Signed.minus
signs optional (pos n) h = plus_stands
signs optional (negsuc n) h = minus_stands

both : (a b : Bool) → (a && b) ≡ true → (a ≡ true) × (b ≡ true)
both true b e = (refl, e)
both false b e = let z : ◌≡◌ {A = ℕ} 0 1 = cc in absurd (omega arith)

-- ---- words at their items

abbrev Stand : Way → List Item → List Word → Type 0
Stand y its ws = Fair its → Words y its ws (word_rows y its ws)

at_item : (y : Way) (it : Item) (its : List Item) (w : Word) (ws : List Word) → w.letter ≡ it.letter → (Widths it.kind → Data it.kind w.value (data_rows it.kind w.value))
    → Stand y its ws → Fair (it ∷ its) → Words y (it ∷ its) (w ∷ ws) (tab y ++ (address y it ++ (data_rows it.kind w.value ++ word_rows y its ws)))
at_item y it its w ws e d h (more l width new fair) =
    subst (λ (c : ℕ). Words y (it ∷ its) (record { letter = c; value = w.value } ∷ ws) (tab y ++ (address y it ++ (data_rows it.kind w.value ++ word_rows y its ws))))
    (sym e)
    (rw (← append_assoc (address y it) (data_rows it.kind w.value) (word_rows y its ws)) (here (word (d width)) (h fair)))

past-item : (y : Way) (it : Item) (its : List Item) (ws : List Word) → Stand y its ws → Fair (it ∷ its) → Words y (it ∷ its) ws (tab y ++ word_rows y its ws)
past-item y it its ws h (more l width new fair) = out (h fair)

-- ---- a refusal, or what stands

-- the refusals of a word
abbrev pub WordRefusal : ℕ → Type 0
WordRefusal n = T (among n (16 ∷ 17 ∷ 18 ∷ []))

module _ {Q : ℕ → ℕ → Type 0} where
  tested : (ok : Bool) (n p : ℕ) → (ok ≡ false → Q n p) → Holds Q (λ _. ok ≡ true) (unless ok n p)
  tested true n p q = value refl
  tested false n p q = refusal (q refl)

  fits-then : {P R : Unit {0} → Type 0} {x y : Fit} → Holds Q P x → (P tt → Holds Q R y) → Holds Q R (x >> y)
  fits-then (refusal h) f = refusal h
  fits-then (value h) f = f h

  code_fits : (i k : ℕ) (v : Speed) (x : Option ℕ) → exact_for k v ≡ x → Q 18 i → Holds Q (λ _. Data (Kind.Speed k) (Value.Speed v) (code_rows k x)) (coded i x)
  code_fits i k v (Some c) e q = value (speed c (exact-means k v c e))
  code_fits i k v None e q = refusal q

  value-fits : (i : ℕ) → ((n : ℕ) → WordRefusal n → Q n i) → (k : Kind) (v : Value) → Holds Q (λ _. Widths k → Data k v (data_rows k v)) (value_fits i k v)
  value-fits i q (Plain n) (Number v) = holds-map (λ _ h w. number (in_full (ltb-true v (10 ^ n) h))) (tested (ltb v (10 ^ n)) 17 i (λ _. q 17 tt))
  value-fits i q (Plain n) (Value.Dimension z) = refusal (q 16 tt)
  value-fits i q (Plain n) (Value.Speed v) = refusal (q 16 tt)
  value-fits i q (Kind.Speed k) (Number v) = refusal (q 16 tt)
  value-fits i q (Kind.Speed k) (Value.Dimension z) = refusal (q 16 tt)
  value-fits i q (Kind.Speed k) (Value.Speed v) = holds-map (λ _ h w. h) (code_fits i k v (exact_for k v) refl (q 18 tt))
  value-fits i q (Kind.Dimension d) (Number v) = refusal (q 16 tt)
  value-fits i q (Kind.Dimension d) (Value.Dimension z) =
      holds-map
      (λ _ h w. let p = both (ltb (nat_abs z) (10 ^ width (Kind.Dimension d))) _ h in
      dimension (signs (sign_of (Kind.Dimension d)) z p.1) (full d.missing (d.before + d.after) (nat_abs z) w.2 (ltb-true _ _ p.0)))
      (tested _ 17 i (λ _. q 17 tt))
  value-fits i q (Kind.Dimension d) (Value.Speed v) = refusal (q 16 tt)

  -- the word w at the item it, with what holds of the words behind it, or of it and them at the later items
  next_word : (y : Way) (i : ℕ) (it : Item) (its : List Item) (w : Word) (ws : List Word) → ((n : ℕ) → WordRefusal n → Q n i)
      → Holds Q (λ _. Stand y its ws) (words_fit (suc i) its ws) → Holds Q (λ _. Stand y its (w ∷ ws)) (words_fit i its (w ∷ ws)) → (x : Bool) → eqb w.letter it.letter ≡ x
      → Holds Q
      (λ _. Fair (it ∷ its)
      → Words y (it ∷ its) (w ∷ ws) (tab y ++ cond x (address y it ++ (data_rows it.kind w.value ++ word_rows y its ws)) (word_rows y its (w ∷ ws))))
      (cond x (value_fits i it.kind w.value >> words_fit (suc i) its ws) (words_fit i its (w ∷ ws)))
  next_word y i it its w ws q behind later true e =
      fits-then (value-fits i q it.kind w.value) (λ d. holds-map (λ _ h. at_item y it its w ws (eqb-true _ _ e) d h) behind)
  next_word y i it its w ws q behind later false e = holds-map (λ _ h. past-item y it its (w ∷ ws) h) later

  -- words among the items still to come, the first of them word i
  words-fit : (y : Way) (i : ℕ) (its : List Item) (ws : List Word) → ((n p : ℕ) → WordRefusal n → i ≤ p → p < i + length ws → Q n p)
      → Holds Q (λ _. Stand y its ws) (words_fit i its ws)
  unfolding word_rows words_fit
  words-fit y i its [] q = value (λ fair. done)
  words-fit y i [] (w ∷ ws) q = refusal (q 16 i tt (omega arith) (omega arith))
  words-fit y i (it ∷ its) (w ∷ ws) q =
      next_word y i it its w ws (λ n h. q n i h (omega arith) (omega arith))
      (words-fit y (suc i) its ws (λ n p h l m. q n p h (omega arith) (omega arith)))
      (words-fit y i its (w ∷ ws) q)
      (eqb w.letter it.letter)
      refl

-- ---- a record

-- what a record's refusals can be: 16 at 23 for its count, 17 at 0 for its sequence number, 16 at 0 for a number that is missing, and 16 to 18 at a word, from 1
pub data Fault (f : Format) (b : Block) : ℕ → ℕ → Type 0 where
  crowded : 22 < b.count → Fault f b 16 23
  too_large : b.count ≤ 22 → b.numbered ≡ true → 10 ^ f.sequence ≤ b.sequence → Fault f b 17 0
  missing : b.count ≤ 22 → b.numbered ≡ false → (f.unnumbered && not b.alignment && not (is_empty (start_of b) (words_of b))) ≡ false → Fault f b 16 0
  at_word : {n p : ℕ} → b.count ≤ 22 → WordRefusal n → 1 ≤ p → p ≤ b.count → Fault f b n p

-- a start that fits, of a block that is not empty
abbrev Begins : Format → Begun → List Word → Type 0
Begins f s ws = Start f (cleared_start s) × (is_empty (cleared_start s) ws ≡ false)

-- the rows of a start that is cleared are its own
cleared-rows : (d : ℕ) (s : Begun) → start_rows d (cleared_start s) ≡ start_rows d s
cleared-rows d s = by s.numbered
  where
    by : (x : Bool) → skip_rows s.skip ++ cond x (cond s.alignment 58 78 ∷ digits d (cond x s.sequence 0)) [] ≡ skip_rows s.skip ++ cond x (cond s.alignment 58 78 ∷ digits d s.sequence) []
    by true = refl
    by false = refl

-- one with a number never is
numbered-said : (s : Begun) (ws : List Word) → s.numbered ≡ true → is_empty s ws ≡ false
numbered-said s [] e = rw e
numbered-said s (w ∷ ws) e = refl

-- whether it is does not hang on what is cleared
pub empty-cleared : (s : Begun) (ws : List Word) → is_empty (cleared_start s) ws ≡ is_empty s ws
empty-cleared s [] = refl
empty-cleared s (w ∷ ws) = refl

not_so : (a : Bool) → not a ≡ true → a ≡ false
not_so true n = absurd (false≢true n)
not_so false n = refl

sequence-fits : (f : Format) (b : Block) → b.count ≤ 22 → Holds (Fault f b) (λ _. Begins f (start_of b) (words_of b)) (sequence_fits f b)
sequence-fits f b few = by b.numbered refl
  where
    by : (x : Bool) → b.numbered ≡ x
        → Holds (Fault f b) (λ _. Begins f (start_of b) (words_of b)) (cond x (unless (ltb b.sequence (10 ^ f.sequence)) 17 0) (unless (f.unnumbered && not b.alignment && not (is_empty (start_of b) (words_of b))) 16 0))
    by true e =
        holds-map (λ _ h. (rw e (counted b.skip b.alignment (ltb-true _ _ h)), numbered-said (cleared_start (start_of b)) (words_of b) e))
        (tested (ltb b.sequence (10 ^ f.sequence)) 17 0 (λ n. too_large few e (ltb-false _ _ n)))
    by false e =
        holds-map
        (λ _ h. let p = both (f.unnumbered && not b.alignment) _ h in
        let q = both f.unnumbered _ p.0 in
        (rw (e, not_so b.alignment q.1) (bare b.skip q.0), empty-cleared (start_of b) (words_of b) ∙ not_so _ p.1))
        (tested _ 16 0 (λ n. missing few e n))

record-fits : (f : Format) (b : Block) → Holds (Fault f b) (λ _. Facts f → Blocked f (cleared b) (block_chars f b)) (record_fits f b)
unfolding record_fits block_chars
record-fits f b =
    fits-then (tested (leb b.count 22) 16 23 (λ e. crowded (leb-false _ _ e)))
    (λ c. let few = leb-true b.count 22 c in
    fits-then (sequence-fits f b few)
    (λ s. holds-map
    (λ _ h facts. subst (λ x. Blocked f (cleared b) (x ++ (word_rows (way_of f) (items_of f) (words_of b) ++ (10 ∷ [])))) (cleared-rows f.sequence (start_of b)) (block s.0 s.1 (h facts.fair) lf))
    (words-fit (way_of f) 1 (items_of f) (words_of b) (λ n p h l m. at_word few h l (omega (arith, simp length-take at m))))))

-- the rows of a record that no row of the table refuses stand as that record with its unused places cleared
pub punched-stands : (f : Format) → Facts f → (b : Block) → record_fits f b ≡ taken tt → Blocked f (cleared b) (block_chars f b)
punched-stands f facts b e = of-taken (record-fits f b) e facts

pub record-refused : (f : Format) (b : Block) (n p : ℕ) → record_fits f b ≡ refused n p → Fault f b n p
record-refused f b n p e = of-refused (record-fits f b) e
