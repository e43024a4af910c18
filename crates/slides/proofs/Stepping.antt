-- Step by step through an index the places are those that follow gives.
use Prim.Native.Nat.{ℕ, zero, suc, ◌+◌, ◌<◌}
use mathlib.Core.Path.{◌≡◌, refl, sym, ap, ◌∙◌}
use mathlib.Core.Bool.{Bool, true, false, cond}
use mathlib.Core.List.{List, [], ◌∷◌, ◌++◌, map, map-append}
use native.Mathlib.Omega.{arith}
use lib.Dec.{ltb}
use lib.IntN.{ℤ}
use lib.ListN.{length, get_or, take, length-set, length-map}
use lib.Seq.{length-take-le, take-suc}
use borrow.Author.Tests.{ltb-true, lt-ltb, not-false}
use Rattle.rows.specs.Answer.{Answer, taken, refused, ◌>>=◌, ◌>>◌}
use Rattle.shorthand.specs.declared.Format.{Format}
use Rattle.shorthand.specs.Facts.{Facts}
use Rattle.profile.specs.Answers.{agreed}
use Rattle.profile.proofs.Settling.{agreed-facts}
use Rattle.words.specs.declared.Value.{Value}
use Rattle.words.specs.declared.Value.TheVariants.{Number, Speed, Dimension}
use Rattle.words.specs.declared.Word.{Word}
use Rattle.reading.specs.declared.Block.{Block}
use Rattle.reading.specs.Record.{words_of}
use Rattle.reading.specs.declared.Entry.{Entry}
use Rattle.reading.specs.Answers.{nowhere, read, read_under}
use Rattle.reading.proofs.Programs.{from-taken, both-taken}
use Rattle.index.specs.Index.{Indexes, firsts_of}
use Rattle.index.proofs.WalkedEntries.{found}
use Rattle.slides.specs.declared.Travel.{Travel}
use Rattle.slides.specs.declared.Slides.{Slides}
use Rattle.slides.specs.declared.Rule.{Rule}
use Rattle.std.specs.Prelude.{Some, None}
use Rattle.slides.specs.Axes.{axes, axis_of, within, sound}
use Rattle.slides.specs.Moves.{motion_by, motion_of, rule_of, placed, moved, leaves, chosen, counts, counted, words_tried, block_tried, followed, start}
use Rattle.slides.specs.Answers.{blocks_to, followed_in, slides_after, stepped_in, slides_stepped}
use Rattle.slides.proofs.Travels.{sound-set}
use Rattle.slides.proofs.Histories.{followed-append, past-15}

-- blocks 0 to n, one step each
abbrev pub steps : ℕ → List ℕ → List ℕ → List ℕ → List ℕ → ℕ → Travel → Bool → Answer Slides
steps e s p t firsts zero tr slashed = slides_stepped e s p t firsts 0 start tr slashed
steps e s p t firsts (suc n) tr slashed = steps e s p t firsts n tr slashed >>= λ sl. slides_stepped e s p t firsts (suc n) sl tr slashed

-- ---- places that can be followed stay so

-- a place for each axis, and none of them beyond
record Kept (t : Travel) (zs : List ℤ) : Type 0 where
  pub long : length zs ≡ length axes
  pub followable : sound t zs ≡ taken tt

module _ (r : Rule) where
  -- a word that does not leave
  word_kept : (increments : Bool) (zs : List ℤ) (w : Word) → Kept r.travel zs → leaves r increments zs (motion_of w) ≡ false → Kept r.travel (moved r increments zs (motion_of w))
  word_kept increments zs w k = by w.value
    where
      moves : (x : ℤ) (b : Bool) → ltb (axis_of w.letter) (length axes) ≡ b → leaves r increments zs (cond b (Some (record { axis = axis_of w.letter; value = x })) None) ≡ false
          → Kept r.travel (moved r increments zs (cond b (Some (record { axis = axis_of w.letter; value = x })) None))
      moves x true q e =
          let a = axis_of w.letter in
          let z = placed r increments zs a x in
          record {
            long = length-set zs a z ∙ k.long;
            followable = sound-set r.travel zs k.followable k.long a (ltb-true a (length axes) q) z (not-false (within r.travel a z) e);
          }
      moves x false q e = k

      by : (v : Value) → leaves r increments zs (motion_by (axis_of w.letter) v) ≡ false → Kept r.travel (moved r increments zs (motion_by (axis_of w.letter) v))
      by (Number n) e = k
      by (Dimension x) e = moves x (ltb (axis_of w.letter) (length axes)) refl e
      by (Speed v) e = k

  words-kept : (increments : Bool) (k : ℕ) (ws : List Word) (zs ys : List ℤ) → Kept r.travel zs → words_tried r increments k ws zs ≡ taken ys → Kept r.travel ys
  unfolding words_tried
  words-kept increments k [] zs ys h e = let same : zs ≡ ys = cc in rw (← same) h
  words-kept increments k (w ∷ ws) zs ys h e = by (leaves r increments zs (motion_of w)) refl e (words-kept increments k ws (moved r increments zs (motion_of w)) ys)
    where
      by : (x : Bool) → leaves r increments zs (motion_of w) ≡ x → cond x (refused 27 k) (words_tried r increments k ws (moved r increments zs (motion_of w))) ≡ taken ys
          → (Kept r.travel (moved r increments zs (motion_of w)) → words_tried r increments k ws (moved r increments zs (motion_of w)) ≡ taken ys → Kept r.travel ys) → Kept r.travel ys
      by true q e go = let z : ◌≡◌ {A = ℕ} 0 1 = cc in absurd (omega arith)
      by false q e go = go (word_kept increments zs w h q) e

  block-kept : (k : ℕ) (b : Block) (s u : Slides) → Kept r.travel s.places → block_tried r k b s ≡ taken u → Kept r.travel u.places
  unfolding block_tried
  block-kept k b s u h e = by (counts r b) e
    where
      by : (x : Bool) → cond x (counted r k (words_of b) s) (taken s) ≡ taken u → Kept r.travel u.places
      by true e =
          let a =
          from-taken (words_tried r (chosen r (words_of b) s.increments) k (words_of b) s.places)
          (λ (zs : List ℤ). taken (record { places = zs; increments = chosen r (words_of b) s.increments })) u e in
          let same : a.0 ≡ u.places = cc a.2 in
          rw (← same) (words-kept (chosen r (words_of b) s.increments) k (words_of b) s.places a.0 h a.1)
      by false e = let same : s ≡ u = cc in rw (← same) h

  followed-kept : (i : ℕ) (bs : List Block) (s u : Slides) → Kept r.travel s.places → followed r i bs s ≡ taken u → Kept r.travel u.places
  unfolding followed
  followed-kept i [] s u h e = let same : s ≡ u = cc in rw (← same) h
  followed-kept i (b ∷ bs) s u h e =
      let a = from-taken (block_tried r i b s) (followed r (suc i) bs) u e in
      followed-kept (suc i) bs a.0 u (block-kept i b s a.0 h a.1) a.2

  -- ---- one block more

  alone : (i : ℕ) (b : Block) (s : Slides) → followed r i (b ∷ []) s ≡ block_tried r i b s
  unfolding followed
  alone i b s = by (block_tried r i b s)
    where
      by : (a : Answer Slides) → (a >>= followed r (suc i) []) ≡ a
      by (taken u) = refl
      by (refused n p) = refl

  module _ (es : List Entry) (n : ℕ) (l : suc n < length es) where
    up_to : blocks_to (suc n) es ≡ blocks_to n es ++ ((get_or es (suc n) nowhere).block ∷ [])
    up_to = ap (map (λ (x : Entry). x.block)) (take-suc es (suc n) nowhere l) ∙ map-append (λ (x : Entry). x.block) (take (suc n) es) (get_or es (suc n) nowhere ∷ [])

    up-long : length (blocks_to n es) ≡ suc n
    up-long = length-map (take (suc n) es) (λ (x : Entry). x.block) ∙ length-take-le (suc n) es (omega arith)

    one_more : followed r 0 (blocks_to (suc n) es) start ≡ (followed r 0 (blocks_to n es) start >>= block_tried r (suc n) (get_or es (suc n) nowhere).block)
    one_more =
        ap (λ bs. followed r 0 bs start) up_to ∙ followed-append r 0 (blocks_to n es) ((get_or es (suc n) nowhere).block ∷ []) start ∙ by (followed r 0 (blocks_to n es) start)
      where
        by : (a : Answer Slides) → (a >>= followed r (0 + length (blocks_to n es)) ((get_or es (suc n) nowhere).block ∷ [])) ≡ (a >>= block_tried r (suc n) (get_or es (suc n) nowhere).block)
        by (taken u) = let at : 0 + length (blocks_to n es) ≡ suc n = omega (arith, up-long) in rw at (alone (suc n) (get_or es (suc n) nowhere).block u)
        by (refused m p) = refl

-- ---- where the axes stand behind block n, and a step

module _ (f : Format) (r : Rule) (t : List ℕ) {es : List Entry} (e : read f t ≡ taken es) (n : ℕ) (l : n < length es) where
  follows : followed_in f r t n ≡ (sound r.travel start.places >> followed r 0 (blocks_to n es) start)
  unfolding followed_in
  follows = rw e (past-15 r n es l)

  steps_on : Facts f → (sl : Slides) → stepped_in f r t (firsts_of es) n sl ≡ (sound r.travel sl.places >> block_tried r n (get_or es n nowhere).block sl)
  unfolding stepped_in
  steps_on facts sl = rw (found f facts t e n, lt-ltb n (length es) l)

module _ (f : Format) (facts : Facts f) (r : Rule) (t : List ℕ) {es : List Entry} (e : read f t ≡ taken es) where
  step_in : (n : ℕ) → suc n < length es → (sl : Slides) → followed_in f r t n ≡ taken sl → stepped_in f r t (firsts_of es) (suc n) sl ≡ followed_in f r t (suc n)
  step_in n l sl q =
      let to = both-taken (sound r.travel start.places) (followed r 0 (blocks_to n es) start) sl (sym (follows f r t e n (omega arith)) ∙ q) in
      let kept = followed-kept r 0 (blocks_to n es) start sl (record { long = refl; followable = to.0 }) to.1 in
      steps_on f r t e (suc n) l facts sl
      ∙ ap (λ a. a >> block_tried r (suc n) (get_or es (suc n) nowhere).block sl) kept.followable
      ∙ sym (follows f r t e (suc n) l ∙ ap (λ a. a >> followed r 0 (blocks_to (suc n) es) start) to.0 ∙ one_more r es n l ∙ ap (λ a. a >>= block_tried r (suc n) (get_or es (suc n) nowhere).block) to.1)

  first-in : 0 < length es → stepped_in f r t (firsts_of es) 0 start ≡ followed_in f r t 0
  first-in l =
      steps_on f r t e 0 l facts start
      ∙ sym (follows f r t e 0 l ∙ ap (λ bs. sound r.travel start.places >> followed r 0 bs start) (ap (map (λ (x : Entry). x.block)) (take-suc es 0 nowhere l))
      ∙ ap (λ a. sound r.travel start.places >> a) (alone r 0 (get_or es 0 nowhere).block start))

  -- from where the axes stand behind block n; a refusal stays
  next-in : (n : ℕ) → suc n < length es → (followed_in f r t n >>= stepped_in f r t (firsts_of es) (suc n)) ≡ followed_in f r t (suc n)
  next-in n l = by (followed_in f r t n) refl
    where
      stays : (a : Answer (Unit {0})) (b : Answer Slides) (g : Slides → Answer Slides) (m p : ℕ) → (a >> b) ≡ refused m p → refused m p ≡ (a >> (b >>= g))
      stays (taken tt) (taken sl) g m p q = let z : ◌≡◌ {A = ℕ} 0 1 = cc in absurd (omega arith)
      stays (taken tt) (refused k i) g m p q = sym q
      stays (refused k i) b g m p q = sym q

      by : (a : Answer Slides) → followed_in f r t n ≡ a → (a >>= stepped_in f r t (firsts_of es) (suc n)) ≡ followed_in f r t (suc n)
      by (taken sl) q = step_in n l sl q
      by (refused m p) q =
          stays (sound r.travel start.places) (followed r 0 (blocks_to n es) start) (block_tried r (suc n) (get_or es (suc n) nowhere).block) m p (sym (follows f r t e n (omega arith)) ∙ q)
          ∙ sym (follows f r t e (suc n) l ∙ ap (λ a. sound r.travel start.places >> a) (one_more r es n l))

module _ (e : ℕ) (s p t : List ℕ) {es : List Entry} (accepted : read_under e s p t ≡ taken es) {firsts numbers : List ℕ} (index : Indexes es firsts numbers) (tr : Travel) (slashed : Bool) where
  read_under_lem : (f : Format) × (agreed e s p ≡ taken f) × (read f t ≡ taken es)
  unfolding read_under
  read_under_lem = from-taken (agreed e s p) (λ f. read f t) es accepted

  -- one step from where the axes stand behind block n
  pub one-step : (n : ℕ) → suc n < length es → (sl : Slides) → slides_after e s p t n tr slashed ≡ taken sl
      → slides_stepped e s p t (take (length es) firsts) (suc n) sl tr slashed ≡ slides_after e s p t (suc n) tr slashed
  unfolding slides_after slides_stepped
  one-step n l sl q =
      let u = read_under_lem in
      rw (u.1, index.rows) (step_in u.0 (agreed-facts e s p u.0 u.1) (rule_of u.0 p tr slashed) t u.2 n l sl (rw u.1 at q))

  -- n steps are follow of n
  pub n-steps : (n : ℕ) → n < length es → steps e s p t (take (length es) firsts) n tr slashed ≡ slides_after e s p t n tr slashed
  unfolding slides_after slides_stepped
  n-steps zero l =
      let u = read_under_lem in
      rw (u.1, index.rows) (first-in u.0 (agreed-facts e s p u.0 u.1) (rule_of u.0 p tr slashed) t u.2 l)
  n-steps (suc n) l =
      let u = read_under_lem in
      rw (n-steps n (omega arith), u.1, index.rows) (next-in u.0 (agreed-facts e s p u.0 u.1) (rule_of u.0 p tr slashed) t u.2 n l)
