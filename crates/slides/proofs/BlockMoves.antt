-- What one block does to the axes, sentence by sentence (document 02, 11/12).
use Prim.Native.Nat.{ℕ, zero, suc, ◌-◌, ◌<◌, zero-le, suc-le-suc}
use native.Mathlib.Nat.{le_of_suc-le-suc, not-suc-le-zero}
use native.Mathlib.Omega.{arith}
use mathlib.Core.Path.{◌≡◌, refl, sym, ap, ◌∙◌}
use mathlib.Core.Bool.{Bool, true, false, ◌&&◌, not, cond, or-false}
use mathlib.Core.List.{List, [], ◌∷◌, ◌++◌, map}
use lib.Dec.{T, T_not, eqb, ltb}
use lib.IntN.{ℤ, pos}
use lib.ListN.{length, get_or, length-set}
use lib.Seq.{get_or-set_same, get_or-set_other}
use borrow.Author.Tests.{eq-eqb, ne_eqb, lt-ltb}
use Rattle.rows.specs.Answer.{taken}
use Rattle.rows.specs.Passes.{Every}
use Rattle.rows.specs.Row.{among}
use Rattle.shorthand.specs.declared.Edition.{Edition}
use Rattle.shorthand.specs.declared.Edition.TheVariants.{Iso1057, Iso2539}
use Rattle.shorthand.specs.declared.Item.{Item}
use Rattle.shorthand.specs.declared.Format.{Format}
use Rattle.shorthand.specs.Edition.{any_of}
use Rattle.shorthand.specs.Facts.{Fair, none, more, Facts}
use Rattle.shorthand.specs.Layout.{items_of}
use Rattle.shorthand.proofs.Tests.{first, second, neither, fails}
use Rattle.profile.specs.Form.{Slot, form_of, Fills, none, stands, left}
use Rattle.profile.specs.Agreement.{said_in, is_increment}
use Rattle.profile.specs.Answers.{filled, any_item}
use Rattle.profile.proofs.Filling.{filled-fills}
use Rattle.profile.proofs.Profiles.{form-plain}
use Rattle.words.specs.declared.Value.{Value}
use Rattle.words.specs.declared.Value.TheVariants.{Number, Speed, Dimension}
use Rattle.words.specs.declared.Word.{Word}
use Rattle.reading.specs.declared.Block.{Block}
use Rattle.reading.specs.Record.{words_of}
use Rattle.slides.specs.declared.Travel.{Travel}
use Rattle.slides.specs.declared.Slides.{Slides}
use Rattle.slides.specs.declared.Rule.{Rule}
use Rattle.slides.specs.declared.Motion.{Motion}
use Rattle.std.specs.Prelude.{Option, Some, None}
use Rattle.slides.specs.Axes.{axes, axis_of, of}
use Rattle.slides.specs.Moves.{choosing, is_delta, rule_of, motion_by, chosen_by, motion_of, put, adds, placed, moved, chosen_in, chosen, counts}
use Rattle.slides.specs.History.{words_moved, block_moved}
use Rattle.slides.proofs.AxisLists.{axis-of-letter, other-axis, map_at}

-- none of some words has the letter c
abbrev pub Without : ℕ → List Word → Type 0
Without c ws = Every (λ w. eqb w.letter c ≡ false) ws

-- one word alone of some has the letter c, with this value
pub record Alone (c : ℕ) (w : Word) (ws : List Word) : Type 0 where
  pub letter : w.letter ≡ c
  pub before : List Word
  pub behind : List Word
  pub words : ws ≡ before ++ (w ∷ behind)
  pub none_before : Without c before
  pub none_behind : Without c behind

-- ---- one word, and the words of a block

module _ (r : Rule) (increments : Bool) where
  length_moved : (zs : List ℤ) (m : Option Motion) → length (moved r increments zs m) ≡ length zs
  length_moved zs None = refl
  length_moved zs (Some m) = length-set zs m.axis (placed r increments zs m.axis m.value)

  length-words : (ws : List Word) (zs : List ℤ) → length (words_moved r increments ws zs) ≡ length zs
  unfolding words_moved
  length-words [] zs = refl
  length-words (w ∷ ws) zs = length-words ws (moved r increments zs (motion_of w)) ∙ length_moved zs (motion_of w)

  words_append : (xs ys : List Word) (zs : List ℤ) → words_moved r increments (xs ++ ys) zs ≡ words_moved r increments ys (words_moved r increments xs zs)
  unfolding words_moved
  words_append [] ys zs = refl
  words_append (w ∷ xs) ys zs = words_append xs ys (moved r increments zs (motion_of w))

  module _ (a : ℕ) where
    -- a word with another letter
    unmoved : (c : ℕ) (v : Value) (zs : List ℤ) → eqb c (get_or axes a 0) ≡ false → of (moved r increments zs (motion_by (axis_of c) v)) a ≡ of zs a
    unmoved c (Number n) zs h = refl
    unmoved c (Speed s) zs h = refl
    unmoved c (Dimension x) zs h = by (ltb (axis_of c) (length axes)) refl
      where
        by : (t : Bool) → ltb (axis_of c) (length axes) ≡ t → of (moved r increments zs (cond t (Some (record { axis = axis_of c; value = x })) None)) a ≡ of zs a
        by true q = get_or-set_other zs (axis_of c) a (placed r increments zs (axis_of c) x) (pos 0) (other-axis a c h q)
        by false q = refl

    words-unmoved : (ws : List Word) (zs : List ℤ) → Without (get_or axes a 0) ws → of (words_moved r increments ws zs) a ≡ of zs a
    unfolding words_moved
    words-unmoved [] zs h = refl
    words-unmoved (w ∷ ws) zs h = words-unmoved ws (moved r increments zs (motion_of w)) h.1 ∙ unmoved w.letter w.value zs h.0

    words-first : (w : Word) (ws : List Word) (zs : List ℤ) → Without (get_or axes a 0) ws → of (words_moved r increments (w ∷ ws) zs) a ≡ of (moved r increments zs (motion_of w)) a
    unfolding words_moved
    words-first w ws zs h = words-unmoved ws (moved r increments zs (motion_of w)) h

    -- one word alone with the axis's letter
    words-alone : (w : Word) (ws : List Word) (zs : List ℤ) → Alone (get_or axes a 0) w ws → (z : ℤ)
        → ((ys : List ℤ) → length ys ≡ length zs → of ys a ≡ of zs a → of (moved r increments ys (motion_of w)) a ≡ z) → of (words_moved r increments ws zs) a ≡ z
    words-alone w ws zs h z f =
        let ys = words_moved r increments h.before zs in
        ap (λ l. of (words_moved r increments l zs) a) h.words ∙ ap (λ l. of l a) (words_append h.before (w ∷ h.behind) zs)
        ∙ words-first w h.behind ys h.none_behind ∙ f ys (length-words h.before zs) (words-unmoved h.before zs h.none_before)

    -- a word with the axis's letter
    own : a < length axes → (v : Value) (x : ℤ) (zs : List ℤ) → length zs ≡ length axes → v ≡ Dimension x
        → of (moved r increments zs (motion_by (axis_of (get_or axes a 0)) v)) a ≡ put (adds r increments a) (of zs a) x
    own l v x zs long e = rw (e, axis-of-letter l, lt-ltb a (length axes) l, get_or-set_same zs a (placed r increments zs a x) (pos 0) (omega (arith, long, l)))

-- the places behind a block that counts
if-counts : (r : Rule) (b : Block) (s : Slides) → counts r b ≡ true → (block_moved r b s).places ≡ words_moved r (chosen r (words_of b) s.increments) (words_of b) s.places
if-counts r b s q = rw q

module _ (r : Rule) (b : Block) (s : Slides) (long : length s.places ≡ length axes) (a : ℕ) (axis : a < length axes) where
  -- "An omitted word means no change."
  pub omitted : Without (get_or axes a 0) (words_of b) → of (block_moved r b s).places a ≡ of s.places a
  omitted h = by (counts r b) refl
    where
      by : (x : Bool) → counts r b ≡ x → of (block_moved r b s).places a ≡ of s.places a
      by true q = rw q (words-unmoved r (chosen r (words_of b) s.increments) a (words_of b) s.places h)
      by false q = rw q

  -- a word of the axis sets its place, or adds to it
  pub worded : counts r b ≡ true → (w : Word) (x : ℤ) → w.value ≡ Dimension x → Alone (get_or axes a 0) w (words_of b)
      → of (block_moved r b s).places a ≡ put (adds r (chosen r (words_of b) s.increments) a) (of s.places a) x
  worded counted w x e h =
      let increments = chosen r (words_of b) s.increments in
      let f : (ys : List ℤ) → length ys ≡ length s.places → of ys a ≡ of s.places a → of (moved r increments ys (motion_of w)) a ≡ put (adds r increments a) (of s.places a) x =
      λ ys n same. rw h.letter (own r increments a axis w.value x ys (n ∙ long) e ∙ ap (λ z. put (adds r increments a) z x) same) in
      ap (λ l. of l a) (if-counts r b s counted) ∙ words-alone r increments a w (words_of b) s.places h (put (adds r increments a) (of s.places a) x) f

still : (a : ℕ) (v : Value) → ((x : ℤ) → v ≡ Dimension x → ⊥) → motion_by a v ≡ None
still a (Number n) h = refl
still a (Speed s) h = refl
still a (Dimension x) h = absurd (h x refl)

-- E or D as a feed, and any other word that is no dimension, moves nothing: it is as if it were omitted
module _ (r : Rule) (b : Block) (s : Slides) (a : ℕ) where
  pub feed : counts r b ≡ true → (w : Word) → ((x : ℤ) → w.value ≡ Dimension x → ⊥) → Alone (get_or axes a 0) w (words_of b) → of (block_moved r b s).places a ≡ of s.places a
  feed counted w n h =
      ap (λ l. of l a) (if-counts r b s counted)
      ∙ words-alone r (chosen r (words_of b) s.increments) a w (words_of b) s.places h (of s.places a) (λ ys m same. rw (still (axis_of w.letter) w.value n) same)

-- ---- the marks of items

same-letter : (c : ℕ) → eqb c c ≡ true
same-letter c = eq-eqb c c refl

-- some of the items has the letter c and is a "D" item
abbrev deltas : ℕ → List Item → Bool
deltas c its = any_item (λ it. eqb it.letter c && is_increment it.kind) its

-- among items without the letter c there is none
no-delta : (c : ℕ) (its : List Item) → T (not (any_of (λ d. eqb d c) (map (λ i. i.letter) its))) → deltas c its ≡ false
no-delta c [] h = refl
no-delta c (it ∷ its) h = let n = neither (eqb it.letter c) (any_of (λ d. eqb d c) (map (λ i. i.letter) its)) h in rw (fails (eqb it.letter c) n.0, no-delta c its n.1)

-- and each of them has another letter
other-letter : (c k : ℕ) (its : List Item) (it : Item) → k < length its → get_or its k it ≡ it → T (not (any_of (λ d. eqb d c) (map (λ i. i.letter) its))) → eqb c it.letter ≡ false
other-letter c k [] it l e h = absurd (not-suc-le-zero l)
other-letter c zero (i ∷ its) it l e h = ne_eqb c it.letter (λ q. T_not (eqb i.letter c) (neither (eqb i.letter c) (any_of (λ d. eqb d c) (map (λ j. j.letter) its)) h).0 (rw (e, ← q, same-letter c) tt))
other-letter c (suc k) (i ∷ its) it l e h = other-letter c k its it (le_of_suc-le-suc l) e (neither (eqb i.letter c) (any_of (λ d. eqb d c) (map (λ j. j.letter) its)) h).1

-- the item of a letter alone says whether it adds
one-delta : {its : List Item} → Fair its → (k : ℕ) (it : Item) → k < length its → get_or its k it ≡ it → deltas it.letter its ≡ is_increment it.kind
one-delta none k it l e = absurd (not-suc-le-zero l)
one-delta (more {its = its} letter widths other rest) zero it l e =
    let n : T (not (any_of (λ d. eqb d it.letter) (map (λ j. j.letter) its))) = rw e at other in
    rw (e, same-letter it.letter, no-delta it.letter its n, or-false (is_increment it.kind))
one-delta (more {it = i} {its = its} letter widths other rest) (suc k) it l e =
    rw (other-letter i.letter k its it (le_of_suc-le-suc l) e other) (one-delta rest k it (le_of_suc-le-suc l) e)

-- "+" and unmarked items set the position, "D" items add: by the item of the axis's letter
module _ (f : Format) (facts : Facts f) (p : List ℕ) (t : Travel) (slashed : Bool) where
  pub by-mark : choosing p ≡ false → (k : ℕ) → k < length (items_of f) → (it : Item) → get_or (items_of f) k it ≡ it → (a : ℕ) → a < length axes → it.letter ≡ get_or axes a 0 → (increments : Bool)
      → adds (rule_of f p t slashed) increments a ≡ is_increment it.kind
  by-mark off k l it e a m q increments = rw (off, map_at (is_delta f) axes a 0 false m, ← q) (one-delta facts.fair k it l e)

  -- in a shorthand marked B the mark is not looked at
  pub by-choice : choosing p ≡ true → (a : ℕ) (increments : Bool) → adds (rule_of f p t slashed) increments a ≡ increments
  by-choice on a increments = rw on

-- ---- G90 and G91

chosen-append : (xs ys : List Word) (old : Bool) → chosen_in (xs ++ ys) old ≡ chosen_in ys (chosen_in xs old)
unfolding chosen_in
chosen-append [] ys old = refl
chosen-append (w ∷ xs) ys old = chosen-append xs ys (chosen_by w.letter w.value old)

no-choice : (c : ℕ) (v : Value) (old : Bool) → eqb c 71 ≡ false → chosen_by c v old ≡ old
no-choice c (Number n) old h = rw h
no-choice c (Speed s) old h = refl
no-choice c (Dimension z) old h = refl

none-chosen : (ws : List Word) (old : Bool) → Without 71 ws → chosen_in ws old ≡ old
unfolding chosen_in
none-chosen [] old h = refl
none-chosen (w ∷ ws) old h = none-chosen ws (chosen_by w.letter w.value old) h.1 ∙ no-choice w.letter w.value old h.0

chosen-first : (w : Word) (ws : List Word) (old : Bool) → Without 71 ws → chosen_in (w ∷ ws) old ≡ chosen_by w.letter w.value old
unfolding chosen_in
chosen-first w ws old h = none-chosen ws (chosen_by w.letter w.value old) h

-- the G word alone says what is chosen
chosen-alone : (w : Word) (n : ℕ) (ws : List Word) (old : Bool) → w.value ≡ Number n → Alone 71 w ws → chosen_in ws old ≡ chosen_by 71 (Number n) old
chosen-alone w n ws old e h =
    ap (λ l. chosen_in l old) h.words ∙ chosen-append h.before (w ∷ h.behind) old ∙ ap (chosen_in (w ∷ h.behind)) (none-chosen h.before old h.none_before)
    ∙ chosen-first w h.behind old h.none_behind ∙ rw (h.letter, e)

-- G90 and G91 choose, from their own block on; with neither what was chosen before goes on
module _ (r : Rule) (marked : r.chooses ≡ true) (ws : List Word) (old : Bool) where
  pub g90 : (w : Word) → w.value ≡ Number 90 → Alone 71 w ws → chosen r ws old ≡ false
  g90 w e h = rw marked (chosen-alone w 90 ws old e h)

  pub g91 : (w : Word) → w.value ≡ Number 91 → Alone 71 w ws → chosen r ws old ≡ true
  g91 w e h = rw marked (chosen-alone w 91 ws old e h)

  pub another-g : (w : Word) (n : ℕ) → w.value ≡ Number n → eqb n 90 ≡ false → eqb n 91 ≡ false → Alone 71 w ws → chosen r ws old ≡ old
  another-g w n e p q h = rw marked (chosen-alone w n ws old e h ∙ rw (p, q))

  pub no-g : Without 71 ws → chosen r ws old ≡ old
  no-g h = rw marked (none-chosen ws old h)

-- elsewhere they choose nothing
pub elsewhere : (r : Rule) → r.chooses ≡ false → (ws : List Word) (old : Bool) → chosen r ws old ≡ old
elsewhere r off ws old = rw off

-- a block that does not count leaves all as it was, what was chosen too
pub passed-by : (r : Rule) (b : Block) (s : Slides) → counts r b ≡ false → block_moved r b s ≡ s
passed-by r b s off = rw off

-- ---- the last byte of a profile

-- a form whose last place must hold a byte
abbrev ends : List Slot → Bool
ends [] = false
ends (s ∷ []) = s.must
ends (s ∷ u ∷ ss) = ends (u ∷ ss)

-- a form with no place for c
abbrev lacks : ℕ → List Slot → Bool
lacks c [] = true
lacks c (s ∷ ss) = not (among c s.bytes) && lacks c ss

empty-form : {ss : List Slot} {t bs : List ℕ} → ss ≡ [] → Fills ss t bs → t ≡ []
empty-form q none = refl
empty-form q (stands k r) = let z = ap length q in absurd (omega arith)
empty-form q (left k r) = let z = ap length q in absurd (omega arith)

-- the last byte of a text stands in the last place
last_byte : {ss : List Slot} {t bs : List ℕ} → T (ends ss) → Fills ss t bs → (0 < length t) × (get_or t (length t - 1) 0 ≡ get_or bs (length ss - 1) 0)
last_byte h none = absurd h
last_byte h (stands {ss = []} k r) = rw (empty-form refl r) (suc-le-suc zero-le, refl)
last_byte h (stands {ss = u ∷ ss} {b = b} {t = t} {bs = bs} k r) =
    let n = last_byte h r in
    let e : suc (length t) - 1 ≡ suc (length t - 1) = omega (arith, n.0) in
    let f : suc (suc (length ss)) - 1 ≡ suc (suc (length ss) - 1) = omega arith in
    (suc-le-suc zero-le, ap (λ i. get_or (b ∷ t) i 0) e ∙ n.1 ∙ ap (λ i. get_or (b ∷ bs) i 0) (sym f))
last_byte h (left {s = s} {ss = []} k r) = absurd (T_not s.must k h)
last_byte h (left {ss = u ∷ ss} {bs = bs} k r) =
    let n = last_byte h r in
    let f : suc (suc (length ss)) - 1 ≡ suc (suc (length ss) - 1) = omega arith in
    (n.0, n.1 ∙ ap (λ i. get_or (0 ∷ bs) i 0) (sym f))

-- no place of a text in that form holds c
no_byte : (c : ℕ) {ss : List Slot} {t bs : List ℕ} → eqb 0 c ≡ false → T (lacks c ss) → Fills ss t bs → (i : ℕ) → eqb (get_or t i 0) c ≡ false
no_byte c z h none i = z
no_byte c z h (stands {s = s} {ss = ss} {b = b} k r) zero = ne_eqb b c (λ q. T_not (among c s.bytes) (first (not (among c s.bytes)) (lacks c ss) h) (rw q at k))
no_byte c z h (stands {s = s} {ss = ss} k r) (suc i) = no_byte c z (second (not (among c s.bytes)) (lacks c ss) h) r i
no_byte c z h (left {s = s} {ss = ss} k r) i = no_byte c z (second (not (among c s.bytes)) (lacks c ss) h) r i

-- a shorthand marked B is one whose profile says so in the last place of its form
pub marked-b : (e : Edition) (p bs : List ℕ) → filled (form_of e) 0 p ≡ taken bs → choosing p ≡ eqb (said_in e bs).moves 66
marked-b e p bs q = by e (filled-fills (form_of e) (form-plain e) p bs q)
  where
    by : (e : Edition) → Fills (form_of e) p bs → choosing p ≡ eqb (said_in e bs).moves 66
    by Iso1057 r = no_byte 66 refl tt r (length p - 1)
    by Iso2539 r = ap (λ b. eqb b 66) (last_byte tt r).1
