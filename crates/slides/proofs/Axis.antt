-- An axis's place is its last setting and the sum of what was added since.
use Prim.Native.Nat.{ℕ, ◌<◌}
use mathlib.Core.Path.{◌≡◌, refl, sym, ap, ◌∙◌, subst}
use mathlib.Core.Logic.{◌↔◌}
use mathlib.Core.Bool.{Bool, true, false, cond}
use mathlib.Core.List.{List, [], ◌∷◌, ◌++◌, map}
use native.Mathlib.Omega.{arith}
use lib.Dec.{eqb}
use lib.IntN.{ℤ, pos, ◌+ℤ◌, +ℤ_idl, +ℤ_idr, +ℤ_assoc}
use lib.ListN.{length, set, length-set, get_or-replicate}
use lib.Seq.{get_or-set_same, get_or-set_other}
use borrow.Author.Tests.{eqb-true, eqb-false}
use Rattle.words.specs.declared.Word.{Word}
use Rattle.reading.specs.declared.Block.{Block}
use Rattle.reading.specs.Record.{words_of}
use Rattle.slides.specs.declared.Slides.{Slides}
use Rattle.slides.specs.declared.Rule.{Rule}
use Rattle.slides.specs.declared.Motion.{Motion}
use Rattle.std.specs.Prelude.{Option, Some, None}
use Rattle.slides.specs.Axes.{axes, of}
use Rattle.slides.specs.Moves.{motion_of, adds, put, placed, moved, chosen, counts, start}
use Rattle.slides.specs.History.{words_moved, block_moved, history, Act, sets, adding, act_by, act_of, acts_in, acts_of, sum, Stands, never_set, last_set}

-- ---- acts, one behind another

-- where an axis stands behind some acts, from a place
abbrev stand : List Act → ℤ → ℤ
stand [] z = z
stand (sets x ∷ acts) z = stand acts x
stand (adding x ∷ acts) z = stand acts (z +ℤ x)

stand-append : (acts behind : List Act) (z : ℤ) → stand (acts ++ behind) z ≡ stand behind (stand acts z)
stand-append [] behind z = refl
stand-append (sets x ∷ acts) behind z = stand-append acts behind x
stand-append (adding x ∷ acts) behind z = stand-append acts behind (z +ℤ x)

stand-adding : (xs : List ℤ) (z : ℤ) → stand (map adding xs) z ≡ z +ℤ sum xs
stand-adding [] z = sym (+ℤ_idr z)
stand-adding (x ∷ xs) z = stand-adding xs (z +ℤ x) ∙ +ℤ_assoc z x (sum xs)

-- what they say is where they leave it, from zero
stands_at : {acts : List Act} {z : ℤ} → Stands acts z → stand acts (pos 0) ≡ z
stands_at (never_set xs) = stand-adding xs (pos 0) ∙ +ℤ_idl (sum xs)
stands_at (last_set before z xs) = stand-append before (sets z ∷ map adding xs) (pos 0) ∙ stand-adding xs z

-- and they always say a place
one_more : (x : Act) {acts : List Act} {z : ℤ} → Stands acts z → (y : ℤ) × Stands (x ∷ acts) y
one_more (sets y) (never_set xs) = (y +ℤ sum xs, last_set [] y xs)
one_more (adding y) (never_set xs) = (sum (y ∷ xs), never_set (y ∷ xs))
one_more x (last_set before z xs) = (z +ℤ sum xs, last_set (x ∷ before) z xs)

says : (acts : List Act) → (z : ℤ) × Stands acts z
says [] = (pos 0, never_set [])
says (x ∷ acts) = one_more x (says acts).1

-- the acts of an axis say one place
pub one_place : {acts : List Act} {y z : ℤ} → Stands acts y → Stands acts z → y ≡ z
one_place p q = sym (stands_at p) ∙ stands_at q

-- ---- the words of a block

module _ (r : Rule) (a : ℕ) (axis : a < length axes) where
  moved-long : (increments : Bool) (zs : List ℤ) (m : Option Motion) → length (moved r increments zs m) ≡ length zs
  moved-long increments zs None = refl
  moved-long increments zs (Some m) = length-set zs m.axis (placed r increments zs m.axis m.value)

  act-puts : (adds : Bool) (z x : ℤ) → stand (act_by adds x ∷ []) z ≡ put adds z x
  act-puts true z x = refl
  act-puts false z x = refl

  motion : (increments : Bool) (zs : List ℤ) → length zs ≡ length axes → (m : Option Motion) → of (moved r increments zs m) a ≡ stand (act_of r increments a m) (of zs a)
  motion increments zs long None = refl
  motion increments zs long (Some m) = by (eqb a m.axis) refl
    where
      b : ℕ
      b = m.axis

      x : ℤ
      x = m.value

      by : (t : Bool) → eqb a b ≡ t
          → of (set zs b (placed r increments zs b x)) a ≡ stand (cond t (act_by (adds r increments b) x ∷ []) []) (of zs a)
      by true e =
          let q = eqb-true a b e in
          rw (← q) (get_or-set_same zs a (placed r increments zs a x) (pos 0) (omega arith) ∙ sym (act-puts (adds r increments a) (of zs a) x))
      by false e = get_or-set_other zs b a (placed r increments zs b x) (pos 0) (eqb-false a b e)

  words_long : (increments : Bool) (ws : List Word) (zs : List ℤ) → length (words_moved r increments ws zs) ≡ length zs
  unfolding words_moved
  words_long increments [] zs = refl
  words_long increments (w ∷ ws) zs = words_long increments ws (moved r increments zs (motion_of w)) ∙ moved-long increments zs (motion_of w)

  words-stand : (increments : Bool) (ws : List Word) (zs : List ℤ) → length zs ≡ length axes
      → of (words_moved r increments ws zs) a ≡ stand (acts_in r increments a ws) (of zs a)
  unfolding words_moved
  words-stand increments [] zs long = refl
  words-stand increments (w ∷ ws) zs long =
      words-stand increments ws (moved r increments zs (motion_of w)) (moved-long increments zs (motion_of w) ∙ long)
      ∙ ap (stand (acts_in r increments a ws)) (motion increments zs long (motion_of w))
      ∙ sym (stand-append (act_of r increments a (motion_of w)) (acts_in r increments a ws) (of zs a))

  -- ---- some blocks

  blocks-stand : (bs : List Block) (s : Slides) → length s.places ≡ length axes
      → of (history r bs s).places a ≡ stand (acts_of r a s.increments bs) (of s.places a)
  unfolding history acts_of
  blocks-stand [] s long = refl
  blocks-stand (b ∷ bs) s long = by (counts r b) refl (blocks-stand bs)
    where
      by : (t : Bool) → counts r b ≡ t
          → ((v : Slides) → length v.places ≡ length axes → of (history r bs v).places a ≡ stand (acts_of r a v.increments bs) (of v.places a))
          → of (history r bs (block_moved r b s)).places a ≡ stand (cond t (acts_in r (chosen r (words_of b) s.increments) a (words_of b) ++ acts_of r a (chosen r (words_of b) s.increments) bs) (acts_of r a s.increments bs)) (of s.places a)
      by true e h =
          let now = chosen r (words_of b) s.increments in
          rw e (h (record { places = words_moved r now (words_of b) s.places; increments = now }) (words_long now (words_of b) s.places ∙ long)
          ∙ ap (stand (acts_of r a now bs)) (words-stand now (words_of b) s.places long)
          ∙ sym (stand-append (acts_in r now a (words_of b)) (acts_of r a now bs) (of s.places a)))
      by false e h = rw e (h s long)

-- and that place is the one that the history gives
pub one-axis : (r : Rule) (bs : List Block) (a : ℕ) → a < length axes → (z : ℤ) → (of (history r bs start).places a ≡ z) ↔ Stands (acts_of r a start.increments bs) z
one-axis r bs a axis z =
    let at = blocks-stand r a axis bs start refl ∙ ap (stand (acts_of r a false bs)) (get_or-replicate (length axes) a (pos 0) (pos 0) axis) in
    let all = says (acts_of r a false bs) in
    (λ e. subst (λ (y : ℤ). Stands (acts_of r a false bs) y) (sym (stands_at all.1) ∙ sym at ∙ e) all.1, λ h. at ∙ stands_at h)
