-- A block tried: passed by, refused, or gone on from where it leaves the axes; places that can be followed stay so.
use Prim.Native.Nat.{ℕ}
use mathlib.Core.Path.{◌≡◌, refl, ap}
use mathlib.Core.Bool.{Bool, true, false, not, ◌&&◌, ◌||◌, cond}
use mathlib.Core.List.{List, [], ◌∷◌}
use lib.IntN.{ℤ}
use lib.ListN.{set}
use Rattle.rows.specs.Answer.{Answer, taken, refused, value_or, ◌>>=◌}
use Rattle.words.specs.declared.Word.{Word}
use Rattle.reading.specs.declared.Block.{Block}
use Rattle.reading.specs.Record.{words_of}
use Rattle.reading.proofs.Outcomes.{never}
use Rattle.slides.specs.declared.Rule.{Rule}
use Rattle.slides.specs.declared.Slides.{Slides}
use Rattle.slides.specs.declared.Motion.{Motion}
use Rattle.std.specs.Prelude.{Option, Some, None}
use Rattle.slides.specs.Axes.{axis_of, within}
use Rattle.slides.specs.Moves.{motion_of, placed, moved, leaves, chosen, words_tried, counts, counted, block_tried}
use Rattle.slides.proofs.WordMotions.{moved-axis}
use Rattle.slides.proofs.WordTrials.{Sound, sound-put}

-- ---- by the tests

-- a block counts unless it has "/" and the switch is off
counts-test : (skip slashed : Bool) → (not skip || slashed) ≡ not (skip && not slashed)
counts-test true true = refl
counts-test true false = refl
counts-test false slashed = refl

module _ (r : Rule) (k : ℕ) (b : Block) (s : Slides) where
  pub passed-by : (b.skip && not r.slashed) ≡ true → taken s ≡ block_tried r k b s
  unfolding block_tried
  passed-by e = rw (counts-test b.skip r.slashed, e)

  module _ (there : (b.skip && not r.slashed) ≡ false) (increments : Bool) (chose : increments ≡ chosen r (words_of b) s.increments) where
    abbrev after : Answer (List ℤ) → Answer Slides
    after a = a >>= λ zs. taken (record { places = zs; increments = increments })

    pub by-words : (a : Answer (List ℤ)) → a ≡ words_tried r increments k (words_of b) s.places → after a ≡ block_tried r k b s
    unfolding block_tried
    by-words a e = rw (counts-test b.skip r.slashed, there, e, chose)

-- ---- what is kept

module _ (r : Rule) (k : ℕ) where
  words-keep : (increments : Bool) (ws : List Word) (zs us : List ℤ) → Sound r zs → words_tried r increments k ws zs ≡ taken us → Sound r us
  unfolding words_tried
  words-keep increments [] zs us h e = let same : zs ≡ us = cc in rw (← same) h
  words-keep increments (w ∷ ws) zs us h e = by (motion_of w) refl (λ vs g. words-keep increments ws vs us g) e
    where
      by : (m : Option Motion) → motion_of w ≡ m → ((vs : List ℤ) → Sound r vs → words_tried r increments k ws vs ≡ taken us → Sound r us)
          → cond (leaves r increments zs m) (refused 27 k) (words_tried r increments k ws (moved r increments zs m)) ≡ taken us → Sound r us
      by None q turn f = turn zs h f
      by (Some m) q turn f = on (within r.travel m.axis (placed r increments zs m.axis m.value)) refl f
        where
          on : (y : Bool) → within r.travel m.axis (placed r increments zs m.axis m.value) ≡ y → cond (not y) (refused 27 k) (words_tried r increments k ws (moved r increments zs (Some m))) ≡ taken us → Sound r us
          on true p g =
              let to = placed r increments zs m.axis m.value in
              let own = (moved-axis (axis_of w.letter) w.value m q).0 in
              turn (set zs m.axis to) (sound-put r zs h m.axis own to p) g
          on false p g = never g

  pub block-keeps : (b : Block) (s u : Slides) → Sound r s.places → block_tried r k b s ≡ taken u → Sound r u.places
  unfolding block_tried
  block-keeps b s u h e = by (counts r b) e
    where
      by : (x : Bool) → cond x (counted r k (words_of b) s) (taken s) ≡ taken u → Sound r u.places
      by false e = let same : s ≡ u = cc in rw (← same) h
      by true e = on (words_tried r (chosen r (words_of b) s.increments) k (words_of b) s.places) refl e
        where
          on : (a : Answer (List ℤ)) → words_tried r (chosen r (words_of b) s.increments) k (words_of b) s.places ≡ a
              → (a >>= λ zs. taken (record { places = zs; increments = chosen r (words_of b) s.increments })) ≡ taken u → Sound r u.places
          on (taken zs) q f = let same : zs ≡ u.places = ap (λ x. (value_or s x).places) f in rw (← same) (words-keep (chosen r (words_of b) s.increments) (words_of b) s.places zs h q)
          on (refused n p) q f = never f
