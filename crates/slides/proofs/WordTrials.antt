-- The words of a block tried one behind another: each moves its axis, and the places stay within the travel.
use Prim.Native.Nat.{ℕ, zero, suc, ◌+◌, ◌≤◌, ◌<◌}
use mathlib.Core.Path.{◌≡◌, refl, sym, ◌∙◌}
use mathlib.Core.Bool.{Bool, true, false, not, ◌&&◌, cond}
use mathlib.Core.List.{List, [], ◌∷◌}
use native.Mathlib.Nat.{le_of_suc-le-suc, not-suc-le-zero}
use lib.IntN.{ℤ, nat_abs}
use native.Mathlib.Numerals.{add-one}
use lib.ListN.{length, get_or, drop, drop_of_length-le, set, length-set}
use lib.Seq.{drop-cons}
use lib.Signed.{lt_z}
use Rattle.rows.specs.Answer.{taken, refused}
use Rattle.rows.specs.Passes.{Every}
use Rattle.words.specs.declared.Word.{Word}
use Rattle.slides.specs.declared.Rule.{Rule}
use Rattle.slides.specs.declared.Motion.{Motion}
use Rattle.std.specs.Prelude.{Option, Some, None}
use Rattle.slides.specs.Axes.{axes, axis_of, of, farthest, sound, within}
use Rattle.slides.specs.Moves.{motion_of, placed, moved, leaves, words_tried}
use Rattle.slides.specs.Front.{Near, put_within}
use Rattle.slides.proofs.Travels.{near-place, sound-set}
use Rattle.slides.proofs.WordMotions.{moved-axis}

-- ---- one word

-- a place that was put is within its travel, and one that was not is outside
put-at : (low high z to : ℤ) → Some to ≡ put_within low high z → (z ≡ to) × ((not (lt_z z low) && not (lt_z high z)) ≡ true)
put-at low high z to h = by (not (lt_z z low) && not (lt_z high z)) h
  where
    by : (b : Bool) → Some to ≡ cond b (Some z) None → (z ≡ to) × (b ≡ true)
    by true e = (let i : z ≡ to = cc in i, refl)
    by false e = cc

put-outside : (low high z : ℤ) → None ≡ put_within low high z → (not (lt_z z low) && not (lt_z high z)) ≡ false
put-outside low high z h = by (not (lt_z z low) && not (lt_z high z)) h
  where
    by : (b : Bool) → None ≡ cond b (Some z) None → b ≡ false
    by true e = cc
    by false e = refl

-- a word of some that are near
near-in : (ws : List Word) (i : ℕ) (d : Word) → i < length ws → Every (λ w. Near w.value) ws → Near (get_or ws i d).value
near-in [] i d l h = absurd (not-suc-le-zero l)
near-in (w ∷ ws) zero d l h = h.0
near-in (w ∷ ws) (suc i) d l h = near-in ws i d (le_of_suc-le-suc l) h.1

-- ---- the words of a block, one behind another

-- places that can be followed
pub record Sound (r : Rule) (zs : List ℤ) : Type 0 where
  pub long : length zs ≡ length axes
  pub fit : sound r.travel zs ≡ taken tt

-- they stay so where an axis is put within its travel
pub sound-put : (r : Rule) (zs : List ℤ) → Sound r zs → (a : ℕ) → a < length axes → (z : ℤ) → within r.travel a z ≡ true → Sound r (set zs a z)
sound-put r zs h a l z e = record { long = length-set zs a z ∙ h.long; fit = sound-set r.travel zs h.fit h.long a l z e }

module _ (r : Rule) (increments : Bool) (ws : List Word) (first : List ℤ) where
  -- before word i the axes stand so
  pub record Trying (i : ℕ) (at : List ℤ) : Type 0 where
    pub places : Sound r at
    pub ahead : (k : ℕ) → words_tried r increments k ws first ≡ words_tried r increments k (drop i ws) at

  -- word i moves an axis: it puts it to a place within its travel, or outside
  pub record Moving (i : ℕ) (at : List ℤ) (m : Motion) : Type 0 where
    pub axis : m.axis < length axes
    pub value : nat_abs m.value ≤ farthest
    pub place : nat_abs (of at m.axis) ≤ farthest
    pub stays : (z : ℤ) → Some z ≡ put_within (of r.travel.low m.axis) (of r.travel.high m.axis) (placed r increments at m.axis m.value) → Trying (i + 1) (set at m.axis z)
    pub goes : None ≡ put_within (of r.travel.low m.axis) (of r.travel.high m.axis) (placed r increments at m.axis m.value) → (k : ℕ) → refused 27 k ≡ words_tried r increments k ws first

  module _ {i : ℕ} {at : List ℤ} (h : Trying i at) where
    pub try-end : length ws ≤ i → (k : ℕ) → taken at ≡ words_tried r increments k ws first
    unfolding words_tried
    try-end l k = sym (h.ahead k ∙ rw (drop_of_length-le ws {i = i} l))

    module _ (near : Every (λ w. Near w.value) ws) (l : i < length ws) (d : Word) where
      abbrev w : Word
      w = get_or ws i d

      -- the words from here on, by what this one moves
      tried-by : (m : Option Motion) → m ≡ motion_of (get_or ws i d) → (k : ℕ)
          → words_tried r increments k ws first ≡ cond (leaves r increments at m) (refused 27 k) (words_tried r increments k (drop (i + 1) ws) (moved r increments at m))
      unfolding words_tried
      tried-by m e k = h.ahead k ∙ rw (add-one, drop-cons ws i d l, e)

      pub try-still : None ≡ motion_of (get_or ws i d) → Trying (i + 1) at
      try-still e = record { places = h.places; ahead = tried-by None e }

      pub moving : (m : Motion) → Some m ≡ motion_of (get_or ws i d) → Moving i at m
      moving m e =
          let own = moved-axis (axis_of w.letter) w.value m (sym e) in
          let low = of r.travel.low m.axis in
          let high = of r.travel.high m.axis in
          let to = placed r increments at m.axis m.value in
          record {
            axis = own.0;
            value = own.1 (near-in ws i d l near);
            place = near-place r.travel at h.places.fit m.axis own.0;
            stays = λ z q.
                let p = put-at low high to z q in
                record {
                  places = rw (← p.0) (sound-put r at h.places m.axis own.0 to p.1);
                  ahead = λ k. tried-by (Some m) e k ∙ rw (p.1, p.0);
                };
            goes = λ q k. sym (tried-by (Some m) e k ∙ rw (put-outside low high to q));
          }
