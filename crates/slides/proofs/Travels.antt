-- 26 stands at the first axis that can't be followed, used or not; where there is none, places and travel are near.
use Prim.Native.Nat.{ℕ, zero, suc, ◌+◌, ◌≤◌, ◌<◌, zero-le, suc-le-suc}
use native.Mathlib.Nat.{le_of_suc-le-suc, not-suc-le-zero, zero-add}
use native.Mathlib.Decide.{dec_lt}
use native.Mathlib.Omega.{arith}
use mathlib.Core.Path.{◌≡◌, refl, sym, ap, ◌∙◌}
use mathlib.Core.Logic.{◌↔◌}
use mathlib.Core.Bool.{Bool, true, false, ◌||◌, ◌&&◌, not, cond}
use mathlib.Core.List.{List, [], ◌∷◌}
use lib.Dec.{eqb}
use lib.IntN.{ℤ, pos, negsuc, nat_abs}
use lib.ListN.{length, get_or, set}
use lib.Seq.{get_or-set_same, get_or-set_other}
use lib.Signed.{lt_z}
use borrow.Author.Tests.{ltb-false, le-ltb, eqb-true, eqb-false}
use Rattle.rows.specs.Answer.{Answer, taken, refused}
use Rattle.slides.specs.declared.Travel.{Travel}
use Rattle.slides.specs.Axes.{axes, of, farthest, far, unsound, sound_from, sound, within, FirstBad}

clash : {x : Bool} → x ≡ true → x ≡ false → ⊥
clash p q = let z : ◌≡◌ {A = ℕ} 0 1 = cc in omega arith

-- ---- the search, from any axis on

module _ (t : Travel) (zs : List ℤ) where
  abbrev wrong : ℕ → Bool
  wrong a = unsound (of t.low a) (of t.high a) (of zs a)

  -- what is answered of the axes from a on, with the letters cs
  data Told (a : ℕ) (cs : List ℕ) : Answer (Unit {0}) → Type 0 where
    clean : ((b : ℕ) → b < length cs → wrong (a + b) ≡ false) → Told a cs (taken tt)
    stops : (b : ℕ) → b < length cs → wrong (a + b) ≡ true → ((j : ℕ) → j < b → wrong (a + j) ≡ false) → Told a cs (refused 26 (get_or cs b 0))

  first_then : (a n : ℕ) → wrong a ≡ false → ((b : ℕ) → b < n → wrong (suc a + b) ≡ false) → (b : ℕ) → b < suc n → wrong (a + b) ≡ false
  first_then a n q h zero l = let e : a + 0 ≡ a = omega arith in rw e q
  first_then a n q h (suc b) l = let e : a + suc b ≡ suc a + b = omega arith in rw e (h b (le_of_suc-le-suc l))

  told-on : {a c : ℕ} {cs : List ℕ} {x : Answer (Unit {0})} → wrong a ≡ false → Told (suc a) cs x → Told a (c ∷ cs) x
  told-on {a} {c} {cs} q (clean h) = clean (first_then a (length cs) q h)
  told-on {a} q (stops b l w h) = let e : suc a + b ≡ a + suc b = omega arith in stops (suc b) (suc-le-suc l) (rw e at w) (first_then a b q h)

  told : (a : ℕ) (cs : List ℕ) → Told a cs (sound_from t zs a cs)
  unfolding sound_from
  told a [] = clean (λ b h. absurd (not-suc-le-zero h))
  told a (c ∷ cs) = by (wrong a) refl (told (suc a) cs)
    where
      by : (x : Bool) → wrong a ≡ x → Told (suc a) cs (sound_from t zs (suc a) cs) → Told a (c ∷ cs) (cond x (refused 26 c) (sound_from t zs (suc a) cs))
      by true q r = let e : a + 0 ≡ a = omega arith in stops 0 (suc-le-suc zero-le) (rw e q) (λ j l. absurd (not-suc-le-zero l))
      by false q r = told-on q r

-- the same axes are asked of from 0 on
module _ (t : Travel) (zs : List ℤ) where
  from_zero : {x : Bool} (b : ℕ) → wrong t zs (0 + b) ≡ x → wrong t zs b ≡ x
  from_zero b h = rw (zero-add b) at h

  one-first : {a : ℕ} (b : ℕ) → FirstBad t zs a → wrong t zs b ≡ true → ((j : ℕ) → j < b → wrong t zs j ≡ false) → b ≡ a
  one-first {a} b f w h =
      elim (dec_lt b a) [
        | yes l ↦ absurd (clash w (f.before b l))
        | no l ↦ elim (dec_lt a b) [ yes k ↦ absurd (clash f.bad (h a k)) | no k ↦ omega (arith, l, k) ]
      ]

-- ---- an axis that can be followed

module _ (low high z : ℤ) where
  abbrev Near : Type 0
  Near = (lt_z high low ≡ false) × (nat_abs low ≤ farthest) × (nat_abs high ≤ farthest) × (nat_abs z ≤ farthest)

  near : unsound low high z ≡ false → Near
  near h = by (lt_z high low) (far low) (far high) (far z) refl refl refl refl h
    where
      by : (a b c d : Bool) → lt_z high low ≡ a → far low ≡ b → far high ≡ c → far z ≡ d → (a || b || c || d) ≡ false → Near
      by true b c d p q r s h = absurd (clash refl h)
      by false true c d p q r s h = absurd (clash refl h)
      by false false true d p q r s h = absurd (clash refl h)
      by false false false true p q r s h = absurd (clash refl h)
      by false false false false p q r s h = (p, ltb-false farthest (nat_abs low) q, ltb-false farthest (nat_abs high) r, ltb-false farthest (nat_abs z) s)

  sound-near : Near → unsound low high z ≡ false
  sound-near h = rw (h.0, le-ltb farthest (nat_abs low) h.1, le-ltb farthest (nat_abs high) h.2, le-ltb farthest (nat_abs z) h.3)

-- between near ends all is near
between : (low high z : ℤ) (n : ℕ) → nat_abs low ≤ n → nat_abs high ≤ n → lt_z z low ≡ false → lt_z high z ≡ false → nat_abs z ≤ n
between low (pos h) (pos k) n a b p q = let l = ltb-false h k q in omega arith
between low (negsuc h) (pos k) n a b p q = absurd (clash refl q)
between (pos l) high (negsuc k) n a b p q = absurd (clash refl p)
between (negsuc l) high (negsuc k) n a b p q = let m = ltb-false l k p in omega arith

within_both : (x y : Bool) → not x && not y ≡ true → (x ≡ false) × (y ≡ false)
within_both true y h = absurd (clash h refl)
within_both false true h = absurd (clash h refl)
within_both false false h = (refl, refl)

-- ---- the answer

module _ (t : Travel) (zs : List ℤ) where
  all_sound : ((a : ℕ) → a < length axes → wrong t zs a ≡ false) → sound t zs ≡ taken tt
  all_sound k = by (sound t zs) (told t zs 0 axes)
    where
      by : (x : Answer (Unit {0})) → Told t zs 0 axes x → x ≡ taken tt
      by _ (clean h) = refl
      by _ (stops b l w h) = absurd (clash (from_zero t zs b w) (k b l))

  sound-at : sound t zs ≡ taken tt → (a : ℕ) → a < length axes → wrong t zs a ≡ false
  sound-at e a l = by (sound t zs) (told t zs 0 axes) e
    where
      by : (x : Answer (Unit {0})) → Told t zs 0 axes x → x ≡ taken tt → wrong t zs a ≡ false
      by _ (clean h) e = from_zero t zs a (h a l)
      by _ (stops b k w h) e = let z : ◌≡◌ {A = ℕ} 0 1 = cc in absurd (omega arith)

module _ (t : Travel) (zs : List ℤ) where
  -- every axis can be followed
  pub sound-all : (sound t zs ≡ taken tt) ↔ ((a : ℕ) → a < length axes → unsound (of t.low a) (of t.high a) (of zs a) ≡ false)
  sound-all = (sound-at t zs, all_sound t zs)

  -- 26 at the letter of the first that can't
  pub first-bad : (c : ℕ) → (sound t zs ≡ refused 26 c) ↔ ((a : ℕ) × FirstBad t zs a × (c ≡ get_or axes a 0))
  first-bad c = (λ e. to (sound t zs) (told t zs 0 axes) e, λ h. from (sound t zs) (told t zs 0 axes) h.0 h.1 ∙ ap (refused 26) (sym h.2))
    where
      to : (x : Answer (Unit {0})) → Told t zs 0 axes x → x ≡ refused 26 c → (a : ℕ) × FirstBad t zs a × (c ≡ get_or axes a 0)
      to _ (clean h) e = let z : ◌≡◌ {A = ℕ} 0 1 = cc in absurd (omega arith)
      to _ (stops b l w h) e = (b, record { among = l; bad = from_zero t zs b w; before = λ j k. from_zero t zs j (h j k) }, cc)

      from : (x : Answer (Unit {0})) → Told t zs 0 axes x → (a : ℕ) → FirstBad t zs a → x ≡ refused 26 (get_or axes a 0)
      from _ (clean h) a f = absurd (clash f.bad (from_zero t zs a (h a f.among)))
      from _ (stops b l w h) a f = ap (λ k. refused 26 (get_or axes k 0)) (one-first t zs b f (from_zero t zs b w) (λ j k. from_zero t zs j (h j k)))

  -- and no other refusal
  pub only-26 : (n c : ℕ) → sound t zs ≡ refused n c → n ≡ 26
  only-26 n c e = by (sound t zs) (told t zs 0 axes) e
    where
      by : (x : Answer (Unit {0})) → Told t zs 0 axes x → x ≡ refused n c → n ≡ 26
      by _ (clean h) e = let z : ◌≡◌ {A = ℕ} 0 1 = cc in absurd (omega arith)
      by _ (stops b l w h) e = cc

  module _ (s : sound t zs ≡ taken tt) where
    near-at : (a : ℕ) → a < length axes → Near (of t.low a) (of t.high a) (of zs a)
    near-at a l = near (of t.low a) (of t.high a) (of zs a) (sound-at t zs s a l)

    pub near-place : (a : ℕ) → a < length axes → nat_abs (of zs a) ≤ farthest
    near-place a l = (near-at a l).3

    -- a place within the travel of its axis stands for another
    pub sound-set : length zs ≡ length axes → (a : ℕ) → a < length axes → (z : ℤ) → within t a z ≡ true → sound t (set zs a z) ≡ taken tt
    sound-set long a l z w = all_sound t (set zs a z) (λ b k. by b k (eqb b a) refl)
      where
        here : unsound (of t.low a) (of t.high a) z ≡ false
        here =
            let n = near-at a l in
            let p = within_both (lt_z z (of t.low a)) (lt_z (of t.high a) z) w in
            sound-near (of t.low a) (of t.high a) z (n.0, n.1, n.2, between (of t.low a) (of t.high a) z farthest n.1 n.2 p.0 p.1)

        by : (b : ℕ) → b < length axes → (x : Bool) → eqb b a ≡ x → wrong t (set zs a z) b ≡ false
        by b k true q = let e = eqb-true b a q in let same = get_or-set_same zs a z (pos 0) (omega (arith, long, l)) in rw (e, same) here
        by b k false q = let e = get_or-set_other zs a b z (pos 0) (eqb-false b a q) in rw e (sound-at t zs s b k)
