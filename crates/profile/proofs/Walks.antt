-- The walk over the places of the form: the bytes so far come before what is filled from here on.
use Prim.Native.Nat.{ℕ, suc, ◌+◌, ◌≤◌, ◌<◌}
use native.Mathlib.Decide.{dec_lt}
use native.Mathlib.Numerals.{add-one}
use native.Mathlib.Omega.{arith}
use mathlib.Core.Path.{◌≡◌, refl, sym, ap, ◌∙◌}
use mathlib.Core.Logic.{◌⊎◌, ⊎_elim}
use mathlib.Core.Bool.{Bool, true, false}
use mathlib.Core.List.{List, [], ◌∷◌, ◌++◌}
use lib.ListN.{length, take, drop, get_or, set, replicate, length-set, get_or-replicate, drop_of_length-le, get_or-eq_default}
use lib.Seq.{drop-cons, take-suc, take-suc-set, get_or-set_other}
use Rattle.rows.specs.Answer.{Answer, taken, refused}
use Rattle.rows.specs.Row.{among}
use Rattle.shorthand.specs.declared.Edition.{Edition}
use Rattle.shorthand.specs.declared.Edition.TheVariants.{Iso1057, Iso2539}
use Rattle.profile.specs.Form.{Slot, one, form_of}
use Rattle.profile.specs.Answers.{then, filled}
use Rattle.profile.specs.Front.{slot_at}

abbrev before : List ℕ → Answer (List ℕ) → Answer (List ℕ)
before [] a = a
before (b ∷ bs) a = then b (before bs a)

before_last : (bs : List ℕ) (b : ℕ) (a : Answer (List ℕ)) → before (bs ++ (b ∷ [])) a ≡ before bs (then b a)
before_last [] b a = refl
before_last (c ∷ bs) b a = ap (then c) (before_last bs b a)

before_none : (bs : List ℕ) → before bs (taken []) ≡ taken bs
before_none [] = refl
before_none (b ∷ bs) = ap (then b) (before_none bs)

before-refused : (bs : List ℕ) (n p : ℕ) → before bs (refused n p) ≡ refused n p
before-refused [] n p = refl
before-refused (b ∷ bs) n p = ap (then b) (before-refused bs n p)

-- ---- one place

abbrev stands : Slot → List ℕ → Bool
stands s [] = false
stands s (b ∷ t) = among b s.bytes

module _ (s : Slot) (ss : List Slot) (p : ℕ) where
  taken_in : (b : ℕ) (t : List ℕ) → among b s.bytes ≡ true → filled (s ∷ ss) p (b ∷ t) ≡ then b (filled ss (suc p) t)
  unfolding filled
  taken_in b t h = rw h

  left_out : (t : List ℕ) → stands s t ≡ false → s.must ≡ false → filled (s ∷ ss) p t ≡ then 0 (filled ss p t)
  unfolding filled
  left_out [] h m = rw m
  left_out (b ∷ t) h m = rw (h, m)

  stops : (t : List ℕ) → stands s t ≡ false → s.must ≡ true → filled (s ∷ ss) p t ≡ refused 22 p
  unfolding filled
  stops [] h m = rw m
  stops (b ∷ t) h m = rw (h, m)

-- ---- the walk

pub short-form : (e : Edition) → length (form_of e) ≤ 10
short-form Iso1057 = omega arith
short-form Iso2539 = omega arith

module _ (e : Edition) (t : List ℕ) where
  pub record Walked (bytes : List ℕ) (at k : ℕ) : Type 0 where
    pub ahead : filled (form_of e) 0 t ≡ before (take k bytes) (filled (drop k (form_of e)) at (drop at t))
    pub clear : (j : ℕ) → k ≤ j → get_or bytes j 0 ≡ 0
    pub long : length bytes ≡ 10
    pub within : k ≤ length (form_of e)
    pub read : at ≤ length t

  pub walk-starts : Walked (replicate 10 0) 0 0
  walk-starts = record { ahead = refl; clear = clear; long = refl; within = omega arith; read = omega arith }
    where
      clear : (j : ℕ) → 0 ≤ j → ◌≡◌ {A = ℕ} (get_or (replicate {A = ℕ} 10 0) j 0) 0
      clear j l =
          elim (dec_lt j 10) [
            | yes h ↦ get_or-replicate 10 j 0 0 h
            | no h ↦ get_or-eq_default {A = ℕ} (replicate 10 0) 0 {n = j} (omega (arith, h))
          ]

  module _ {bytes : List ℕ} {at k : ℕ} (w : Walked bytes at k) where
    module _ (h : k < length (form_of e)) where
      place : drop k (form_of e) ≡ slot_at e k ∷ drop (suc k) (form_of e)
      place = drop-cons (form_of e) k (one []) h

      room : k < length bytes
      room = omega (arith, h, short-form e, w.long)

      pub walk-stands : at < length t → among (get_or t at 0) (slot_at e k).bytes ≡ true → Walked (set bytes k (get_or t at 0)) (at + 1) (k + 1)
      walk-stands l q =
          record {
            ahead = rw (add-one, add-one) (w.ahead ∙ step);
            clear = λ j m. get_or-set_other bytes k j (get_or t at 0) 0 (λ x. omega (arith, m, x)) ∙ w.clear j (omega (arith, m));
            long = length-set bytes k (get_or t at 0) ∙ w.long;
            within = omega (arith, h);
            read = omega (arith, l);
          }
        where
          step : before (take k bytes) (filled (drop k (form_of e)) at (drop at t))
              ≡ before (take (suc k) (set bytes k (get_or t at 0))) (filled (drop (suc k) (form_of e)) (suc at) (drop (suc at) t))
          step =
              rw (place, drop-cons t at 0 l, taken_in (slot_at e k) (drop (suc k) (form_of e)) at (get_or t at 0) (drop (suc at) t) q, take-suc-set bytes k (get_or t at 0) room)
              (sym (before_last (take k bytes) (get_or t at 0) (filled (drop (suc k) (form_of e)) (suc at) (drop (suc at) t))))

      -- no byte stands at the place: the text is at its end, or its byte does not fit
      module _ (n : (length t ≤ at) ⊎ ((at < length t) × (among (get_or t at 0) (slot_at e k).bytes ≡ false))) where
        none-stands : stands (slot_at e k) (drop at t) ≡ false
        none-stands = ⊎_elim {C = stands (slot_at e k) (drop at t) ≡ false} (λ l. rw (drop_of_length-le t {i = at} l)) (λ l. rw (drop-cons t at 0 l.0) l.1) n

        pub walk-skips : (slot_at e k).must ≡ false → Walked bytes at (k + 1)
        walk-skips m =
            record {
              ahead = rw add-one (w.ahead ∙ step);
              clear = λ j x. w.clear j (omega (arith, x));
              long = w.long;
              within = omega (arith, h);
              read = w.read;
            }
          where
            step : before (take k bytes) (filled (drop k (form_of e)) at (drop at t)) ≡ before (take (suc k) bytes) (filled (drop (suc k) (form_of e)) at (drop at t))
            step =
                rw (place, left_out (slot_at e k) (drop (suc k) (form_of e)) at (drop at t) none-stands m, take-suc bytes k 0 room, w.clear k (omega arith))
                (sym (before_last (take k bytes) 0 (filled (drop (suc k) (form_of e)) at (drop at t))))

        pub walk-stops : (slot_at e k).must ≡ true → filled (form_of e) 0 t ≡ refused 22 at
        walk-stops m = w.ahead ∙ rw (place, stops (slot_at e k) (drop (suc k) (form_of e)) at (drop at t) none-stands m) (before-refused (take k bytes) 22 at)

    module _ (h : length (form_of e) ≤ k) where
      done : drop k (form_of e) ≡ []
      done = drop_of_length-le (form_of e) {i = k} h

      pub walk-overruns : at < length t → filled (form_of e) 0 t ≡ refused 22 at
      unfolding filled
      walk-overruns l = w.ahead ∙ rw (done, drop-cons t at 0 l) (before-refused (take k bytes) 22 at)

      pub walk_ends : length t ≤ at → taken (take (length (form_of e)) bytes) ≡ filled (form_of e) 0 t
      unfolding filled
      walk_ends l =
          let q : length (form_of e) ≡ k = omega (arith, h, w.within) in
          rw q (sym (w.ahead ∙ rw (done, drop_of_length-le t {i = at} l) (before_none (take k bytes))))
