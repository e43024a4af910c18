-- The test for agreement and the relation say the same.
use Prim.Native.Nat.{ℕ}
use native.Mathlib.Omega.{arith}
use mathlib.Core.Path.{◌≡◌, refl, sym, ◌∙◌}
use mathlib.Core.Logic.{inl, inr, ⊎_elim, ◌↔◌}
use mathlib.Core.Bool.{Bool, true, false, ◌&&◌, ◌||◌, not, beq}
use mathlib.Core.List.{List, [], ◌∷◌}
use lib.Dec.{T, T_not, not_T, eqb, leb, eqb→eq, leb→le, le→leb}
use borrow.Author.Tests.{eqb-true, eqb-false}
use Rattle.rows.specs.Passes.{Every}
use Rattle.shorthand.specs.declared.Item.{Item}
use Rattle.shorthand.specs.declared.Format.{Format}
use Rattle.shorthand.specs.Layout.{items_of}
use Rattle.shorthand.proofs.Tests.{both, first, second, left, right, either, holds, beq→eq}
use Rattle.profile.specs.declared.General.{General}
use Rattle.profile.specs.Agreement.{is_dimension, is_increment, is_rotary, is_counted, how_many, Agrees}
use Rattle.profile.specs.Answers.{any_item, dots_agree, none, moves_agree, agrees}

-- ---- tests of items

module _ (f : Item → Bool) where
  none_any : (its : List Item) → Every (λ it. f it ≡ false) its → any_item f its ≡ false
  none_any [] h = refl
  none_any (it ∷ its) h = rw (h.0, none_any its h.1)

  any_none : (its : List Item) → any_item f its ≡ false → Every (λ it. f it ≡ false) its
  any_none [] h = tt
  any_none (it ∷ its) h = by (f it) refl h (any_none its)
    where
      by : (b : Bool) → f it ≡ b → (b || any_item f its) ≡ false → (any_item f its ≡ false → Every (λ i. f i ≡ false) its) → (f it ≡ false) × Every (λ i. f i ≡ false) its
      by true q h rest = let z : ◌≡◌ {A = ℕ} 0 1 = cc in absurd (omega arith)
      by false q h rest = (q, rest h)

-- ---- rule by rule

clash : {x : Bool} → x ≡ true → x ≡ false → ⊥
clash p q = let z : ◌≡◌ {A = ℕ} 0 1 = cc in omega arith

eqb_same : (a b : ℕ) → a ≡ b → eqb a b ≡ true
eqb_same a b e = by (eqb a b) refl
  where
    by : (x : Bool) → eqb a b ≡ x → x ≡ true
    by true q = refl
    by false q = absurd (eqb-false a b q e)

not-false : (b : Bool) → not b ≡ true → b ≡ false
not-false true h = let z : ◌≡◌ {A = ℕ} 0 1 = cc in absurd (omega arith)
not-false false h = refl

module _ (n : ℕ) (a : Bool) where
  same-to : T (beq (eqb n 0) (not a)) → (n ≡ 0) ↔ (a ≡ false)
  same-to h =
      let q = beq→eq (eqb n 0) (not a) h in
      (λ e. not-false a (sym q ∙ eqb_same n 0 e), λ e. eqb-true n 0 (q ∙ rw e))

  same_from : (n ≡ 0) ↔ (a ≡ false) → T (beq (eqb n 0) (not a))
  same_from h = by (eqb n 0) a refl refl
    where
      by : (x y : Bool) → eqb n 0 ≡ x → a ≡ y → T (beq x (not y))
      by true true p q = absurd (clash q (h.0 (eqb-true n 0 p)))
      by true false p q = tt
      by false true p q = tt
      by false false p q = absurd (eqb-false n 0 p (h.1 q))

-- a letter that bars something
module _ (n c : ℕ) (a : Bool) where
  bars-to : T (not (eqb n c && a)) → n ≡ c → a ≡ false
  bars-to h e = by a refl
    where
      by : (x : Bool) → a ≡ x → x ≡ false
      by true q = absurd (T_not (eqb n c && a) h (both (eqb n c) a (rw (eqb_same n c e) tt) (rw q tt)))
      by false q = refl

  bars-from : (n ≡ c → a ≡ false) → T (not (eqb n c && a))
  bars-from h = not_T (eqb n c && a) (λ t. let p = holds a (second (eqb n c) a t) in clash p (h (eqb→eq n c (first (eqb n c) a t))))

dots-to : (w : ℕ) (d : Bool) → T (dots_agree w d) → (w ≡ 65 → d ≡ false) × (w ≡ 83 → d ≡ true) × (w ≡ 84 → d ≡ true)
dots-to w d h =
    let k = second (not (eqb w 65 && d)) (not ((eqb w 83 || eqb w 84) && not d)) h in
    let dotted : T (eqb w 83 || eqb w 84) → d ≡ true = λ t. not-false-true d (T_not ((eqb w 83 || eqb w 84) && not d) k) t in
    (bars-to w 65 d (first (not (eqb w 65 && d)) (not ((eqb w 83 || eqb w 84) && not d)) h), λ e. dotted (left (eqb w 83) (eqb w 84) (rw (eqb_same w 83 e) tt)), λ e. dotted (right (eqb w 83) (eqb w 84) (rw (eqb_same w 84 e) tt)))
  where
    not-false-true : (d : Bool) → (T ((eqb w 83 || eqb w 84) && not d) → ⊥) → T (eqb w 83 || eqb w 84) → d ≡ true
    not-false-true true n t = refl
    not-false-true false n t = absurd (n (both (eqb w 83 || eqb w 84) true t tt))

dots-from : (w : ℕ) (d : Bool) → (w ≡ 65 → d ≡ false) × (w ≡ 83 → d ≡ true) × (w ≡ 84 → d ≡ true) → T (dots_agree w d)
dots-from w d h =
    both (not (eqb w 65 && d)) (not ((eqb w 83 || eqb w 84) && not d)) (bars-from w 65 d h.0)
    (not_T ((eqb w 83 || eqb w 84) && not d) (λ t.
    let e : d ≡ true = ⊎_elim {C = d ≡ true} (λ x. h.1 (eqb→eq w 83 x)) (λ x. h.2 (eqb→eq w 84 x)) (either (eqb w 83) (eqb w 84) (first (eqb w 83 || eqb w 84) (not d) t)) in
    T_not d (second (eqb w 83 || eqb w 84) (not d) t) (rw e tt)))

-- a dimension that is no "D" item
abbrev absolutes : Item → Bool
absolutes it = is_dimension it.kind && not (is_increment it.kind)

abbrev increment : Item → Bool
increment it = is_increment it.kind

only-to : (its : List Item) → Every (λ it. absolutes it ≡ false) its → Every (λ it. is_dimension it.kind ≡ true → is_increment it.kind ≡ true) its
only-to [] h = tt
only-to (it ∷ its) h = (λ d. by (is_increment it.kind) (rw d at h.0), only-to its h.1)
  where
    by : (b : Bool) → not b ≡ false → b ≡ true
    by true q = refl
    by false q = let z : ◌≡◌ {A = ℕ} 0 1 = cc in absurd (omega arith)

only-from : (its : List Item) → Every (λ it. is_dimension it.kind ≡ true → is_increment it.kind ≡ true) its → Every (λ it. absolutes it ≡ false) its
only-from [] h = tt
only-from (it ∷ its) h = (by (is_dimension it.kind) refl h.0, only-from its h.1)
  where
    by : (b : Bool) → is_dimension it.kind ≡ b → (b ≡ true → is_increment it.kind ≡ true) → (b && not (is_increment it.kind)) ≡ false
    by true q f = rw (f refl)
    by false q f = refl

module _ (f : Format) (g : General) where
  abbrev its : List Item
  its = items_of f

  abbrev a : Bool
  a = beq (eqb g.rotary 0) (not (any_item is_rotary its))

  abbrev b : Bool
  b = none its || dots_agree g.way f.dots

  abbrev c : Bool
  c = moves_agree g.moves its

  abbrev d : Bool
  d = eqb (how_many is_counted its) g.second

  abbrev e : Bool
  e = leb g.third g.second

  abbrev h : Bool
  h = leb g.second g.first

  nothing : (l : List Item) → T (none l) → l ≡ []
  nothing [] t = refl
  nothing (x ∷ l) t = absurd t

  agreed : T (agrees f g) → Agrees f g
  unfolding agrees
  agreed t =
      let t5 = first (a && b && c && d && e) h t in
      let t4 = first (a && b && c && d) e t5 in
      let t3 = first (a && b && c) d t4 in
      let t2 = first (a && b) c t3 in
      let r = same-to g.rotary (any_item is_rotary its) (first a b t2) in
      let m = second (a && b) c t3 in
      let n1 = not (eqb g.moves 65 && any_item increment its) in
      let n2 = not (eqb g.moves 73 && any_item absolutes its) in
      record {
        rotary = (λ q. any_none is_rotary its (r.0 q), λ q. r.1 (none_any is_rotary its q));
        dots = ⊎_elim (λ x. inl (nothing its x)) (λ x. inr (dots-to g.way f.dots x)) (either (none its) (dots_agree g.way f.dots) (second a b t2));
        absolute = λ q. any_none increment its (bars-to g.moves 65 (any_item increment its) (first n1 n2 m) q);
        increments = λ q. only-to its (any_none absolutes its (bars-to g.moves 73 (any_item absolutes its) (second n1 n2 m) q));
        counted = eqb→eq (how_many is_counted its) g.second (second (a && b && c) d t4);
        third = leb→le g.third g.second (second (a && b && c && d) e t5);
        second = leb→le g.second g.first (second (a && b && c && d && e) h t);
      }

  none_is : (l : List Item) → l ≡ [] → T (none l)
  none_is [] q = tt
  none_is (x ∷ l) q = let z : ◌≡◌ {A = ℕ} 0 1 = cc in absurd (omega arith)

  agreeing : Agrees f g → T (agrees f g)
  unfolding agrees
  agreeing r =
      let n1 = not (eqb g.moves 65 && any_item increment its) in
      let n2 = not (eqb g.moves 73 && any_item absolutes its) in
      let ta : T a = same_from g.rotary (any_item is_rotary its) (λ q. none_any is_rotary its (r.rotary.0 q), λ q. r.rotary.1 (any_none is_rotary its q)) in
      let tb : T b = ⊎_elim {C = T b} (λ q. left (none its) (dots_agree g.way f.dots) (none_is its q)) (λ q. right (none its) (dots_agree g.way f.dots) (dots-from g.way f.dots q)) r.dots in
      let tc : T c =
      both n1 n2 (bars-from g.moves 65 (any_item increment its) (λ q. none_any increment its (r.absolute q)))
      (bars-from g.moves 73 (any_item absolutes its) (λ q. none_any absolutes its (only-from its (r.increments q)))) in
      let td : T d = rw (eqb_same (how_many is_counted its) g.second r.counted) tt in
      both (a && b && c && d && e) h
      (both (a && b && c && d) e (both (a && b && c) d (both (a && b) c (both a b ta tb) tc) td) (le→leb g.third g.second r.third))
      (le→leb g.second g.first r.second)

  -- the test is passed exactly where the relation holds
  pub agrees-exactly : T (agrees f g) ↔ Agrees f g
  agrees-exactly = (agreed, agreeing)
