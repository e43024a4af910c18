-- A text is filled in exactly where it is in form, and 22 is at the place where it stops being the beginning of one.
use Prim.Native.Nat.{ℕ, zero, suc, ◌+◌, ◌≤◌, ◌<◌, zero-le, suc-le-suc}
use native.Mathlib.Nat.{add-zero, le_of_suc-le-suc, not-suc-le-zero}
use native.Mathlib.Decide.{dec_lt}
use native.Mathlib.Omega.{arith}
use mathlib.Core.Path.{◌≡◌, refl, sym, ap, subst}
use mathlib.Core.Logic.{⊎_elim}
use mathlib.Core.Bool.{Bool, true, false, ◌&&◌, ◌||◌, not, cond}
use mathlib.Core.List.{List, [], ◌∷◌, ◌++◌, append_assoc}
use lib.Dec.{T, T_not, not_T, eqb, eqb→eq, eqb_refl}
use lib.ListN.{length, take, drop, take-append-drop}
use lib.Seq.{take-nil, take-length}
use Rattle.rows.specs.Answer.{Answer, taken, refused}
use Rattle.rows.specs.Row.{among}
use Rattle.shorthand.proofs.Tests.{first, second, left, right, either, holds, fails, by-test}
use Rattle.profile.specs.Form.{Slot, Fills, none, stands, left as skipped, InForm, Begins, Misformed, wrong, short}
use Rattle.profile.specs.Answers.{then, filled}

-- ---- forms that can be read from the front

-- the bytes that may come first
abbrev pub firsts : List Slot → List ℕ
firsts [] = []
firsts (s ∷ ss) = cond s.must s.bytes (s.bytes ++ firsts ss)

abbrev disjoint : List ℕ → List ℕ → Bool
disjoint [] cs = true
disjoint (b ∷ bs) cs = not (among b cs) && disjoint bs cs

abbrev some : List ℕ → Bool
some [] = false
some (b ∷ bs) = true

-- what may be left out can't be taken for what comes behind it, and every place has a byte
abbrev pub plain : List Slot → Bool
plain [] = true
plain (s ∷ ss) = some s.bytes && (s.must || disjoint s.bytes (firsts ss)) && plain ss

among-front : (b : ℕ) (xs ys : List ℕ) → T (among b xs) → T (among b (xs ++ ys))
among-front b [] ys h = absurd h
among-front b (x ∷ xs) ys h = ⊎_elim (λ t. left (eqb b x) (among b (xs ++ ys)) t) (λ t. right (eqb b x) (among b (xs ++ ys)) (among-front b xs ys t)) (either (eqb b x) (among b xs) h)

among-back : (b : ℕ) (xs ys : List ℕ) → T (among b ys) → T (among b (xs ++ ys))
among-back b [] ys h = h
among-back b (x ∷ xs) ys h = right (eqb b x) (among b (xs ++ ys)) (among-back b xs ys h)

apart : (b : ℕ) (bs cs : List ℕ) → T (disjoint bs cs) → T (among b bs) → T (among b cs) → ⊥
apart b [] cs d h k = h
apart b (x ∷ bs) cs d h k =
    ⊎_elim (λ t. T_not (among x cs) (first (not (among x cs)) (disjoint bs cs) d) (subst (λ (y : ℕ). T (among y cs)) (eqb→eq b x t) k))
    (λ t. apart b bs cs (second (not (among x cs)) (disjoint bs cs) d) t k) (either (eqb b x) (among b bs) h)

-- the first byte of a text in form is one that may come first
fills_first : {ss : List Slot} {b : ℕ} {t bs : List ℕ} (u : List ℕ) → u ≡ b ∷ t → Fills ss u bs → T (among b (firsts ss))
fills_first {b = b} u q none = let z = ap length q in absurd (omega arith)
fills_first {b = b} u q (stands {s = s} {ss = ss} {b = c} h r) =
    let same : c ≡ b = cc in
    by-test (λ (l : List ℕ). T (among b l)) s.must (λ m. rw (← same) h) (λ m. among-front b s.bytes (firsts ss) (rw (← same) h))
fills_first {b = b} u q (skipped {s = s} {ss = ss} h r) =
    by-test (λ (l : List ℕ). T (among b l)) s.must (λ m. absurd (T_not s.must h m)) (λ m. among-back b s.bytes (firsts ss) (fills_first u q r))

-- every form has a text
some-text : (ss : List Slot) → T (plain ss) → (t : List ℕ) × InForm ss t
some-text [] h = ([], ([], none))
some-text (s ∷ ss) h =
    let a = first (some s.bytes && (s.must || disjoint s.bytes (firsts ss))) (plain ss) h in
    let r = some-text ss (second (some s.bytes && (s.must || disjoint s.bytes (firsts ss))) (plain ss) h) in
    by s.bytes refl (first (some s.bytes) (s.must || disjoint s.bytes (firsts ss)) a) r
  where
    by : (bs : List ℕ) → s.bytes ≡ bs → T (some bs) → (t : List ℕ) × InForm ss t → (t : List ℕ) × InForm (s ∷ ss) t
    by [] q h r = absurd h
    by (b ∷ bs) q h r = (b ∷ r.0, (b ∷ r.1.0, stands {s = s} {b = b} (rw q (left (eqb b b) (among b bs) (eqb_refl b))) r.1.1))

-- ---- one place of the form

module _ (s : Slot) (ss : List Slot) (p : T (plain (s ∷ ss))) where
  abbrev head_plain : Bool
  head_plain = some s.bytes && (s.must || disjoint s.bytes (firsts ss))

  rest_plain : T (plain ss)
  rest_plain = second head_plain (plain ss) p

  -- a byte that may stand there stands there
  takes : (b : ℕ) (t : List ℕ) → T (among b s.bytes) → (u : List ℕ) {bs : List ℕ} → u ≡ b ∷ t → Fills (s ∷ ss) u bs → InForm ss t
  takes b t h u q (stands {b = c} {t = v} {bs = cs} k r) = let same : v ≡ t = cc in (cs, subst (λ (x : List ℕ). Fills ss x cs) same r)
  takes b t h u q (skipped k r) =
      let d = second (some s.bytes) (s.must || disjoint s.bytes (firsts ss)) (first head_plain (plain ss) p) in
      absurd (⊎_elim (λ m. T_not s.must k m) (λ m. apart b s.bytes (firsts ss) m h (fills_first u q r)) (either s.must (disjoint s.bytes (firsts ss)) d))

  -- any other byte is left for the places behind
  leaves : (b : ℕ) (t : List ℕ) → T (not (among b s.bytes)) → (u : List ℕ) {bs : List ℕ} → u ≡ b ∷ t → Fills (s ∷ ss) u bs → T (not s.must) × InForm ss u
  leaves b t h u q (stands {b = c} k r) = let same : c ≡ b = cc in absurd (T_not (among b s.bytes) h (rw same at k))
  leaves b t h u q (skipped {bs = cs} k r) = (k, (cs, r))

  -- and so does the end of the text
  leaves-end : (u : List ℕ) {bs : List ℕ} → u ≡ [] → Fills (s ∷ ss) u bs → T (not s.must) × InForm ss u
  leaves-end u q (stands k r) = let z = ap length q in absurd (omega arith)
  leaves-end u q (skipped {bs = cs} k r) = (k, (cs, r))

-- ---- what is told of a text from the place i on

pub data Told (ss : List Slot) (i : ℕ) (t : List ℕ) : Answer (List ℕ) → Type 0 where
  in_form : {bs : List ℕ} → Fills ss t bs → Told ss i t (taken bs)
  out_of_form : (p : ℕ) → Misformed ss t p → Told ss i t (refused 22 (i + p))

-- behind a byte that stands
module _ (s : Slot) (ss : List Slot) (plainly : T (plain (s ∷ ss))) (b : ℕ) (t : List ℕ) (h : T (among b s.bytes)) where
  begins-on : (x : List ℕ) → Begins ss x → Begins (s ∷ ss) (b ∷ x)
  begins-on x r = (r.0, (b ∷ r.1.0, stands h r.1.1))

  begins-off : (x : List ℕ) → Begins (s ∷ ss) (b ∷ x) → Begins ss x
  begins-off x r = (r.0, takes s ss plainly b (x ++ r.0) h _ refl r.1.1)

  misformed-on : {p : ℕ} → Misformed ss t p → Misformed (s ∷ ss) (b ∷ t) (suc p)
  misformed-on {p} (wrong l y n) = wrong (suc-le-suc l) (begins-on (take p t) y) (λ r. n (begins-off (take (suc p) t) r))
  misformed-on (short y n) = short (begins-on t y) (λ r. n (takes s ss plainly b t h _ refl r.1))

  told-on : {i : ℕ} {a : Answer (List ℕ)} → Told ss (suc i) t a → Told (s ∷ ss) i (b ∷ t) (then b a)
  told-on (in_form r) = in_form (stands h r)
  told-on {i} (out_of_form p m) = let at : i + suc p ≡ suc i + p = omega arith in subst (λ (k : ℕ). Told (s ∷ ss) i (b ∷ t) (refused 22 k)) at (out_of_form (suc p) (misformed-on m))

-- where nothing stands there
module _ (s : Slot) (ss : List Slot) (may : T (not s.must)) (t : List ℕ) (only : (p : ℕ) → Begins (s ∷ ss) (take (suc p) t) → Begins ss (take (suc p) t)) (whole : InForm (s ∷ ss) t → InForm ss t) where
  misformed-off : {p : ℕ} → Misformed ss t p → Misformed (s ∷ ss) t p
  misformed-off {p} (wrong l y n) = wrong l (y.0, (0 ∷ y.1.0, skipped may y.1.1)) (λ r. n (only p r))
  misformed-off (short y n) = short (y.0, (0 ∷ y.1.0, skipped may y.1.1)) (λ r. n (whole r))

  told-off : {i : ℕ} {a : Answer (List ℕ)} → Told ss i t a → Told (s ∷ ss) i t (then 0 a)
  told-off (in_form r) = in_form (skipped may r)
  told-off (out_of_form p m) = out_of_form p (misformed-off m)

-- a text is told of place by place
begun : (ss : List Slot) → T (plain ss) → Begins ss []
begun ss h = some-text ss h

must-missing : (s : Slot) (ss : List Slot) (i : ℕ) → T (plain (s ∷ ss)) → T s.must → Told (s ∷ ss) i [] (refused 22 i)
must-missing s ss i h m =
    subst (λ (k : ℕ). Told (s ∷ ss) i [] (refused 22 k)) (add-zero i)
    (out_of_form 0 (short (begun (s ∷ ss) h) (λ r. T_not s.must (leaves-end s ss h [] refl r.1).0 m)))

must-other : (s : Slot) (ss : List Slot) (i b : ℕ) (t : List ℕ) → T (plain (s ∷ ss)) → T s.must → T (not (among b s.bytes)) → Told (s ∷ ss) i (b ∷ t) (refused 22 i)
must-other s ss i b t h m n =
    subst (λ (k : ℕ). Told (s ∷ ss) i (b ∷ t) (refused 22 k)) (add-zero i)
    (out_of_form 0 (wrong (suc-le-suc zero-le) (begun (s ∷ ss) h) (λ r. T_not s.must (leaves s ss h b r.0 n _ refl r.1.1).0 m)))

pub told : (ss : List Slot) → T (plain ss) → (i : ℕ) (t : List ℕ) → Told ss i t (filled ss i t)
unfolding filled
told [] h i [] = in_form none
told [] h i (b ∷ t) = subst (λ (k : ℕ). Told [] i (b ∷ t) (refused 22 k)) (add-zero i) (out_of_form 0 (wrong (suc-le-suc zero-le) ([], ([], none)) (λ r. no_more _ refl r.1.1)))
  where
    no_more : (u : List ℕ) {x bs : List ℕ} → u ≡ b ∷ x → Fills [] u bs → ⊥
    no_more u q none = let z = ap length q in omega (arith, z)
told (s ∷ ss) h i [] =
    by-test (Told (s ∷ ss) i []) s.must (must-missing s ss i h)
    (λ may. told-off s ss may [] (λ p r. begun ss (rest_plain s ss h)) (λ r. (leaves-end s ss h [] refl r.1).1) (told ss (rest_plain s ss h) i []))
told (s ∷ ss) h i (b ∷ t) =
    by-test (Told (s ∷ ss) i (b ∷ t)) (among b s.bytes) (λ m. told-on s ss h b t m (told ss (rest_plain s ss h) (suc i) t))
    (λ n. by-test (Told (s ∷ ss) i (b ∷ t)) s.must (λ m. must-other s ss i b t h m n)
    (λ may. told-off s ss may (b ∷ t) (λ p r. (r.0, (leaves s ss h b (take p t ++ r.0) n _ refl r.1.1).1)) (λ r. (leaves s ss h b t n _ refl r.1).1) (told ss (rest_plain s ss h) i (b ∷ t))))

-- ---- one place

-- what begins with more behind it begins without
begins-front : {ss : List Slot} (x y : List ℕ) → Begins ss (x ++ y) → Begins ss x
begins-front {ss} x y r = (y ++ r.0, subst (InForm ss) (append_assoc x y r.0) r.1)

longer : (t : List ℕ) (p q : ℕ) → p ≤ q → (z : List ℕ) × (take q t ≡ take p t ++ z)
longer t zero q l = (take q t, refl)
longer [] (suc p) q l = ([], take-nil q)
longer (b ∷ t) (suc p) zero l = absurd (not-suc-le-zero l)
longer (b ∷ t) (suc p) (suc q) l = let r = longer t p q (le_of_suc-le-suc l) in (r.0, ap (λ (x : List ℕ). b ∷ x) r.1)

begins-less : {ss : List Slot} (t : List ℕ) (p q : ℕ) → p ≤ q → Begins ss (take q t) → Begins ss (take p t)
begins-less {ss} t p q l r = let z = longer t p q l in begins-front (take p t) z.0 (subst (Begins ss) z.1 r)

fills-begins : {ss : List Slot} (t : List ℕ) (p : ℕ) → InForm ss t → Begins ss (take p t)
fills-begins {ss} t p r = (drop p t, subst (InForm ss) (sym (take-append-drop p t)) r)

-- the beginning up to the place of a refusal is in order, and with one byte more it is not
in_order : {ss : List Slot} {t : List ℕ} {p : ℕ} → Misformed ss t p → Begins ss (take p t)
in_order (wrong l y n) = y
in_order {ss} {t} (short y n) = subst (Begins ss) (sym (take-length t)) y

no-further : {ss : List Slot} {t : List ℕ} {p q : ℕ} → Misformed ss t p → p < q → q ≤ length t → Begins ss (take q t) → ⊥
no-further {t = t} {p} {q} (wrong l y n) less within r = n (begins-less t (suc p) q less r)
no-further (short y n) less within r = omega (arith, less, within)

place-within : {ss : List Slot} {t : List ℕ} {p : ℕ} → Misformed ss t p → p ≤ length t
place-within (wrong l y n) = omega (arith, l)
place-within (short y n) = omega arith

one_place : {ss : List Slot} {t : List ℕ} {p q : ℕ} → Misformed ss t p → Misformed ss t q → p ≡ q
one_place {p = p} {q} a b =
    elim (dec_lt p q) [
      | yes l ↦ absurd (no-further a l (place-within b) (in_order b))
      | no l ↦ elim (dec_lt q p) [ yes k ↦ absurd (no-further b k (place-within a) (in_order a)) | no k ↦ omega (arith, l, k) ]
    ]

not-filled : {ss : List Slot} {t : List ℕ} {p : ℕ} → Misformed ss t p → InForm ss t → ⊥
not-filled {t = t} {p} (wrong l y n) r = n (fills-begins t (suc p) r)
not-filled (short y n) r = n r

-- refused by 22 at a place where, and only where, the text stops there to be the beginning of one in form
module _ (ss : List Slot) (h : T (plain ss)) (t : List ℕ) (n p : ℕ) where
  pub refused-misformed : filled ss 0 t ≡ refused n p → (n ≡ 22) × Misformed ss t p
  refused-misformed q = by (filled ss 0 t) (told ss h 0 t) q
    where
      by : (a : Answer (List ℕ)) → Told ss 0 t a → a ≡ refused n p → (n ≡ 22) × Misformed ss t p
      by _ (in_form r) q = let z : ◌≡◌ {A = ℕ} 0 1 = cc in absurd (omega arith)
      by _ (out_of_form k m) q = let a : 22 ≡ n = cc in let b : 0 + k ≡ p = cc in (sym a, subst (Misformed ss t) (omega (arith, b)) m)

  pub misformed-refused : Misformed ss t p → filled ss 0 t ≡ refused 22 p
  misformed-refused m = by (filled ss 0 t) (told ss h 0 t)
    where
      by : (a : Answer (List ℕ)) → Told ss 0 t a → a ≡ refused 22 p
      by _ (in_form {bs = bs} r) = absurd (not-filled m (bs, r))
      by _ (out_of_form k o) = let same = one_place m o in ap (refused 22) (omega (arith, same))

-- a text in form is filled in by its own bytes
pub filled_is : {ss : List Slot} {t bs : List ℕ} → T (plain ss) → Fills ss t bs → (i : ℕ) → filled ss i t ≡ taken bs
unfolding filled
filled_is h none i = refl
filled_is h (stands {s = s} {ss = ss} {b = b} k r) i = rw (holds (among b s.bytes) k, filled_is (rest_plain s ss h) r (suc i))
filled_is h (skipped {s = s} {ss = ss} {t = []} k r) i = rw (fails s.must k, filled_is (rest_plain s ss h) r i)
filled_is h (skipped {s = s} {ss = ss} {t = b ∷ t} k r) i = rw (other, fails s.must k, filled_is (rest_plain s ss h) r i)
  where
    other : among b s.bytes ≡ false
    other = fails (among b s.bytes) (not_T (among b s.bytes) (λ m. ⊎_elim (λ x. T_not s.must k x) (λ x. apart b s.bytes (firsts ss) x m (fills_first (b ∷ t) refl r)) (either s.must (disjoint s.bytes (firsts ss)) (second (some s.bytes) (s.must || disjoint s.bytes (firsts ss)) (first (head_plain s ss h) (plain ss) h)))))

pub filled-fills : (ss : List Slot) → T (plain ss) → (t bs : List ℕ) → filled ss 0 t ≡ taken bs → Fills ss t bs
filled-fills ss h t bs q = by (filled ss 0 t) (told ss h 0 t) q
  where
    by : (a : Answer (List ℕ)) → Told ss 0 t a → a ≡ taken bs → Fills ss t bs
    by _ (in_form {bs = cs} r) q = let same : cs ≡ bs = cc in subst (Fills ss t) same r
    by _ (out_of_form k m) q = let z : ◌≡◌ {A = ℕ} 0 1 = cc in absurd (omega arith)
