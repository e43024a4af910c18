-- How items stand, read at places of the text.
use Prim.Native.Nat.{ℕ, ◌+◌, ◌≤◌, ◌<◌}
use mathlib.Core.Path.{◌≡◌, refl, sym}
use mathlib.Core.Bool.{Bool, true, false, ◌&&◌, ◌||◌, cond, false≢true}
use mathlib.Core.List.{List, [], ◌∷◌}
use native.Mathlib.Nat.{zero-add}
use native.Mathlib.Omega.{arith}
use lib.ListN.{length, get_or, drop, drop_of_length-le}
use lib.Dec.{eqb, leb}
use borrow.Author.Tests.{eqb-true, eqb-false, eq-eqb, ne_eqb, le-leb, lt-leb, leb-true}
use Rattle.std.specs.List.{starts_with}
use Rattle.std.specs.Prelude.{Option, Some, None, Ok, Err}
use Rattle.rows.specs.declared.refusals.Cause.{Cause}
use Rattle.rows.specs.declared.refusals.Cause.TheVariants.{ShorthandForm, BeyondEdition}
use Rattle.shorthand.specs.declared.Edition.{Edition}
use Rattle.shorthand.specs.declared.Edition.TheVariants.{Iso2539}
use Rattle.shorthand.specs.declared.Order.{Order}
use Rattle.shorthand.specs.declared.Read.{Read}
use Rattle.shorthand.specs.declared.Digits.TheVariants.{Empty}
use Rattle.shorthand.specs.declared.Digits.{Digits}
use Rattle.shorthand.specs.declared.Draft.{Draft}
use Rattle.shorthand.specs.declared.Kind.{Kind}
use Rattle.shorthand.specs.declared.Item.{Item}
use Rattle.shorthand.specs.declared.Mark.{Mark}
use Rattle.shorthand.specs.declared.Unmade.{Unmade}
use Rattle.shorthand.specs.declared.Unmade.TheVariants.{Short, Unfit}
use Rattle.shorthand.specs.Edition.{later, sequence_most}
use Rattle.shorthand.specs.Lawful.{digit_in}
use Rattle.shorthand.specs.Spell.{starts}
use Rattle.shorthand.specs.Stand.{Dots, without, digits_of, after_digits, mark_of, after_mark, made, wrong, one_digit, Stand, whole, short, unfit, closed, dot_fits, nothing, item, seen, stand, stand_n}
use Rattle.shorthand.specs.Places.{digits_in, added_all, making, Begins, drafted, found, Opens}
use Rattle.shorthand.proofs.Runs.{from_place}
use Rattle.shorthand.proofs.Makes.{one-enough, kind-enough}

-- ---- a word item

-- behind its dot, or where it has none, an item goes on at the place front
pub record Fronts (t : List ℕ) (at front : ℕ) : Type 0 where
  pub dot : eqb (get_or t at 0) 46 ≡ starts 46 (drop at t)
  pub there : without 46 (drop at t) ≡ drop front t
  pub behind : at ≤ front
  pub within : front ≤ length t

module _ (t : List ℕ) (at : ℕ) (h : at < length t) where
  pub front-dotted : eqb (get_or t at 0) 46 ≡ true → Fronts t at (at + 1)
  front-dotted d = record { dot = rw (from_place t at h); there = rw (from_place t at h, d); behind = omega arith; within = omega arith }

  pub front-plain : eqb (get_or t at 0) 46 ≡ false → Fronts t at at
  front-plain d = record { dot = rw (from_place t at h); there = rw (from_place t at h, d); behind = omega arith; within = omega arith }

module _ {t : List ℕ} {at front : ℕ} (f : Fronts t at front) where
  pub sees-nothing : length t ≤ front → seen (drop at t) ≡ nothing (starts 46 (drop at t))
  unfolding seen
  sees-nothing h = rw (f.there, drop_of_length-le t h)

  -- as the mark and the digits behind the letter are read
  pub sees-item : front < length t → (m : Read Mark) (r : Read Digits)
      → m.value ≡ mark_of (drop (front + 1) t) → Begins t (front + 1) (after_mark (drop (front + 1) t)) m.after
      → r.value ≡ added_all Empty (digits_of (drop m.after t)) → Begins t m.after (after_digits (drop m.after t)) r.after
      → (e : Edition) (dots : Dots) (o : Order)
      → stand e dots o (item (starts 46 (drop at t)) (record { letter = get_or t front 0; mark = m.value; digits = digits_in r.value; rest = drop r.after t }))
      ≡ stand e dots o (seen (drop at t))
  unfolding seen stand
  sees-item h m r p b q d e dots o = rw (f.there, from_place t front h, p, q, d.there, b.there, kind-enough)

pub stand-undotted : (e : Edition) (dots : Dots) (o : Order) (dot : Bool) (rest : List ℕ) (d : Option Draft) → dot_fits e dots dot ≡ false → stand e dots o (drafted dot rest d) ≡ unfit
unfolding stand
stand-undotted e dots o dot rest None h = rw h
stand-undotted e dots o dot rest (Some d) h = rw h

-- where more digits are wanted
pub lacks-at_end : (f : Kind → Item) (u : Unmade) → found [] (Err u) ≡ closed f (making (Err u)) []
lacks-at_end f Short = refl
lacks-at_end f Unfit = refl

pub unfit-within : (f : Kind → Item) (u : Unmade) (b : ℕ) (rest : List ℕ) → unfit ≡ closed f (making (Err u)) (b ∷ rest)
unfit-within f Short b rest = refl
unfit-within f Unfit b rest = refl

-- ---- N

pub starts-with : (c : ℕ) (t : List ℕ) → starts_with eqb t (c ∷ []) ≡ starts c t
starts-with c [] = refl
starts-with c (b ∷ t) = go (eqb c b) refl
  where
    go : (x : Bool) → eqb c b ≡ x → x && true ≡ eqb b c
    go true e = sym (eq-eqb b c (sym (eqb-true c b e)))
    go false e = sym (ne_eqb b c (λ q. eqb-false c b e (sym q)))

pub sequence-reads : (t : List ℕ) (r : Read Digits) → starts 78 t ≡ true
    → r.value ≡ added_all Empty (digits_of (drop 1 t)) → Begins t 1 (after_digits (drop 1 t)) r.after
    → stand_n Iso2539 t ≡ closed (λ d. d) (one_digit 3 9 (λ d. d) (digits_in r.value)) (drop r.after t)
unfolding stand_n
sequence-reads [] r n q d = absurd (false≢true n)
sequence-reads (c ∷ t) r n q d = rw (n, q, d.there, one-enough)

-- an N item that is in form, in an edition: the later one takes it, the other where its digit is at most 3
abbrev taking : Bool → Stand ℕ → Stand ℕ
taking late (whole d rest) = cond (late || leb d 3) (whole d rest) unfit
taking late short = short
taking late unfit = unfit

digit-taken : (late : Bool) (d : ℕ) (rest : List ℕ)
    → closed (λ n. n) (cond (digit_in 3 (cond late 9 3) d) (made d) wrong) rest ≡ taking late (closed (λ n. n) (cond (digit_in 3 9 d) (made d) wrong) rest)
digit-taken true d rest = go (digit_in 3 9 d)
  where
    go : (b : Bool) → closed (λ n. n) (cond b (made d) wrong) rest ≡ taking true (closed (λ n. n) (cond b (made d) wrong) rest)
    go true = refl
    go false = refl
digit-taken false d rest = go (leb 3 d) (leb d 9) (leb d 3) refl (λ h. le-leb d 9 (omega (arith, leb-true d 3 h)))
  where
    go : (a b x : Bool) → leb d 3 ≡ x → (x ≡ true → b ≡ true)
        → closed (λ n. n) (cond (a && x) (made d) wrong) rest ≡ taking false (closed (λ n. n) (cond (a && b) (made d) wrong) rest)
    go false b x e h = refl
    go true true true e h = rw e
    go true true false e h = rw e
    go true false true e h = absurd (false≢true (h refl))
    go true false false e h = refl

digits-taken : (late : Bool) (ds rest : List ℕ)
    → closed (λ n. n) (one_digit 3 (cond late 9 3) (λ n. n) ds) rest ≡ taking late (closed (λ n. n) (one_digit 3 9 (λ n. n) ds) rest)
digits-taken late [] [] = refl
digits-taken late [] (b ∷ rest) = refl
digits-taken late (d ∷ []) rest = digit-taken late d rest
digits-taken late (d ∷ (x ∷ ds)) rest = refl

pub sequence-taken : (e : Edition) (t : List ℕ) → stand_n e t ≡ taking (later e) (stand_n Iso2539 t)
unfolding stand_n
sequence-taken e [] = refl
sequence-taken e (c ∷ t) = go (eqb c 78)
  where
    go : (b : Bool)
        → cond b (closed (λ n. n) (one_digit 3 (sequence_most e) (λ n. n) (digits_of t)) (after_digits t)) unfit
        ≡ taking (later e) (cond b (closed (λ n. n) (one_digit 3 9 (λ n. n) (digits_of t)) (after_digits t)) unfit)
    go true = digits-taken (later e) (digits_of t) (after_digits t)
    go false = refl

-- a refusal of the N item: for this cause, at this place
abbrev pub Refuses : Edition → List ℕ → Cause → ℕ → Type 0
Refuses e t c p = Opens e t (Err (record { cause = c; place = p }))

module _ (e : Edition) (t : List ℕ) where
  pub opens-short : stand_n Iso2539 t ≡ short → Refuses e t ShorthandForm (length t)
  opens-short s = λ k. rw (sequence-taken e t, s, zero-add)

  pub opens-unfit : stand_n Iso2539 t ≡ unfit → Refuses e t ShorthandForm 0
  opens-unfit s = λ k. rw (sequence-taken e t, s)

  pub opens-beyond : {d : ℕ} {rest : List ℕ} → stand_n Iso2539 t ≡ whole d rest → later e ≡ false → 3 < d → Refuses e t BeyondEdition 0
  opens-beyond {d} s l h = λ k. rw (sequence-taken e t, s, l, lt-leb d 3 h)

  pub opens-whole : {d : ℕ} (n : ℕ) → stand_n Iso2539 t ≡ whole d (drop n t) → later e || leb d 3 ≡ true → n ≤ length t → Opens e t (Ok (record { value = d; after = n }))
  opens-whole n s h w = (rw (sequence-taken e t, s, h), w)

pub opens-otherwise : (e : Edition) (t : List ℕ) → starts 78 t ≡ false → Refuses e t ShorthandForm 0
unfolding stand_n
opens-otherwise e [] h = λ k. refl
opens-otherwise e (c ∷ t) h = λ k. rw h
