-- How an item stands: whole exactly where a fit item is spelled, short where further bytes could make it one, unfit whatever follows.
use Prim.Native.Nat.{ℕ, ◌+◌, ◌≤◌}
use native.Mathlib.Omega.{arith}
use mathlib.Core.Path.{◌≡◌, refl, sym, ap, ap₂, subst, ◌∙◌}
use mathlib.Core.Bool.{Bool, true, false, not, cond}
use mathlib.Core.List.{List, [], ◌∷◌, ◌++◌, map, append_assoc, append-nil}
use borrow.Author.Tests.{ne_eqb}
use lib.Dec.{T, eqb, eqb→eq}
use Rattle.shorthand.specs.declared.Mark.{Mark}
use Rattle.shorthand.specs.declared.Mark.TheVariants.{Unmarked, Plus, Delta}
use Rattle.shorthand.specs.declared.Kind.{Kind}
use Rattle.shorthand.specs.declared.Kind.TheVariants.{Plain}
use Rattle.shorthand.specs.declared.Item.{Item}
use Rattle.shorthand.specs.declared.Order.{Order}
use Rattle.shorthand.specs.declared.Edition.{Edition}
use Rattle.shorthand.specs.Spell.{digit, spell_mark, spell_kind, spell_dot, spell_item, starts}
use Rattle.shorthand.specs.Edition.{letters, later, sequence_most}
use Rattle.shorthand.specs.Lawful.{digit_in}
use Rattle.shorthand.specs.Order.{any_due, due}
use Rattle.shorthand.specs.Stand.{Dots, digits_of, after_digits, mark_of, after_mark, pieces, Made, made, more, wrong, one_digit, Stand, whole, short, unfit, closed, lettered, behind_dot, seen, dot_of, named, dot_fits, stand, stand_n}
use Rattle.shorthand.specs.Mending.{apart}
use Rattle.shorthand.proofs.Tests.{holds, fails, by-test}
use Rattle.shorthand.proofs.DigitRuns.{within}
use Rattle.shorthand.proofs.Closing.{Makes, closing, Closes, closes, reads}
use Rattle.shorthand.proofs.MadeKinds.{one-makes, item_of, read, Makes-due, kind-makes, none-wrong, none-due, m-due, kind-shown}
use Rattle.shorthand.proofs.Ranks.{all_of, among-is}
use Rattle.shorthand.proofs.Grammar.{due-letter}

-- ---- the mark

mark-split : (t : List ℕ) → t ≡ spell_mark (mark_of t) ++ after_mark t
mark-split [] = refl
mark-split (b ∷ t) = go (eqb b 43) (eqb b 68) refl refl
  where
    go : (x y : Bool) → eqb b 43 ≡ x → eqb b 68 ≡ y → b ∷ t ≡ spell_mark (cond x Plus (cond y Delta Unmarked)) ++ cond x (cond x t (b ∷ t)) (cond y t (b ∷ t))
    go true y p q = ap (λ (n : ℕ). n ∷ t) (eqb→eq b 43 (rw p tt))
    go false true p q = ap (λ (n : ℕ). n ∷ t) (eqb→eq b 68 (rw q tt))
    go false false p q = refl

mark-further : (b : ℕ) (t u : List ℕ) → after_mark (b ∷ (t ++ u)) ≡ after_mark (b ∷ t) ++ u
mark-further b t u = go (eqb b 43) (eqb b 68)
  where
    go : (x y : Bool) → cond x (cond x (t ++ u) (b ∷ (t ++ u))) (cond y (t ++ u) (b ∷ (t ++ u))) ≡ cond x (cond x t (b ∷ t)) (cond y t (b ∷ t)) ++ u
    go true y = refl
    go false true = refl
    go false false = refl

mark-read : (m : Mark) (a : ℕ) (x : List ℕ) → a ≤ 9 → mark_of (spell_mark m ++ (digit a ∷ x)) ≡ m
mark-read Unmarked a x h = rw (ne_eqb (48 + a) 43 (λ z. omega arith), ne_eqb (48 + a) 68 (λ z. omega arith))
mark-read Plus a x h = refl
mark-read Delta a x h = refl

after-mark-read : (m : Mark) (a : ℕ) (x : List ℕ) → a ≤ 9 → after_mark (spell_mark m ++ (digit a ∷ x)) ≡ digit a ∷ x
after-mark-read Unmarked a x h = rw (ne_eqb (48 + a) 43 (λ z. omega arith), ne_eqb (48 + a) 68 (λ z. omega arith))
after-mark-read Plus a x h = refl
after-mark-read Delta a x h = refl

-- ---- behind the letter

module _ (e : Edition) (o : Order) (c : ℕ) where
  abbrev the : Kind → Item
  the k = item_of e o c k

  abbrev Letters : List ℕ → Stand Item → Type 0
  Letters t (whole it rest) = (k : Kind) × (it ≡ the k) × (t ≡ spell_kind k ++ rest) × T (due e o (the k)) × T (apart rest)
  Letters t short = (u : List ℕ) × (k : Kind) × (t ++ u ≡ spell_kind k) × T (due e o (the k))
  Letters t unfit = (u : List ℕ) → lettered e o (pieces c (t ++ u)) ≡ unfit

  -- the text ends with the letter
  letter-last : Letters [] (lettered e o (pieces c []))
  unfolding digits_of after_digits
  letter-last = by (read e o c Unmarked []) refl (kind-makes e o c Unmarked [] tt)
    where
      by : (m : Made Kind) → read e o c Unmarked [] ≡ m → Makes (read e o c Unmarked) (Makes-due e o c Unmarked) [] m → Letters [] (closed the m [])
      by (made k) q h = (k, refl, sym (append-nil (spell_kind k) ∙ h.0), h.1, tt)
      by more q h = (map digit h.0, h.1, sym h.2.0, h.2.1)
      by wrong q h = λ u. rw (none-wrong e o c q (mark_of u) (digits_of (after_mark u)))

  letter-stands : (t : List ℕ) → Letters t (lettered e o (pieces c t))
  letter-stands [] = letter-last
  letter-stands (b ∷ t) = go (lettered e o (pieces c (b ∷ t))) (closes (read e o c m) (Makes-due e o c m) the (kind-makes e o c m) (after_mark (b ∷ t)))
    where
      m : Mark
      m = mark_of (b ∷ t)

      go : (s : Stand Item) → Closes (read e o c m) (Makes-due e o c m) the (after_mark (b ∷ t)) s → Letters (b ∷ t) s
      go (whole it rest) h = (
        h.1,
        h.2,
        mark-split (b ∷ t) ∙ ap (λ (l : List ℕ). spell_mark m ++ l) h.3
            ∙ sym (append_assoc (spell_mark m) (map digit h.0) rest) ∙ ap (λ (l : List ℕ). l ++ rest) (sym h.4.0),
        h.4.1,
        h.5,
      )
      go short h = (
        h.0,
        h.2,
        ap (λ (l : List ℕ). l ++ h.0) (mark-split (b ∷ t)) ∙ append_assoc (spell_mark m) (after_mark (b ∷ t)) h.0
            ∙ ap (λ (l : List ℕ). spell_mark m ++ l) h.3 ∙ sym h.4.0,
        h.4.1,
      )
      go unfit h = λ u. rw (mark-further b t u) (h u)

  letter-reads : (k : Kind) (rest : List ℕ) → T (due e o (the k)) → T (apart rest) → lettered e o (pieces c (spell_kind k ++ rest)) ≡ whole (the k) rest
  letter-reads k rest h stops =
      let s = kind-shown e o c k h in
      let x = map digit s.digits ++ rest in
      ap (λ (l : List ℕ). lettered e o (pieces c (l ++ rest))) s.spells
      ∙ ap (λ (l : List ℕ). lettered e o (pieces c l)) (append_assoc (spell_mark s.mark) (map digit (s.lead ∷ s.digits)) rest)
      ∙ ap₂ (λ (m : Mark). closing (read e o c m) (Makes-due e o c m) the) (mark-read s.mark s.lead x s.small.0)
      (after-mark-read s.mark s.lead x s.small.0)
      ∙ reads (read e o c s.mark) (Makes-due e o c s.mark) the (s.lead ∷ s.digits) rest s.makes s.small stops

-- ---- from the letter on

-- the letter of an item that may come passes whatever all the letters pass
pub letter-is : (e : Edition) (o : Order) (it : Item) → T (due e o it) → (g : ℕ → Bool) → T (all_of g letters) → T (g it.letter)
letter-is e o it d g a = among-is g letters a it.letter (due-letter e o it d)

module _ (e : Edition) (o : Order) (dot : Bool) where
  abbrev Names : List ℕ → Stand Item → Type 0
  Names t (whole it rest) = T (due e o it) × (t ≡ it.letter ∷ (spell_kind it.kind ++ rest)) × T (apart rest)
  Names t short = (u : List ℕ) × (it : Item) × T (due e o it) × (t ++ u ≡ it.letter ∷ spell_kind it.kind)
  Names t unfit = (u : List ℕ) → named e o (behind_dot dot (t ++ u)) ≡ unfit

  name-stands : (t : List ℕ) → Names t (named e o (behind_dot dot t))
  name-stands [] =
      by-test (Names []) (any_due o) (λ h. (77 ∷ 50 ∷ [], item_of e o 77 (Plain 2), m-due e o h, refl)) none
    where
      none : T (not (any_due o)) → (u : List ℕ) → named e o (behind_dot dot u) ≡ unfit
      none h [] = rw (fails (any_due o) h)
      none h (c ∷ t) = rw (none-due e o h c (mark_of t) (digits_of (after_mark t)))
  name-stands (c ∷ t) = go (lettered e o (pieces c t)) (letter-stands e o c t)
    where
      go : (s : Stand Item) → Letters e o c t s → Names (c ∷ t) s
      go (whole it rest) h =
          subst (λ (x : Item). Names (c ∷ t) (whole x rest)) (sym h.1) (h.3, ap (λ (l : List ℕ). c ∷ l) h.2, h.4)
      go short h = (h.0, item_of e o c h.1, h.3, ap (λ (l : List ℕ). c ∷ l) h.2)
      go unfit h = h

-- ---- from the dot on

dot-split : (b : ℕ) (t : List ℕ) (x : Bool) → eqb b 46 ≡ x → b ∷ t ≡ spell_dot x ++ cond x t (b ∷ t)
dot-split b t true q = ap (λ (n : ℕ). n ∷ t) (eqb→eq b 46 (rw q tt))
dot-split b t false q = refl

dot-further : (b : ℕ) (t u : List ℕ) (x : Bool) → cond x (t ++ u) (b ∷ (t ++ u)) ≡ cond x t (b ∷ t) ++ u
dot-further b t u true = refl
dot-further b t u false = refl

dot-of : (x : Bool) (s : List ℕ) → dot_of (behind_dot x s) ≡ x
dot-of x [] = refl
dot-of x (c ∷ s) = refl

module _ (e : Edition) (dots : Dots) (o : Order) where
  -- an item that may stand there, with this dot or none
  pub record Fit (dot : Bool) (it : Item) : Type 0 where
    pub dotted : T (dot_fits e dots dot)
    pub ready : T (due e o it)

  abbrev pub Stands : List ℕ → Stand Item → Type 0
  Stands t (whole it rest) = Fit (starts 46 t) it × (t ≡ spell_item (starts 46 t) it ++ rest) × T (apart rest)
  Stands t short = (u : List ℕ) × (dot : Bool) × (it : Item) × Fit dot it × (t ++ u ≡ spell_item dot it)
  Stands t unfit = (u : List ℕ) → stand e dots o (seen (t ++ u)) ≡ unfit

  pub stands : (b : ℕ) (t : List ℕ) → Stands (b ∷ t) (stand e dots o (seen (b ∷ t)))
  unfolding stand seen
  stands b t = go (eqb b 46) refl
    where
      then : (x : Bool) → eqb b 46 ≡ x → T (dot_fits e dots x) → (s : Stand Item) → Names e o x (cond x t (b ∷ t)) s → Stands (b ∷ t) s
      then x q d (whole it rest) h = (
        rw q (record { dotted = d; ready = h.0 }),
        rw q (dot-split b t x q ∙ ap (λ (l : List ℕ). spell_dot x ++ l) h.1 ∙ sym (append_assoc (spell_dot x) (it.letter ∷ spell_kind it.kind) rest)),
        h.2,
      )
      then x q d short h = (
        h.0,
        x,
        h.1,
        record { dotted = d; ready = h.2 },
        ap (λ (l : List ℕ). l ++ h.0) (dot-split b t x q) ∙ append_assoc (spell_dot x) (cond x t (b ∷ t)) h.0 ∙ ap (λ (l : List ℕ). spell_dot x ++ l) h.3,
      )
      then x q d unfit h = λ u. rw (q, dot-of x (cond x (t ++ u) (b ∷ (t ++ u))), holds (dot_fits e dots x) d, dot-further b t u x) (h u)

      go : (x : Bool) → eqb b 46 ≡ x → Stands (b ∷ t) (cond (dot_fits e dots (dot_of (behind_dot (eqb b 46) (cond (eqb b 46) t (b ∷ t))))) (named e o (behind_dot (eqb b 46) (cond (eqb b 46) t (b ∷ t)))) unfit)
      go x q = rw (q, dot-of x (cond x t (b ∷ t)))
          (by-test (Stands (b ∷ t)) (dot_fits e dots x)
          (λ h. then x q h (named e o (behind_dot x (cond x t (b ∷ t)))) (name-stands e o x (cond x t (b ∷ t))))
          (λ h u. rw (q, dot-of x (cond x (t ++ u) (b ∷ (t ++ u))), fails (dot_fits e dots x) h)))

  pub stand-reads : (dot : Bool) (it : Item) (rest : List ℕ) → Fit dot it → T (apart rest) → stand e dots o (seen (spell_item dot it ++ rest)) ≡ whole it rest
  unfolding stand seen
  stand-reads true it rest f stops =
      rw (holds (dot_fits e dots true) f.dotted) (letter-reads e o it.letter it.kind rest f.ready stops)
  stand-reads false it rest f stops =
      rw (fails (eqb it.letter 46) (letter-is e o it f.ready (λ c. not (eqb c 46)) tt), holds (dot_fits e dots false) f.dotted)
      (letter-reads e o it.letter it.kind rest f.ready stops)

  -- what stands whole may come
  pub whole-due : (t : List ℕ) {it : Item} {rest : List ℕ} → stand e dots o (seen t) ≡ whole it rest → T (due e o it)
  unfolding stand seen
  whole-due [] {it} {rest} =
      by-test (λ (s : Stand Item). s ≡ whole it rest → T (due e o it)) (dot_fits e dots false)
      (λ h. by-test (λ (s : Stand Item). s ≡ whole it rest → T (due e o it)) (any_due o) (λ k q. let z : ◌≡◌ {A = ℕ} 0 1 = cc in absurd (omega arith)) (λ k q. let z : ◌≡◌ {A = ℕ} 0 1 = cc in absurd (omega arith)))
      (λ h q. let z : ◌≡◌ {A = ℕ} 0 1 = cc in absurd (omega arith))
  whole-due (b ∷ t) = λ q. (subst (Stands (b ∷ t)) q (stands b t)).0.ready

-- ---- the N item

module _ (e : Edition) where
  abbrev pub Numbers : List ℕ → Stand ℕ → Type 0
  Numbers t (whole seq rest) = T (digit_in 3 (sequence_most e) seq) × (t ≡ 78 ∷ digit seq ∷ rest) × T (apart rest)
  Numbers t short = (u : List ℕ) × (seq : ℕ) × T (digit_in 3 (sequence_most e) seq) × (t ++ u ≡ 78 ∷ digit seq ∷ [])
  Numbers t unfit = (u : List ℕ) → stand_n e (t ++ u) ≡ unfit

  abbrev one : List ℕ → Made ℕ
  one = one_digit 3 (sequence_most e) (λ d. d)

  abbrev One : List ℕ → ℕ → Type 0
  One ds d = (ds ≡ d ∷ []) × T (digit_in 3 (sequence_most e) d)

  three-fits : T (digit_in 3 (sequence_most e) 3)
  three-fits = by-test (λ (n : ℕ). T (digit_in 3 n 3)) (later e) (λ h. tt) (λ h. tt)

  pub sequence-small : (seq : ℕ) → T (digit_in 3 (sequence_most e) seq) → seq ≤ 9
  sequence-small seq h =
      let w = within 3 (sequence_most e) seq h in
      let most : sequence_most e ≤ 9 = by-test (λ (n : ℕ). n ≤ 9) (later e) (λ h. omega arith) (λ h. omega arith) in
      omega arith

  pub numbers : (t : List ℕ) → Numbers t (stand_n e t)
  unfolding stand_n
  numbers [] = (78 ∷ 51 ∷ [], 3, three-fits, refl)
  numbers (c ∷ t) =
      by-test (Numbers (c ∷ t)) (eqb c 78)
      (λ h.
      go h (closing one One (λ d. d) t)
      (closes one One (λ d. d) (λ ds small. one-makes 3 (sequence_most e) (λ d. d) One three-fits (λ d k. (refl, k)) ds) t))
      (λ h u. rw (fails (eqb c 78) h))
    where
      go : T (eqb c 78) → (s : Stand ℕ) → Closes one One (λ d. d) t s → Numbers (c ∷ t) s
      go q (whole seq rest) h = (
        rw h.2 h.4.1,
        ap₂ (λ (n : ℕ) (l : List ℕ). n ∷ l) (eqb→eq c 78 q)
            (h.3 ∙ ap (λ (l : List ℕ). map digit l ++ rest) h.4.0 ∙ ap (λ (n : ℕ). digit n ∷ rest) (sym h.2)),
        h.5,
      )
      go q short h = (h.0, h.2, h.4.1, ap₂ (λ (n : ℕ) (l : List ℕ). n ∷ l) (eqb→eq c 78 q) (h.3 ∙ ap (λ (l : List ℕ). map digit l) h.4.0))
      go q unfit h = λ u. rw (holds (eqb c 78) q) (h u)

  pub number-reads : (seq : ℕ) (rest : List ℕ) → T (digit_in 3 (sequence_most e) seq) → T (apart rest) → stand_n e (78 ∷ digit seq ∷ rest) ≡ whole seq rest
  unfolding stand_n
  number-reads seq rest h stops =
      reads one One (λ d. d) (seq ∷ []) rest (rw (holds (digit_in 3 (sequence_most e) seq) h)) (sequence-small seq h, tt) stops
