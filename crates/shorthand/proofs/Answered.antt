-- The answer from both sides: what it is where N and items are spelled, and what is spelled where it is given.
use Prim.Native.Nat.{ℕ, suc, ◌+◌, ◌-◌, ◌≤◌}
use native.Mathlib.Nat.{zero-add}
use native.Mathlib.Omega.{arith}
use mathlib.Core.Path.{◌≡◌, refl, sym, ap, ap₂, subst, ◌∙◌}
use mathlib.Core.Bool.{false}
use mathlib.Core.List.{List, [], ◌∷◌, ◌++◌, append-nil}
use lib.Dec.{T, eqb}
use lib.ListN.{length, length-append}
use Rattle.std.specs.Prelude.{None}
use Rattle.rows.specs.Answer.{Answer, taken, refused}
use Rattle.shorthand.specs.declared.Item.{Item}
use Rattle.shorthand.specs.declared.Format.{Format}
use Rattle.shorthand.specs.Layout.{format_of}
use Rattle.shorthand.specs.Spell.{digit, spell_kind, spell_dot, spell_item}
use Rattle.shorthand.specs.declared.Order.{Order}
use Rattle.shorthand.specs.declared.Edition.{Edition}
use Rattle.shorthand.specs.declared.Edition.TheVariants.{Iso2539}
use Rattle.shorthand.specs.Edition.{sequence_most, later}
use Rattle.shorthand.specs.Order.{start}
use Rattle.shorthand.specs.Lawful.{digit_in}
use Rattle.shorthand.specs.Stand.{Dots, Stand, whole, short, unfit, seen, stand, stand_n}
use Rattle.shorthand.specs.Parse.{beyond, is_dotted, leads, items_from, parsed_in}
use Rattle.shorthand.specs.Mending.{apart}
use Rattle.shorthand.proofs.Standing.{Numbers, numbers, number-reads}
use Rattle.shorthand.proofs.Walking.{at, Steps, stay, step, steps_apart, fuel, forward, End, out, star, past, lacks, bars, Walk, walks}

-- the front of a text: N and the items its, spelled, which bring the walk to this state
pub record Front (e : Edition) (dots : Dots) (o : Order) (x : List ℕ) : Type 0 where
  pub seq : ℕ
  pub sequence : T (digit_in 3 (sequence_most e) seq)
  pub its : List Item
  pub items : List ℕ
  pub steps : Steps e None start its dots o items
  pub spelled : x ≡ 78 ∷ digit seq ∷ items

abbrev pub front_of : {e : Edition} {dots : Dots} {o : Order} {its : List Item} {x : List ℕ} (seq : ℕ) → T (digit_in 3 (sequence_most e) seq)
    → Steps e None start its dots o x → Front e dots o (78 ∷ digit seq ∷ x)
front_of {its = its} {x = x} seq d s = record { seq = seq; sequence = d; its = its; items = x; steps = s; spelled = refl }

-- ---- every answer has one of these grounds

pub data Ground (e : Edition) : List ℕ → Answer Format → Type 0 where
  number_lacks : {t : List ℕ} → stand_n e t ≡ short → Ground e t (refused 2 (length t))
  number_bars : {t : List ℕ} → stand_n e t ≡ unfit → Ground e t (refused (beyond (stand_n Iso2539 t)) 0)
  ends : {dots : Dots} {o : Order} {x : List ℕ} → Front e dots o x → Ground e x (refused 2 (length x))
  stars : {dots : Dots} {o : Order} {x : List ℕ} (h : Front e dots o x)
      → Ground e (x ++ (42 ∷ [])) (taken (format_of (later e) h.seq (is_dotted dots) h.its))
  follows : {dots : Dots} {o : Order} {x : List ℕ} (b : ℕ) (t : List ℕ) → Front e dots o x → Ground e (x ++ (42 ∷ (b ∷ t))) (refused 2 (length x + 1))
  item_lacks : {dots : Dots} {o : Order} {x : List ℕ} (b : ℕ) (t : List ℕ) → Front e dots o x → stand e dots o (seen (b ∷ t)) ≡ short
      → Ground e (x ++ (b ∷ t)) (refused 2 (length x + length (b ∷ t)))
  item_bars : {dots : Dots} {o : Order} {x : List ℕ} (b : ℕ) (t : List ℕ) → Front e dots o x → T (apart (b ∷ t)) → eqb b 42 ≡ false
      → stand e dots o (seen (b ∷ t)) ≡ unfit → Ground e (x ++ (b ∷ t)) (refused (beyond (stand Iso2539 dots o (seen (b ∷ t)))) (length x))

at_end : {e : Edition} {dots : Dots} {o : Order} {x rest : List ℕ} {a : Answer Format} (h : Front e dots o x) → T (apart rest)
    → End e dots o (format_of (later e) h.seq (is_dotted dots) h.its) (length x) rest a → Ground e (x ++ rest) a
at_end {e} {x = x} h stops out = subst (λ (l : List ℕ). Ground e l (refused 2 (length x))) (sym (append-nil x)) (ends h)
at_end h stops star = stars h
at_end h stops (past {b} {t}) = follows b t h
at_end h stops (lacks {b} {t} r) = item_lacks b t h r
at_end h stops (bars {b} {t} q r) = item_bars b t h stops q r

walked : {e : Edition} (seq : ℕ) {rest : List ℕ} {a : Answer Format} → T (digit_in 3 (sequence_most e) seq) → Walk e seq None start [] 2 rest a
    → Ground e (78 ∷ digit seq ∷ rest) a
walked {e} seq {a = a} d w =
    let h : Front e w.dots' w.o' (78 ∷ digit seq ∷ w.x) = front_of seq d w.steps in
    subst (λ (l : List ℕ). Ground e (78 ∷ digit seq ∷ l) a) (sym w.splits)
    (at_end h w.stops
    (subst (λ (p : ℕ). End e w.dots' w.o' (format_of (later e) seq (is_dotted w.dots') w.its) p w.rest a) (omega arith) w.ends))

pub grounds : (e : Edition) (t : List ℕ) → Ground e t (parsed_in e t)
unfolding parsed_in
grounds e t = go (stand_n e t) refl (numbers e t)
  where
    items : ℕ → List ℕ → Answer Format
    items seq rest = items_from (length t) e (at seq None start [] (length t - length rest)) rest

    go : (s : Stand ℕ) → stand_n e t ≡ s → Numbers e t s → Ground e t (leads 0 t s (beyond (stand_n Iso2539 t)) items)
    go (whole seq rest) r h =
        subst (λ (l : List ℕ). Ground e l (items seq rest)) (sym h.1)
        (walked seq h.0
        (subst (λ (p : ℕ). Walk e seq None start [] p rest (items seq rest)) (omega (arith, ap length h.1))
        (walks e seq (length t) None start [] (length t - length rest) rest (omega (arith, ap length h.1)) h.2)))
    go short r h = rw (zero-add (length t)) (number_lacks r)
    go unfit r h = number_bars r

-- ---- and a front is passed, whatever follows it

steps-length : {e : Edition} {dots dots' : Dots} {o o' : Order} {its : List Item} {x : List ℕ} → Steps e dots o its dots' o' x → length its ≤ length x
steps-length stay = omega arith
steps-length (step {it = it} {x = x} dot f s) =
    omega (arith, steps-length s, length-append (spell_item dot it) x, length-append (spell_dot dot) (it.letter ∷ spell_kind it.kind))

fuel-adds : (its : List Item) (n : ℕ) → fuel its n ≡ length its + n
fuel-adds [] n = omega arith
fuel-adds (it ∷ its) n = omega (arith, fuel-adds its n)

module _ {e : Edition} {dots : Dots} {o : Order} {x : List ℕ} (h : Front e dots o x) where
  pub resumed : (rest : List ℕ) → T (apart rest)
      → (n : ℕ) × (length rest ≤ n) × (parsed_in e (x ++ rest) ≡ items_from (suc n) e (at h.seq dots o h.its (length x)) rest)
  unfolding parsed_in
  resumed rest stops =
      let y = h.items in
      let l = length (y ++ rest) in
      let n = suc l - length h.its in
      let enough : length h.its ≤ length y = steps-length h.steps in
      let sum : l ≡ length y + length rest = length-append y rest in (
        n,
        omega arith,
        ap (λ (t : List ℕ). parsed_in e (t ++ rest)) h.spelled
            ∙ rw (number-reads e h.seq (y ++ rest) h.sequence (steps_apart h.steps rest stops))
            (ap₂ (λ (m p : ℕ). items_from m e (at h.seq None start [] p) (y ++ rest)) (omega (arith, fuel-adds h.its (suc n))) (omega arith)
            ∙ forward e h.seq h.steps (suc n) [] 2 rest stops
            ∙ ap (λ (p : ℕ). items_from (suc n) e (at h.seq dots o h.its p) rest) (omega (arith, ap length h.spelled))),
      )

  -- "*" behind it is taken
  pub starred-front : parsed_in e (x ++ (42 ∷ [])) ≡ taken (format_of (later e) h.seq (is_dotted dots) h.its)
  unfolding items_from
  starred-front = (resumed (42 ∷ []) tt).2
