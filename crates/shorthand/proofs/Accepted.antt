-- Accepted means: the text of a lawful Format, which is the answer.
use Prim.Native.Nat.{ℕ, ◌-◌}
use mathlib.Core.Path.{◌≡◌, refl, sym, ap, ap₂, subst, ◌∙◌}
use mathlib.Core.Bool.{Bool, true, false}
use mathlib.Core.Logic.{◌↔◌}
use mathlib.Core.List.{List, [], ◌∷◌, ◌++◌}
use lib.Dec.{T, eqb}
use lib.ListN.{length, replicate, take}
use lib.Seq.{take-append_seam}
use native.Mathlib.Omega.{arith}
use borrow.Author.Tests.{eqb-true, eqb-false}
use Rattle.std.specs.Prelude.{Some, None}
use Rattle.rows.specs.Answer.{taken, refused}
use Rattle.shorthand.specs.declared.Item.{Item}
use Rattle.shorthand.specs.declared.Format.{Format}
use Rattle.shorthand.specs.Layout.{blank, format_of, items_of}
use Rattle.shorthand.specs.Spell.{digit, spell_item, spell_items, spell}
use Rattle.shorthand.specs.declared.Order.{Order}
use Rattle.shorthand.specs.declared.Edition.{Edition}
use Rattle.shorthand.specs.declared.Edition.TheVariants.{Iso1057, Iso2539}
use Rattle.shorthand.specs.Edition.{number_of, later}
use Rattle.shorthand.specs.Lawful.{dots_fit, LawfulIn, Lawful}
use Rattle.shorthand.specs.Order.{start}
use Rattle.shorthand.specs.Stand.{Dots, dot_fits}
use Rattle.shorthand.specs.Parse.{is_dotted, parsed_in, parsed}
use Rattle.shorthand.proofs.Tests.{fails}
use Rattle.shorthand.proofs.Grammar.{Items, done, next, items-ordered, ordered-items}
use Rattle.shorthand.proofs.Walking.{Steps, stay, step}
use Rattle.shorthand.proofs.Answered.{front_of, Ground, stars, grounds, starred-front}
use Rattle.shorthand.specs.Mending.{Spelt, Mends}

pub items-of : (u : Bool) (n : ℕ) (d : Bool) (its : List Item) → items_of (format_of u n d its) ≡ its
items-of u n d its = take-append_seam its (replicate (22 - length its) blank)

-- ---- lawful items are steps of the walk

same-dot : (e : Edition) (d : Bool) → T (dot_fits e (Some d) d)
same-dot e true = tt
same-dot e false = tt

settled : {e : Edition} {o : Order} {its : List Item} (d : Bool) → Items e o its → (o' : Order) × Steps e (Some d) o its (Some d) o' (spell_items d its)
unfolding spell_items
settled {o = o} d done = (o, stay)
settled {e} d (next l h) = let r = settled d h in (r.0, step d (record { dotted = same-dot e d; ready = l }) r.1)

-- where the items of a lawful Format lead
record Opened (e : Edition) (d : Bool) (its : List Item) : Type 0 where
  dots : Dots
  o : Order
  steps : Steps e None start its dots o (spell_items d its)
  same : is_dotted dots ≡ d

opened : (e : Edition) (d : Bool) {its : List Item} → T (dots_fit e d its) → Items e start its → Opened e d its
unfolding spell_items
opened e d h done = record { dots = None; o = start; steps = stay; same = sym (fails d h) }
opened e d h (next l r) =
    let s = settled d r in
    record { dots = Some d; o = s.0; steps = step d (record { dotted = h; ready = l }) s.1; same = refl }

pub complete-in : {e : Edition} {f : Format} → LawfulIn e f → parsed_in e (spell f) ≡ taken f
unfolding spell
complete-in {e} {f} l =
    let w = opened e f.dots l.dots (ordered-items l.order) in
    let spelled : items_of f ≡ l.items = ap items_of l.parts ∙ items-of (later e) f.sequence f.dots l.items in
    ap (λ (its : List Item). parsed_in e (78 ∷ digit f.sequence ∷ (spell_items f.dots its ++ (42 ∷ [])))) spelled
    ∙ starred-front (front_of f.sequence l.sequence w.steps)
    ∙ ap (λ (d : Bool). taken (format_of (later e) f.sequence d l.items)) w.same
    ∙ ap taken (sym l.parts)

-- ---- and steps of the walk are lawful items

steps-items : {e : Edition} {dots dots' : Dots} {o o' : Order} {its : List Item} {x : List ℕ} → Steps e dots o its dots' o' x → Items e o its
steps-items stay = done
steps-items (step dot f s) = next f.ready (steps-items s)

one-dot : (e : Edition) (d dot : Bool) → T (dot_fits e (Some d) dot) → dot ≡ d
one-dot e true true h = refl
one-dot e true false h = absurd h
one-dot e false true h = absurd h
one-dot e false false h = refl

-- once the dots are settled they stay so
steps-settled : {e : Edition} {dots dots' : Dots} {o o' : Order} {its : List Item} {x : List ℕ} (d : Bool) → dots ≡ Some d → Steps e dots o its dots' o' x
    → (dots' ≡ Some d) × (x ≡ spell_items d its)
unfolding spell_items
steps-settled d q stay = (q, refl)
steps-settled {e} d q (step {it = it} dot f s) =
    let same = one-dot e d dot (subst (λ (x : Dots). T (dot_fits e x dot)) q f.dotted) in
    let r = steps-settled d (ap Some same) s in
    (r.0, ap₂ (λ (b : Bool) (l : List ℕ). spell_item b it ++ l) same r.1)

record Settled (e : Edition) (its : List Item) (dots : Dots) (x : List ℕ) : Type 0 where
  fits : T (dots_fit e (is_dotted dots) its)
  spells : x ≡ spell_items (is_dotted dots) its

steps-opened : {e : Edition} {dots : Dots} {o : Order} {its : List Item} {x : List ℕ} → Steps e None start its dots o x → Settled e its dots x
unfolding spell_items
steps-opened stay = record { fits = tt; spells = refl }
steps-opened (step {it = it} {its = its} {x = x} dot f s) =
    let r = steps-settled dot refl s in
    let same = ap is_dotted r.0 in
    record { fits = rw same f.dotted; spells = subst (λ (b : Bool). spell_item dot it ++ x ≡ spell_items b (it ∷ its)) (sym same) (ap (λ (l : List ℕ). spell_item dot it ++ l) r.1) }

taken-lawful : {e : Edition} {t : List ℕ} {f : Format} → Ground e t (taken f) → (t ≡ spell f) × LawfulIn e f
unfolding spell
taken-lawful {e} (stars {dots = dots} h) =
    let w = steps-opened h.steps in (
      ap (λ (l : List ℕ). l ++ (42 ∷ [])) h.spelled
          ∙ ap (λ (l : List ℕ). 78 ∷ digit h.seq ∷ (l ++ (42 ∷ []))) (w.spells ∙ ap (spell_items (is_dotted dots)) (sym (items-of (later e) h.seq (is_dotted dots) h.its))),
      record { items = h.its; sequence = h.sequence; dots = w.fits; order = items-ordered (steps-items h.steps); parts = refl },
    )

pub sound-in : (e : Edition) (t : List ℕ) (f : Format) → parsed_in e t ≡ taken f → (t ≡ spell f) × LawfulIn e f
sound-in e t f q = taken-lawful (subst (Ground e t) q (grounds e t))

-- ---- by the edition's number

-- an edition's number is its own
pub parsed-in : (e : Edition) (t : List ℕ) → parsed (number_of e) t ≡ parsed_in e t
unfolding parsed
parsed-in Iso1057 t = refl
parsed-in Iso2539 t = refl

-- a number is that of an edition, or is refused
pub data Numbered (n : ℕ) (t : List ℕ) : Type 0 where
  edition : (e : Edition) → n ≡ number_of e → Numbered n t
  none : ((e : Edition) → n ≡ number_of e → ⊥) → parsed n t ≡ refused 1 0 → Numbered n t

pub numbered : (n : ℕ) (t : List ℕ) → Numbered n t
unfolding parsed
numbered n t = by (eqb n 1057) (eqb n 2539) refl refl
  where
    by : (a b : Bool) → eqb n 1057 ≡ a → eqb n 2539 ≡ b → Numbered n t
    by true b p q = edition Iso1057 (eqb-true n 1057 p)
    by false true p q = edition Iso2539 (eqb-true n 2539 q)
    by false false p q = none (λ e. other e) (rw (p, q))
      where
        other : (e : Edition) → n ≡ number_of e → ⊥
        other Iso1057 h = eqb-false n 1057 p h
        other Iso2539 h = eqb-false n 2539 q h

pub complete : {n : ℕ} {f : Format} → Lawful n f → parsed n (spell f) ≡ taken f
complete {n} {f} l = ap (λ m. parsed m (spell f)) l.number ∙ parsed-in l.edition (spell f) ∙ complete-in l.within

pub sound : (n : ℕ) (t : List ℕ) (f : Format) → parsed n t ≡ taken f → (t ≡ spell f) × Lawful n f
sound n t f q = by (numbered n t)
  where
    by : Numbered n t → (t ≡ spell f) × Lawful n f
    by (edition e h) = let r = sound-in e t f (sym (parsed-in e t) ∙ ap (λ m. parsed m t) (sym h) ∙ q) in (r.0, record { edition = e; number = h; within = r.1 })
    by (none h r) = let w : refused 1 0 ≡ taken f = sym r ∙ q in let z : ◌≡◌ {A = ℕ} 0 1 = cc in absurd (omega (arith, z))

pub accepted : (n : ℕ) (t : List ℕ) (f : Format) → (parsed n t ≡ taken f) ↔ ((t ≡ spell f) × Lawful n f)
accepted n t f = (sound n t f, λ h. ap (parsed n) h.0 ∙ complete h.1)

-- one text under one edition has one Format
pub one_format : {n : ℕ} {f g : Format} → Lawful n f → Lawful n g → spell f ≡ spell g → f ≡ g
one_format {n} {f} {g} l m q =
    let a = complete l in
    let b = complete m in
    cc

-- a text of an edition is accepted, and what is accepted is one
pub spelt-accepted : {e : Edition} {t : List ℕ} (s : Spelt e t) → parsed_in e t ≡ taken s.format
spelt-accepted {e} s = ap (parsed_in e) s.text ∙ complete-in s.lawful

pub accepted-spelt : (e : Edition) (t : List ℕ) (f : Format) → parsed_in e t ≡ taken f → Spelt e t
accepted-spelt e t f q = let r = sound-in e t f q in record { format = f; lawful = r.1; text = r.0 }

-- what mends is accepted
pub mends-accepted : {e : Edition} {t : List ℕ} {p : ℕ} (m : Mends e t p) → parsed_in e (take p t ++ (m.x ++ (42 ∷ []))) ≡ taken m.spelt.format
mends-accepted {e} m = spelt-accepted m.spelt
