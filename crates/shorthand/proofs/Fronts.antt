-- Fronts of a text: with one more item, and under the later edition.
use Prim.Native.Nat.{ℕ}
use mathlib.Core.Path.{◌≡◌, refl, sym, ap, subst}
use mathlib.Core.Bool.{Bool, true, ◌&&◌, not}
use mathlib.Core.List.{List, [], ◌∷◌, ◌++◌, map, append_assoc, append-nil}
use lib.Dec.{T, eqb, eqb_refl}
use Rattle.std.specs.Prelude.{Some, None}
use Rattle.shorthand.specs.declared.Missing.{Missing}
use Rattle.shorthand.specs.declared.Missing.TheVariants.{Nothing, Leading, Trailing}
use Rattle.shorthand.specs.declared.Kind.{Kind}
use Rattle.shorthand.specs.declared.Kind.TheVariants.{Plain, Speed, Dimension}
use Rattle.shorthand.specs.declared.Item.{Item}
use Rattle.shorthand.specs.declared.Order.{Order}
use Rattle.shorthand.specs.declared.Edition.{Edition}
use Rattle.shorthand.specs.declared.Edition.TheVariants.{Iso2539}
use Rattle.shorthand.specs.Spell.{spell_kind, spell_dot, spell_item}
use Rattle.shorthand.specs.Edition.{later, sequence_most}
use Rattle.shorthand.specs.Lawful.{plain_kind, speed_kind, figures_fit, dimension_kind}
use Rattle.shorthand.specs.Order.{due, after}
use Rattle.shorthand.specs.Stand.{Dots, figured, dot_fits}
use Rattle.shorthand.proofs.Tests.{both, first, second}
use Rattle.shorthand.proofs.DigitRuns.{within, inside, speed-wider}
use Rattle.shorthand.proofs.MadeKinds.{figured-says, dimensioned-of}
use Rattle.shorthand.proofs.Roles.{Turn, general, speed, tool, function, test_of, feeding, dimension-kind, Role, as_feed, as_dimension, in_turn, role-of, role-due}
use Rattle.shorthand.proofs.Standing.{Fit, sequence-small}
use Rattle.shorthand.proofs.Walking.{Steps, stay, step}
use Rattle.shorthand.proofs.Answered.{Front}

-- ---- one more item

steps-more : {e : Edition} {dots dots' : Dots} {o o' : Order} {its : List Item} {x : List ℕ} (dot : Bool) (it : Item)
    → Steps e dots o its dots' o' x → Fit e dots' o' dot it → Steps e dots o (its ++ (it ∷ [])) (Some dot) (after o' it) (x ++ spell_item dot it)
steps-more {e} {dots} {o = o} dot it stay f =
    subst (λ (l : List ℕ). Steps e dots o (it ∷ []) (Some dot) (after o it) l) (append-nil (spell_item dot it)) (step dot f stay)
steps-more {e} {dots} {o = o} {o' = o'} dot it (step {it = it'} {its = its} {x = x} dot' f' s) f =
    subst (λ (l : List ℕ). Steps e dots o (it' ∷ (its ++ (it ∷ []))) (Some dot) (after o' it) l)
    (sym (append_assoc (spell_item dot' it') x (spell_item dot it)))
    (step dot' f' (steps-more dot it s f))

pub front-more : {e : Edition} {dots : Dots} {o : Order} {x : List ℕ} (dot : Bool) (it : Item) → Front e dots o x → Fit e dots o dot it
    → Front e (Some dot) (after o it) (x ++ spell_item dot it)
front-more dot it h f =
    record {
      seq = h.seq;
      sequence = h.sequence;
      its = h.its ++ (it ∷ []);
      items = h.items ++ spell_item dot it;
      steps = steps-more dot it h.steps f;
      spelled = ap (λ (l : List ℕ). l ++ spell_item dot it) h.spelled;
    }

-- ---- the later edition reads the same front

-- the same text, with the later edition's meaning of a missing sign
abbrev widened : Kind → Kind
widened (Plain n) = Plain n
widened (Speed n) = Speed n
widened (Dimension d) = figured Iso2539 d.mark d.missing d.before d.after

widened-spells : (k : Kind) → spell_kind (widened k) ≡ spell_kind k
widened-spells (Plain n) = refl
widened-spells (Speed n) = refl
widened-spells (Dimension d) = refl

figures-widen : (e : Edition) (z : Missing) (a b : ℕ) → T (figures_fit e z a b) → T (figures_fit Iso2539 z a b)
figures-widen e Nothing a b h = h
figures-widen e Leading a b h = second (later e) (not (eqb b 0)) h
figures-widen e Trailing a b h = second (later e) (not (eqb a 0)) h

dimension-widens : (e : Edition) (k : Kind) → T (dimension_kind e k) → T (dimension_kind Iso2539 (widened k))
dimension-widens e (Plain n) h = h
dimension-widens e (Speed n) h = h
dimension-widens e (Dimension d) h =
    let l = dimensioned-of e d h in
    let fits = figures-widen e d.missing d.before d.after l.fits in
    (figured-says Iso2539 d.mark d.missing d.before d.after _ refl l.before l.after fits).1

-- what has no figures stays
plain-widens : (lo hi : ℕ) (k : Kind) → plain_kind lo hi (widened k) ≡ plain_kind lo hi k
plain-widens lo hi (Plain n) = refl
plain-widens lo hi (Speed n) = refl
plain-widens lo hi (Dimension d) = refl

speed-widens : (e : Edition) (c : ℕ) (k : Kind) → T (speed_kind e c k) → T (speed_kind Iso2539 c (widened k))
speed-widens e c (Plain n) h = h
speed-widens e c (Speed n) h = speed-wider e c n h
speed-widens e c (Dimension d) h = h

dots-widen : (e : Edition) (dots : Dots) (dot : Bool) → T (dot_fits e dots dot) → T (dot_fits Iso2539 dots dot)
dots-widen e None dot h = tt
dots-widen e (Some settled) dot h = h

abbrev wide : Item → Item
wide it = record { letter = it.letter; kind = widened it.kind }

-- an item keeps its role
module _ (e : Edition) (it : Item) where
  abbrev c : ℕ
  c = it.letter

  abbrev k : Kind
  k = it.kind

  speeds-wider : (b : Bool) → T (b && speed_kind e c k) → T (b && speed_kind Iso2539 c (widened k))
  speeds-wider b h = both b (speed_kind Iso2539 c (widened k)) (first b (speed_kind e c k) h) (speed-widens e c k (second b (speed_kind e c k) h))

  turn-wider : (t : Turn) → T (test_of e t it) → T (test_of Iso2539 t (wide it))
  turn-wider general h = rw (plain-widens 2 2 k) h
  turn-wider speed h = speeds-wider (eqb c 83) h
  turn-wider tool h = rw (plain-widens 1 9 k) h
  turn-wider function h = rw (plain-widens 2 2 k) h

  role-wider : {o : Order} → Role e o it → Role Iso2539 o (wide it)
  role-wider (as_feed h l u) = as_feed (speeds-wider (feeding c) h) l u
  role-wider (as_dimension h m l u) = as_dimension (both (eqb c c && true) (dimension_kind Iso2539 (widened k)) (both (eqb c c) true (eqb_refl c) tt) (dimension-widens e k (dimension-kind e c it h))) m l u
  role-wider (in_turn t h l) = in_turn t (turn-wider t h) l

due-wider : (e : Edition) (o : Order) (it : Item) → T (due e o it) → T (due Iso2539 o (wide it))
due-wider e o it h = role-due Iso2539 o (wide it) (role-wider e it (role-of e o it h))

after-wider : (o : Order) (c : ℕ) (k : Kind) → after o (record { letter = c; kind = widened k }) ≡ after o (record { letter = c; kind = k })
unfolding after
after-wider o c (Plain n) = refl
after-wider o c (Speed n) = refl
after-wider o c (Dimension d) = refl

fit-wider : {e : Edition} {dots : Dots} {o : Order} {dot : Bool} {it : Item} → Fit e dots o dot it → Fit Iso2539 dots o dot (wide it)
fit-wider {e} {dots} {o} {dot} {it} f = record { dotted = dots-widen e dots dot f.dotted; ready = due-wider e o it f.ready }

steps-wider : {e : Edition} {dots dots' : Dots} {o o' : Order} {its : List Item} {x : List ℕ} → Steps e dots o its dots' o' x
    → Steps Iso2539 dots o (map wide its) dots' o' x
steps-wider stay = stay
steps-wider {dots = dots} {dots'} {o} {o'} (step {it = it} {its = its} {x = x} dot f s) =
    subst (λ (k : List ℕ). Steps Iso2539 dots o (map wide (it ∷ its)) dots' o' (spell_dot dot ++ (it.letter ∷ k) ++ x)) (widened-spells it.kind)
    (step dot (fit-wider f) (subst (λ (r : Order). Steps Iso2539 (Some dot) r (map wide its) dots' o' x) (sym (after-wider o it.letter it.kind)) (steps-wider s)))

pub front-wider : {e : Edition} {dots : Dots} {o : Order} {x : List ℕ} → Front e dots o x → Front Iso2539 dots o x
front-wider {e} h =
    record {
      seq = h.seq;
      sequence = inside 3 9 h.seq (within 3 (sequence_most e) h.seq h.sequence).0 (sequence-small e h.seq h.sequence);
      its = map wide h.its;
      items = h.items;
      steps = steps-wider h.steps;
      spelled = h.spelled;
    }
