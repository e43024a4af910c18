-- The walk over the items: it passes every fit item that is spelled, and ends where none is.
use Prim.Native.Nat.{ℕ, zero, suc, ◌+◌, ◌-◌, ◌≤◌}
use native.Mathlib.Nat.{add-zero}
use native.Mathlib.Omega.{arith}
use mathlib.Core.Path.{◌≡◌, refl, sym, ap, ap₂, subst, subst₂, ◌∙◌}
use mathlib.Core.Bool.{Bool, true, false, not, cond}
use mathlib.Core.List.{List, [], ◌∷◌, ◌++◌, append_assoc, append-nil}
use lib.Dec.{T, eqb, eqb→eq}
use lib.ListN.{length, length-append}
use lib.Seq.{append_snoc}
use Rattle.std.specs.Prelude.{Some}
use Rattle.rows.specs.Answer.{Answer, taken, refused}
use Rattle.shorthand.specs.declared.Item.{Item}
use Rattle.shorthand.specs.declared.Format.{Format}
use Rattle.shorthand.specs.Edition.{later}
use Rattle.shorthand.specs.Layout.{format_of}
use Rattle.shorthand.specs.Spell.{spell_kind, spell_dot, spell_item, is_digit}
use Rattle.shorthand.specs.declared.Order.{Order}
use Rattle.shorthand.specs.declared.Edition.{Edition}
use Rattle.shorthand.specs.declared.Edition.TheVariants.{Iso2539}
use Rattle.shorthand.specs.Order.{after}
use Rattle.shorthand.specs.Stand.{Dots, Stand, whole, short, unfit, seen, stand}
use Rattle.shorthand.specs.Parse.{beyond, is_dotted, Here, after_star, leads, items_from}
use Rattle.shorthand.specs.Mending.{apart}
use Rattle.shorthand.proofs.Tests.{fails}
use Rattle.shorthand.proofs.Standing.{letter-is, Fit, Stands, stands, stand-reads}

-- where the walk stands
abbrev pub at : ℕ → Dots → Order → List Item → ℕ → Here
at seq dots o its p = record { sequence = seq; dots = dots; order = o; items = its; place = p }

-- the items its, spelled as x, lead from one state of the walk to another
pub data Steps (e : Edition) : Dots → Order → List Item → Dots → Order → List ℕ → Type 0 where
  stay : {dots : Dots} {o : Order} → Steps e dots o [] dots o []
  step : {dots dots' : Dots} {o o' : Order} {it : Item} {its : List Item} {x : List ℕ} (dot : Bool) → Fit e dots o dot it
      → Steps e (Some dot) (after o it) its dots' o' x → Steps e dots o (it ∷ its) dots' o' (spell_item dot it ++ x)

pub steps_apart : {e : Edition} {dots dots' : Dots} {o o' : Order} {its : List Item} {x : List ℕ} → Steps e dots o its dots' o' x
    → (rest : List ℕ) → T (apart rest) → T (apart (x ++ rest))
steps_apart stay rest h = h
steps_apart (step true f s) rest h = tt
steps_apart {e} {o = o} (step {it = it} false f s) rest h = letter-is e o it f.ready (λ c. not (is_digit c)) tt

-- ---- forward over what is spelled

-- the bound of the walk before the items its
abbrev pub fuel : List Item → ℕ → ℕ
fuel [] n = n
fuel (it ∷ its) n = suc (fuel its n)

passed : (x rest : List ℕ) → length (x ++ rest) - length rest ≡ length x
passed x rest = omega (arith, length-append x rest)

module _ (e : Edition) (seq : ℕ) where
  item-step : (n : ℕ) (dots : Dots) (o : Order) (before : List Item) (p b : ℕ) (t : List ℕ) (it : Item) (rest : List ℕ)
      → eqb b 42 ≡ false → stand e dots o (seen (b ∷ t)) ≡ whole it rest
      → items_from (suc n) e (at seq dots o before p) (b ∷ t)
      ≡ items_from n e (at seq (Some (eqb b 46)) (after o it) (before ++ (it ∷ [])) (p + (length (b ∷ t) - length rest))) rest
  unfolding items_from
  item-step n dots o before p b t it rest q s = rw (q, s)

  forward-one : (n : ℕ) (dots : Dots) (o : Order) (before : List Item) (p : ℕ) (dot : Bool) (it : Item) (rest : List ℕ)
      → Fit e dots o dot it → T (apart rest)
      → items_from (suc n) e (at seq dots o before p) (spell_item dot it ++ rest)
      ≡ items_from n e (at seq (Some dot) (after o it) (before ++ (it ∷ [])) (p + length (spell_item dot it))) rest
  forward-one n dots o before p true it rest f stops =
      item-step n dots o before p 46 (it.letter ∷ (spell_kind it.kind ++ rest)) it rest refl (stand-reads e dots o true it rest f stops)
      ∙ ap (λ (m : ℕ). items_from n e (at seq (Some true) (after o it) (before ++ (it ∷ [])) (p + m)) rest) (passed (spell_item true it) rest)
  forward-one n dots o before p false it rest f stops =
      item-step n dots o before p it.letter (spell_kind it.kind ++ rest) it rest
      (fails (eqb it.letter 42) (letter-is e o it f.ready (λ c. not (eqb c 42)) tt))
      (stand-reads e dots o false it rest f stops)
      ∙ ap₂ (λ (d : Bool) (m : ℕ). items_from n e (at seq (Some d) (after o it) (before ++ (it ∷ [])) (p + m)) rest)
      (fails (eqb it.letter 46) (letter-is e o it f.ready (λ c. not (eqb c 46)) tt))
      (passed (spell_item false it) rest)

  pub forward : {dots dots' : Dots} {o o' : Order} {its : List Item} {x : List ℕ} → Steps e dots o its dots' o' x
      → (n : ℕ) (before : List Item) (p : ℕ) (rest : List ℕ) → T (apart rest)
      → items_from (fuel its n) e (at seq dots o before p) (x ++ rest) ≡ items_from n e (at seq dots' o' (before ++ its) (p + length x)) rest
  forward stay n before p rest h = rw (append-nil before, add-zero p)
  forward {dots} {dots'} {o} {o'} (step {it = it} {its = its} {x = x} dot f s) n before p rest h =
      ap (λ (l : List ℕ). items_from (suc (fuel its n)) e (at seq dots o before p) l) (append_assoc (spell_item dot it) x rest)
      ∙ forward-one (fuel its n) dots o before p dot it (x ++ rest) f (steps_apart s rest h)
      ∙ forward s n (before ++ (it ∷ [])) (p + length (spell_item dot it)) rest h
      ∙ ap₂ (λ (b : List Item) (q : ℕ). items_from n e (at seq dots' o' b q) rest) (append_snoc before it its) (omega (arith, length-append (spell_item dot it) x))

-- ---- to where it ends

-- how the walk ends at the front of a text: f is the Format so far, and p the place
pub data End (e : Edition) (dots : Dots) (o : Order) (f : Format) (p : ℕ) : List ℕ → Answer Format → Type 0 where
  out : End e dots o f p [] (refused 2 p)
  star : End e dots o f p (42 ∷ []) (taken f)
  past : {b : ℕ} {t : List ℕ} → End e dots o f p (42 ∷ (b ∷ t)) (refused 2 (p + 1))
  lacks : {b : ℕ} {t : List ℕ} → stand e dots o (seen (b ∷ t)) ≡ short → End e dots o f p (b ∷ t) (refused 2 (p + length (b ∷ t)))
  bars : {b : ℕ} {t : List ℕ} → eqb b 42 ≡ false → stand e dots o (seen (b ∷ t)) ≡ unfit
      → End e dots o f p (b ∷ t) (refused (beyond (stand Iso2539 dots o (seen (b ∷ t)))) p)

pub record Walk (e : Edition) (seq : ℕ) (dots : Dots) (o : Order) (before : List Item) (p : ℕ) (t : List ℕ) (a : Answer Format) : Type 0 where
  pub its : List Item
  pub dots' : Dots
  pub o' : Order
  pub x : List ℕ
  pub rest : List ℕ
  pub steps : Steps e dots o its dots' o' x
  pub splits : t ≡ x ++ rest
  pub stops : T (apart rest)
  pub ends : End e dots' o' (format_of (later e) seq (is_dotted dots') (before ++ its)) (p + length x) rest a

module _ (e : Edition) (seq : ℕ) where
  at_once : {dots : Dots} {o : Order} {before : List Item} {p : ℕ} {t : List ℕ} {a : Answer Format} → T (apart t)
      → End e dots o (format_of (later e) seq (is_dotted dots) before) p t a → Walk e seq dots o before p t a
  at_once {dots} {o} {before} {p} {t} {a} h end =
      record { its = []; dots' = dots; o' = o; x = []; rest = t; steps = stay; splits = refl; stops = h; ends = rw (append-nil before, add-zero p) end }

  one_more : {dots : Dots} {o : Order} {before : List Item} {p : ℕ} {t rest : List ℕ} {a : Answer Format} (dot : Bool) (it : Item)
      → Fit e dots o dot it → t ≡ spell_item dot it ++ rest
      → Walk e seq (Some dot) (after o it) (before ++ (it ∷ [])) (p + (length t - length rest)) rest a → Walk e seq dots o before p t a
  one_more {dots} {o} {before} {p} {t} {rest} {a} dot it f q w =
      record {
        its = it ∷ w.its;
        dots' = w.dots';
        o' = w.o';
        x = spell_item dot it ++ w.x;
        rest = w.rest;
        steps = step dot f w.steps;
        splits = q ∙ ap (λ (l : List ℕ). spell_item dot it ++ l) w.splits ∙ sym (append_assoc (spell_item dot it) w.x w.rest);
        stops = w.stops;
        ends = subst₂ (λ (b : List Item) (m : ℕ). End e w.dots' w.o' (format_of (later e) seq (is_dotted w.dots') b) m w.rest a)
            (append_snoc before it w.its)
            (omega (arith, ap length q, length-append (spell_item dot it) rest, length-append (spell_item dot it) w.x))
            w.ends;
      }

  abbrev Walks : ℕ → Type 0
  Walks n =
      (dots : Dots) (o : Order) (before : List Item) (p : ℕ) (t : List ℕ) → length t ≤ n → T (apart t)
      → Walk e seq dots o before p t (items_from n e (at seq dots o before p) t)

  walk-on : (n : ℕ) → Walks n → (dots : Dots) (o : Order) (before : List Item) (p b : ℕ) (t : List ℕ)
      → length (b ∷ t) ≤ suc n → T (apart (b ∷ t))
      → (x : Bool) → eqb b 42 ≡ x → (s : Stand Item) → stand e dots o (seen (b ∷ t)) ≡ s → Stands e dots o (b ∷ t) s
      → Walk e seq dots o before p (b ∷ t)
      (cond x (after_star e (at seq dots o before p) t)
      (leads p (b ∷ t) s (beyond (stand Iso2539 dots o (seen (b ∷ t))))
      (λ it rest. items_from n e (at seq (Some (eqb b 46)) (after o it) (before ++ (it ∷ [])) (p + (length (b ∷ t) - length rest))) rest)))
  walk-on n rec dots o before p b [] le h true q s r k =
      subst (λ (c : ℕ). Walk e seq dots o before p (c ∷ []) (taken (format_of (later e) seq (is_dotted dots) before))) (sym (eqb→eq b 42 (rw q tt))) (at_once tt star)
  walk-on n rec dots o before p b (c ∷ t) le h true q s r k =
      subst (λ (d : ℕ). Walk e seq dots o before p (d ∷ (c ∷ t)) (refused 2 (p + 1))) (sym (eqb→eq b 42 (rw q tt))) (at_once tt past)
  walk-on n rec dots o before p b t le h false q (whole it rest) r k =
      one_more (eqb b 46) it k.0 k.1
      (rec (Some (eqb b 46)) (after o it) (before ++ (it ∷ [])) (p + (length (b ∷ t) - length rest)) rest
      (omega (arith, ap length k.1, length-append (spell_item (eqb b 46) it) rest, length-append (spell_dot (eqb b 46)) (it.letter ∷ spell_kind it.kind)))
      k.2)
  walk-on n rec dots o before p b t le h false q short r k = at_once h (lacks r)
  walk-on n rec dots o before p b t le h false q unfit r k = at_once h (bars q r)

  pub walks : (n : ℕ) → Walks n
  unfolding items_from
  walks zero dots o before p [] le h = at_once tt out
  walks zero dots o before p (b ∷ t) le h = absurd (omega arith)
  walks (suc n) dots o before p [] le h = at_once tt out
  walks (suc n) dots o before p (b ∷ t) le h =
      walk-on n (walks n) dots o before p b t le h (eqb b 42) refl (stand e dots o (seen (b ∷ t))) refl (stands e dots o b t)
