-- Behind a front, a byte after "*" or an item past mending: no further bytes help.
use Prim.Native.Nat.{ℕ, suc, ◌<◌}
use native.Mathlib.Omega.{arith}
use mathlib.Core.Path.{◌≡◌, refl, sym, ap, subst, ◌∙◌}
use mathlib.Core.Bool.{false}
use mathlib.Core.List.{List, [], ◌∷◌, ◌++◌, append_assoc, append_cancel_right}
use lib.Dec.{T, eqb}
use lib.ListN.{length}
use lib.Seq.{take-append_seam, drop-append_seam}
use Rattle.rows.specs.Answer.{Answer, taken, refused}
use Rattle.shorthand.specs.declared.Item.{Item}
use Rattle.shorthand.specs.declared.Format.{Format}
use Rattle.shorthand.specs.Spell.{spell_item}
use Rattle.shorthand.specs.declared.Order.{Order}
use Rattle.shorthand.specs.declared.Edition.{Edition}
use Rattle.shorthand.specs.declared.Edition.TheVariants.{Iso2539}
use Rattle.shorthand.specs.Stand.{Dots, Stand, whole, unfit, seen, stand}
use Rattle.shorthand.specs.Parse.{beyond, items_from, parsed_in}
use Rattle.shorthand.specs.Mending.{apart, Mends}
use Rattle.shorthand.proofs.Standing.{Stands, stands, stand-reads}
use Rattle.shorthand.proofs.Walking.{at, Steps, stay, step, steps_apart, End, star, Walk, walks}
use Rattle.shorthand.proofs.Answered.{Front, resumed}
use Rattle.shorthand.proofs.Accepted.{mends-accepted}

pub refused-not : {a : Answer Format} {n p : ℕ} {f : Format} → a ≡ refused n p → a ≡ taken f → ⊥
refused-not q r = let z : ◌≡◌ {A = ℕ} 0 1 = cc in omega arith

pub whole-not : {A : Type 0} {s : Stand A} {a : A} {rest : List ℕ} → s ≡ unfit → s ≡ whole a rest → ⊥
whole-not q r = let z : ◌≡◌ {A = ℕ} 0 1 = cc in omega arith

-- only "*" is left where a Format is taken
end-stars : {e : Edition} {dots : Dots} {o : Order} {f g : Format} {p : ℕ} {rest : List ℕ} → End e dots o f p rest (taken g) → rest ≡ 42 ∷ []
end-stars star = refl

-- what stands before it is then items, spelled
record Passed (e : Edition) (dots : Dots) (o : Order) (z : List ℕ) : Type 0 where
  its : List Item
  dots' : Dots
  o' : Order
  steps : Steps e dots o its dots' o' z

walk-passed : {e : Edition} {seq : ℕ} {dots : Dots} {o : Order} {before : List Item} {p : ℕ} (z : List ℕ) {f : Format}
    → Walk e seq dots o before p (z ++ (42 ∷ [])) (taken f) → Passed e dots o z
walk-passed {e} {dots = dots} {o = o} z w =
    let left : w.rest ≡ 42 ∷ [] = end-stars w.ends in
    let same : w.x ≡ z = append_cancel_right w.x z (42 ∷ []) (ap (λ (l : List ℕ). w.x ++ l) (sym left) ∙ sym w.splits) in
    record { its = w.its; dots' = w.dots'; o' = w.o'; steps = subst (Steps e dots o w.its w.dots' w.o') same w.steps }

front-passed : {e : Edition} {dots : Dots} {o : Order} {x : List ℕ} (h : Front e dots o x) (z : List ℕ) (f : Format) → T (apart (z ++ (42 ∷ [])))
    → parsed_in e (x ++ (z ++ (42 ∷ []))) ≡ taken f → Passed e dots o z
front-passed {e} {dots} {o} {x} h z f stops r =
    let n = resumed h (z ++ (42 ∷ [])) stops in
    walk-passed z
    (subst (Walk e h.seq dots o h.its (length x) (z ++ (42 ∷ []))) (sym n.2 ∙ r)
    (walks e h.seq (suc n.0) dots o h.its (length x) (z ++ (42 ∷ [])) (omega (arith, n.1)) stops))

first-stands : {e : Edition} {dots dots' : Dots} {o o' : Order} {its : List Item} {x : List ℕ} → Steps e dots o its dots' o' x → 0 < length x
    → (y : List ℕ) → T (apart y) → (it : Item) × (rest : List ℕ) × (stand e dots o (seen (x ++ y)) ≡ whole it rest)
first-stands stay some y stops = absurd (omega arith)
first-stands {e} {dots} {o = o} (step {it = it} {x = x} dot f s) some y stops =
    (it, x ++ y, ap (λ (l : List ℕ). stand e dots o (seen l)) (append_assoc (spell_item dot it) x y) ∙ stand-reads e dots o dot it (x ++ y) f (steps_apart s y stops))

module _ {e : Edition} {dots : Dots} {o : Order} {x : List ℕ} (h : Front e dots o x) (b : ℕ) (t : List ℕ) where
  pub follower-hopeless : (u : List ℕ) (f : Format) → parsed_in e (x ++ (42 ∷ (b ∷ t)) ++ u) ≡ taken f → ⊥
  unfolding items_from
  follower-hopeless u f r = refused-not (ap (parsed_in e) (append_assoc x (42 ∷ (b ∷ t)) u) ∙ (resumed h (42 ∷ (b ∷ (t ++ u))) tt).2) r

  module _ (stops : T (apart (b ∷ t))) (plain : eqb b 42 ≡ false) (past : stand e dots o (seen (b ∷ t)) ≡ unfit) where
    stays : (u : List ℕ) → stand e dots o (seen (b ∷ (t ++ u))) ≡ unfit
    stays = subst (Stands e dots o (b ∷ t)) past (stands e dots o b t)

    barred : (n seq : ℕ) (its : List Item) (p : ℕ) (u : List ℕ)
        → items_from (suc n) e (at seq dots o its p) (b ∷ (t ++ u)) ≡ refused (beyond (stand Iso2539 dots o (seen (b ∷ (t ++ u))))) p
    unfolding items_from
    barred n seq its p u = rw (plain, stays u)

    pub item-hopeless : (u : List ℕ) (f : Format) → parsed_in e (x ++ (b ∷ t) ++ u) ≡ taken f → ⊥
    item-hopeless u f r =
        let m = resumed h (b ∷ (t ++ u)) stops in
        refused-not (ap (parsed_in e) (append_assoc x (b ∷ t) u) ∙ m.2 ∙ barred m.0 h.seq h.its (length x) u) r

    -- nor do further bytes make any part of what stands there an item of the edition
    pub item-unmended : Mends e (x ++ (b ∷ t)) (length x) → ⊥
    item-unmended m =
        go m.x m.some (ap (λ (l : List ℕ). l ++ m.further) (sym (drop-append_seam x (b ∷ t))) ∙ m.splits)
        (ap (λ (l : List ℕ). parsed_in e (l ++ (m.x ++ (42 ∷ [])))) (sym (take-append_seam x (b ∷ t))) ∙ mends-accepted m)
      where
        go : (z : List ℕ) → 0 < length z → b ∷ (t ++ m.further) ≡ z ++ m.y → parsed_in e (x ++ (z ++ (42 ∷ []))) ≡ taken m.spelt.format → ⊥
        go [] some q r = omega arith
        go (c ∷ z) some q r =
            let same : b ≡ c = cc in
            let w = front-passed h (c ∷ z) m.spelt.format (rw (← same) stops) r in
            let s = first-stands w.steps some m.y m.whole in
            whole-not {a = s.0} {rest = s.1} (ap (λ (l : List ℕ). stand e dots o (seen l)) (sym q) ∙ stays m.further) s.2
