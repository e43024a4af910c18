-- Where a block without number may begin: what a step knows of it is what the Format says.
use mathlib.Core.Path.{◌≡◌, refl, sym, ap, ◌∙◌}
use mathlib.Core.Bool.{Bool, true, false, ◌&&◌, ◌||◌, not}
use mathlib.Core.List.{List, [], ◌∷◌}
use mathlib.Core.Logic.{inl, inr}
use Prim.Native.Nat.{ℕ, zero, suc, ◌<◌}
use native.Mathlib.Nat.{le_of_suc-le-suc, zero-lt-suc}
use native.Mathlib.Omega.{arith}
use lib.Dec.{eqb, ltb}
use lib.ListN.{length, get_or}
use borrow.Author.Tests.{eq-eqb, eqb-true, lt-ltb, le-ltb}
use Rattle.rows.specs.Kept.{KeptRow}
use Rattle.shorthand.specs.declared.Item.{Item}
use Rattle.shorthand.specs.declared.Format.{Format}
use Rattle.shorthand.specs.Layout.{blank, items_of, Way, by_letter, by_both, by_tab, way_by, way_of}
use Rattle.shorthand.specs.Facts.{Facts}
use Rattle.shorthand.proofs.FormatItems.{counted, item-is}
use Rattle.parts.specs.Items.{letter_at, lead_of, Leads, due_at, turn, any_turn, end_next, bare_in, bare_by, rules_of}
use Rattle.parts.proofs.Leading.{Sought, sought}

-- ---- no row

none-turns : (y : Way) (its : List Item) → any_turn y its [] ≡ false
none-turns y [] = refl
none-turns y (it ∷ its) = none-turns y its

and-false : (a : Bool) → (a && false) ≡ false
and-false true = refl
and-false false = refl

pub bare-none : (f : Format) → bare_in f [] ≡ false
bare-none f = rw (none-turns (way_of f) (items_of f)) (and-false f.unnumbered)

-- ---- with tabs

or_self : (a : Bool) → (a || a) ≡ a
or_self true = refl
or_self false = refl

tab-turns : (y : Way) → ((it : Item) → turn y it ≡ 9) → (r : KeptRow) (rs : List KeptRow) (its : List Item) → (eqb r.char 9 && ltb 0 (length its)) ≡ any_turn y its (r ∷ rs)
tab-turns y t r rs [] = and-false (eqb r.char 9)
tab-turns y t r rs (it ∷ its) = rw (t it, lt-ltb 0 (suc (length its)) (zero-lt-suc _)) (by its (tab-turns y t r rs its))
  where
    and-true : (a : Bool) → (a && true) ≡ a
    and-true true = refl
    and-true false = refl

    or-false : (a : Bool) → a ≡ (a || false)
    or-false true = refl
    or-false false = refl

    by : (more : List Item) → (eqb r.char 9 && ltb 0 (length more)) ≡ any_turn y more (r ∷ rs) → (eqb r.char 9 && true) ≡ (eqb r.char 9 || any_turn y more (r ∷ rs))
    by [] h = and-true (eqb r.char 9) ∙ or-false (eqb r.char 9)
    by (i ∷ more) h =
        let all : (eqb r.char 9 && true) ≡ any_turn y (i ∷ more) (r ∷ rs) = rw (lt-ltb 0 (suc (length more)) (zero-lt-suc _)) at h in
        rw (← all, and-true (eqb r.char 9)) (sym (or_self (eqb r.char 9)))

-- ---- without tabs

module _ (r : KeptRow) (rs : List KeptRow) where
  letter-turns : (its : List Item) (k : ℕ) → k < length its → (get_or its k blank).letter ≡ r.char → any_turn by_letter its (r ∷ rs) ≡ true
  letter-turns [] k l e = absurd (omega (arith, l))
  letter-turns (it ∷ its) zero l e = rw (eq-eqb r.char it.letter (sym e))
  letter-turns (it ∷ its) (suc k) l e = rw (letter-turns its k (le_of_suc-le-suc l) e) (or-true (eqb r.char it.letter))
    where
      or-true : (a : Bool) → (a || true) ≡ true
      or-true true = refl
      or-true false = refl

  no-turns : (its : List Item) → ((k : ℕ) → k < length its → (get_or its k blank).letter ≡ r.char → ⊥) → any_turn by_letter its (r ∷ rs) ≡ false
  no-turns [] n = refl
  no-turns (it ∷ its) n = by (eqb r.char it.letter) refl (no-turns its (λ k l. n (suc k) (omega (arith, l))))
    where
      by : (x : Bool) → eqb r.char it.letter ≡ x → any_turn by_letter its (r ∷ rs) ≡ false → (x || any_turn by_letter its (r ∷ rs)) ≡ false
      by true q o = absurd (n zero (zero-lt-suc _) (sym (eqb-true r.char it.letter q)))
      by false q o = o

  module _ (f : Format) (h : Facts f) (leads : List ℕ) (g : Leads f leads) where
    own-letter : (k : ℕ) → k < f.count → (get_or (items_of f) k blank).letter ≡ letter_at f k
    own-letter k l = ap (λ i. i.letter) (item-is f h k l)

    led-turns : Sought f r.char f.count → ltb (lead_of leads r.char) f.count ≡ any_turn by_letter (items_of f) (r ∷ rs)
    led-turns (inl (k, l, e)) =
        ap (λ c. ltb (lead_of leads c) f.count) (sym e)
        ∙ ap (λ x. ltb x f.count) (g.own k l)
        ∙ lt-ltb k f.count l
        ∙ sym (letter-turns (items_of f) k (omega (arith, l, counted f h)) (own-letter k l ∙ e))
    led-turns (inr n) =
        rw (g.others r.char n, le-ltb 22 f.count h.few)
        (sym (no-turns (items_of f) (λ k l e. n k (omega (arith, l, counted f h)) (sym (own-letter k (omega (arith, l, counted f h))) ∙ e))))

    due-first : due_at leads false 0 (r ∷ rs) ≡ lead_of leads r.char
    unfolding due_at
    due-first = rw (le-ltb (lead_of leads r.char) 0 (omega arith))

    turns-by : (d a : Bool) → ((not d || eqb r.char 9) && ltb (due_at leads d 0 (r ∷ rs)) f.count) ≡ any_turn (way_by d a) (items_of f) (r ∷ rs)
    unfolding due_at
    turns-by false a = ap (λ k. ltb k f.count) due-first ∙ led-turns (sought f r.char f.count)
    turns-by true true = ap (λ n. eqb r.char 9 && ltb 0 n) (counted f h) ∙ (tab-turns by_both (λ it. refl) r rs (items_of f))
    turns-by true false = ap (λ n. eqb r.char 9 && ltb 0 n) (counted f h) ∙ (tab-turns by_tab (λ it. refl) r rs (items_of f))

-- ---- the law

pub bare-same : (f : Format) → Facts f → (leads : List ℕ) → Leads f leads → (rs : List KeptRow) → bare_by (rules_of f) leads rs ≡ bare_in f rs
unfolding bare_by
bare-same f h leads g [] = sym (bare-none f)
bare-same f h leads g (r ∷ rs) = ap (λ x. f.unnumbered && (x || end_next (r ∷ rs))) (turns-by r rs f h leads g f.dots f.addresses)
