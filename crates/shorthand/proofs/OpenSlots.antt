-- The slots that are still open at a rank, and the row that an item opens.
use Prim.Native.Nat.{ℕ, zero, suc, ◌-◌, ◌≤◌, ◌<◌, zero-le}
use native.Mathlib.Nat.{le_of_suc-le-suc, not-suc-le-zero}
use native.Mathlib.Omega.{arith}
use mathlib.Core.Path.{◌≡◌, refl, ap, subst}
use mathlib.Core.Logic.{⊎_elim}
use mathlib.Core.Bool.{Bool, true, false, ◌&&◌, cond}
use mathlib.Core.List.{List, [], ◌∷◌, map}
use borrow.Author.Tests.{eqb-false}
use lib.Dec.{T, eqb, eqb→eq}
use lib.ListN.{get_or, drop}
use Rattle.shorthand.specs.declared.Item.{Item}
use Rattle.shorthand.specs.declared.Order.{Order}
use Rattle.shorthand.specs.declared.Edition.{Edition}
use Rattle.shorthand.specs.Lawful.{is_feed, is_own_feed, is_dimension, axes}
use Rattle.shorthand.specs.Order.{rank, feed_rank, after}
use Rattle.shorthand.proofs.Tests.{first, second, either, holds, fails, by-test}
use Rattle.shorthand.proofs.Ranks.{among}
use Rattle.shorthand.proofs.Roles.{Turn, general, speed, tool, function, letter_of, turn-letter, Role, as_feed, as_dimension, in_turn}
use Rattle.shorthand.proofs.Steps.{feed-last, feed-fresh, dimension-last, dimension-fresh, turn_last, turn-fresh}
use Rattle.shorthand.proofs.Slots.{Slot, turn, axis, slots, Row, none, left, turned, axed, fed, feed}

-- the place of the first open slot: behind a feed the feeds' own, else the one behind the rank's
abbrev place : ℕ → ℕ
place r = cond (eqb r feed_rank) 18 r

place-most : (r : ℕ) → place r ≤ r
place-most r = by-test (λ (n : ℕ). n ≤ r) (eqb r 19) (λ t. let q = eqb→eq r 19 t in omega arith) (λ t. omega arith)

place-feed : (r : ℕ) → r ≤ feed_rank → place r ≤ 18
place-feed r l =
    by-test (λ (n : ℕ). n ≤ 18) (eqb r 19) (λ t. omega arith)
    (λ t. let n = eqb-false r 19 (fails (eqb r 19) t) in omega arith)

-- equal functions on a list are equal on its members
same_at : {A : Type 0} (a : A) (f g : ℕ → A) (cs : List ℕ) → map f cs ≡ map g cs → (c : ℕ) → T (among cs c) → f c ≡ g c
same_at a f g [] p c h = absurd h
same_at a f g (d ∷ cs) p c h =
    ⊎_elim {C = f c ≡ g c}
    (λ t. subst (λ (n : ℕ). f n ≡ g n) (eqb→eq d c t) (ap (λ l. get_or l 0 a) p))
    (λ t. same_at a f g cs (ap (λ l. drop 1 l) p) c t)
    (either (eqb d c) (among cs c) h)

axis-at : (c : ℕ) → T (among axes c) → drop (rank c - 1) slots ≡ axis c ∷ drop (place (rank c)) slots
unfolding rank
axis-at = same_at [] (λ c. drop (rank c - 1) slots) (λ c. axis c ∷ drop (place (rank c)) slots) axes refl

turn_at : (t : Turn) → drop (rank (letter_of t) - 1) slots ≡ turn t ∷ drop (place (rank (letter_of t))) slots
unfolding rank
turn_at general = refl
turn_at speed = refl
turn_at tool = refl
turn_at function = refl

-- ---- the row that an item opens

-- slots may be left open
module _ {e : Edition} {its : List Item} where
  row_back : (m n : ℕ) (ss : List Slot) → m ≤ n → Row e (drop n ss) its → Row e (drop m ss) its
  row_back zero zero ss l r = r
  row_back zero (suc n) [] l r = r
  row_back zero (suc n) (s ∷ ss) l r = left (row_back zero n ss zero-le r)
  row_back (suc m) zero ss l r = absurd (not-suc-le-zero l)
  row_back (suc m) (suc n) [] l r = r
  row_back (suc m) (suc n) (s ∷ ss) l r = row_back m n ss (le_of_suc-le-suc l) r

pub no_items : {e : Edition} (ss : List Slot) → Row e ss []
no_items [] = none
no_items (s ∷ ss) = left (no_items ss)

-- a row, and right behind a dimension with a feed of its own in front of it or none
pub data Opening (e : Edition) : Bool → List Slot → List Item → Type 0 where
  plain : {b : Bool} {ss : List Slot} {its : List Item} → Row e ss its → Opening e b ss its
  own : {ss : List Slot} {it : Item} {its : List Item} → T (is_own_feed e it) → Row e ss its → Opening e true ss (it ∷ its)

-- the slots that are open to the walk
abbrev pub ahead : Order → List Slot
ahead o = drop (place o.last) slots

pub closed : {e : Edition} {ss : List Slot} {its : List Item} → Opening e false ss its → Row e ss its
closed (plain r) = r

module _ {e : Edition} where
  with-axis : {c : ℕ} {it : Item} {ss : List Slot} {its : List Item} → T (is_dimension e c it) → Opening e true ss its → Row e (axis c ∷ ss) (it ∷ its)
  with-axis h (plain r) = axed h r
  with-axis h (own f r) = fed h f r

  module _ (o : Order) (it : Item) {its : List Item} where
    -- behind an own feed nothing is passed, any other ends the dimensions
    feed-opens : T (is_feed e it) → o.last ≤ feed_rank → (b : Bool) → o.fresh && is_own_feed e it ≡ b
        → Row e (drop (place (cond b o.last feed_rank)) slots) its → Opening e o.fresh (ahead o) (it ∷ its)
    feed-opens h l true p r =
        let t : T (o.fresh && is_own_feed e it) = rw p tt in
        rw (holds o.fresh (first o.fresh (is_own_feed e it) t)) (own (second o.fresh (is_own_feed e it) t) r)
    feed-opens h l false p r = plain (row_back (place o.last) 18 slots (place-feed o.last l) (feed h r))

    -- any other item fills its own slot
    slot-opens : (n : ℕ) → o.last < n → Row e (drop (n - 1) slots) (it ∷ its) → Opening e o.fresh (ahead o) (it ∷ its)
    slot-opens n l r = plain (row_back (place o.last) (n - 1) slots (omega (arith, place-most o.last)) r)

    pub role-opens : Role e o it → Opening e (after o it).fresh (ahead (after o it)) its → Opening e o.fresh (ahead o) (it ∷ its)
    role-opens (as_feed h l u) r =
        feed-opens h l (o.fresh && is_own_feed e it) refl (closed (rw (feed-fresh o it e h, feed-last o it e h) at r))
    role-opens (as_dimension h m l u) r =
        slot-opens (rank it.letter) l
        (rw (axis-at it.letter m) (with-axis h (rw (dimension-fresh o it e it.letter h, dimension-last o it e it.letter h) at r)))
    role-opens (in_turn t h l) r =
        slot-opens (rank (letter_of t)) (rw (turn-letter e it t h) at l)
        (rw (turn_at t) (turned h (closed (rw (turn-fresh o it e t h, turn_last o it e t h, turn-letter e it t h) at r))))
