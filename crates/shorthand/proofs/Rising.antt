-- Slots in rising order, and the step of the walk that an item in one of them makes.
use Prim.Native.Nat.{ℕ, ◌≤◌}
use native.Mathlib.Omega.{arith}
use mathlib.Core.Path.{◌≡◌, subst}
use mathlib.Core.Bool.{Bool, true, false, ◌&&◌, ◌||◌, not}
use mathlib.Core.List.{List, [], ◌∷◌}
use lib.Dec.{T, eqb, leb, ltb, leb→le, le→leb, ltb→lt, lt→ltb}
use Rattle.rows.specs.Passes.{Every}
use Rattle.shorthand.specs.declared.Item.{Item}
use Rattle.shorthand.specs.declared.Order.{Order}
use Rattle.shorthand.specs.declared.Edition.{Edition}
use Rattle.shorthand.specs.Edition.{any_of}
use Rattle.shorthand.specs.Lawful.{is_feed, is_own_feed, is_dimension, axes, Distinct, letters_of}
use Rattle.shorthand.specs.Order.{rank, feed_rank, used, start, after}
use Rattle.shorthand.proofs.Tests.{both, first, second, holds, nor, neither, and-false}
use Rattle.shorthand.proofs.Ranks.{among, among-is}
use Rattle.shorthand.proofs.Roles.{Turn, letter_of, test_of, turn-letter, own-is-feed, dimension-letter, Role, as_feed, as_dimension, in_turn}
use Rattle.shorthand.proofs.Steps.{feed-last, feed-most, dimension-last, turn_last, used-behind}
use Rattle.shorthand.proofs.Slots.{Slot, turn, axis, feeds, slots}

-- a slot that is open at a rank, and the rank that it leads to
abbrev fits : ℕ → Slot → Bool
fits r (turn t) = ltb r (rank (letter_of t))
fits r (axis c) = among axes c && ltb r (rank c)
fits r feeds = leb r feed_rank

abbrev beyond : Slot → ℕ
beyond (turn t) = rank (letter_of t)
beyond (axis c) = rank c
beyond feeds = feed_rank

abbrev pub rising : ℕ → List Slot → Bool
rising r [] = true
rising r (s ∷ ss) = fits r s && rising (beyond s) ss

pub slots-rise : T (rising 0 slots)
unfolding rank
slots-rise = tt

fits-before : (q r : ℕ) (s : Slot) → q ≤ r → T (fits r s) → T (fits q s)
fits-before q r (turn t) l h = lt→ltb q (rank (letter_of t)) (omega (arith, ltb→lt r (rank (letter_of t)) h))
fits-before q r (axis c) l h =
    both (among axes c) (ltb q (rank c)) (first (among axes c) (ltb r (rank c)) h)
    (lt→ltb q (rank c) (omega (arith, ltb→lt r (rank c) (second (among axes c) (ltb r (rank c)) h))))
fits-before q r feeds l h = le→leb q feed_rank (omega (arith, leb→le r feed_rank h))

fits-beyond : (r : ℕ) (s : Slot) → T (fits r s) → r ≤ beyond s
fits-beyond r (turn t) h = omega (arith, ltb→lt r (rank (letter_of t)) h)
fits-beyond r (axis c) h = omega (arith, ltb→lt r (rank c) (second (among axes c) (ltb r (rank c)) h))
fits-beyond r feeds h = leb→le r feed_rank h

rising-before : (q r : ℕ) (ss : List Slot) → q ≤ r → T (rising r ss) → T (rising q ss)
rising-before q r [] l h = tt
rising-before q r (s ∷ ss) l h =
    both (fits q s) (rising (beyond s) ss) (fits-before q r s l (first (fits r s) (rising (beyond s) ss) h)) (second (fits r s) (rising (beyond s) ss) h)

-- a slot may be left open
pub rising-left : (r : ℕ) (s : Slot) (ss : List Slot) → T (rising r (s ∷ ss)) → T (rising r ss)
rising-left r s ss h =
    rising-before r (beyond s) ss (fits-beyond r s (first (fits r s) (rising (beyond s) ss) h)) (second (fits r s) (rising (beyond s) ss) h)

-- ---- the steps

axis-most : (c : ℕ) → T (among axes c) → rank c ≤ feed_rank
unfolding rank
axis-most c m = leb→le (rank c) feed_rank (among-is (λ c. leb (rank c) feed_rank) axes tt c m)

module _ (e : Edition) (o : Order) (it : Item) (ss : List Slot) where
  -- an item that may come, and the slots behind it
  abbrev pub Moves : List Slot → Type 0
  Moves ss = Role e o it × T (rising (after o it).last ss)

  pub turn-steps : (t : Turn) → T (test_of e t it) → T (rising o.last (turn t ∷ ss)) → Moves ss
  turn-steps t h r = (
    in_turn t h (rw (turn-letter e it t h) (ltb→lt o.last (rank (letter_of t)) (first (fits o.last (turn t)) (rising (rank (letter_of t)) ss) r))),
    rw (turn_last o it e t h, turn-letter e it t h) (second (fits o.last (turn t)) (rising (rank (letter_of t)) ss) r),
  )

  abbrev d : ℕ
  d = it.letter

  letter-steps : T (is_dimension e d it) → T (rising o.last (axis d ∷ ss)) → T (not (used o d)) → Moves ss × ((after o it).last ≤ feed_rank)
  letter-steps h r u =
      let f = first (fits o.last (axis d)) (rising (rank d) ss) r in
      let m = first (among axes d) (ltb o.last (rank d)) f in
      let l = ltb→lt o.last (rank d) (second (among axes d) (ltb o.last (rank d)) f) in
      let n = dimension-last o it e d h in
      ((as_dimension h m l u, rw n (second (fits o.last (axis d)) (rising (rank d) ss) r)), rw n (axis-most d m))

  pub axis-steps : (c : ℕ) → T (is_dimension e c it) → T (rising o.last (axis c ∷ ss)) → T (not (used o d)) → Moves ss × ((after o it).last ≤ feed_rank)
  axis-steps c h =
      subst (λ (c : ℕ). T (is_dimension e c it) → T (rising o.last (axis c ∷ ss)) → T (not (used o d)) → Moves ss × ((after o it).last ≤ feed_rank))
      (dimension-letter e c it h) letter-steps h

  pub own-steps : T (is_own_feed e it) → o.fresh ≡ true → o.last ≤ feed_rank → T (rising o.last ss) → T (not (used o d)) → Moves ss
  own-steps h f l r u = (as_feed (own-is-feed e it h) l u, rw (feed-last o it e (own-is-feed e it h), f, holds (is_own_feed e it) h) r)

  pub feed-steps : T (is_feed e it) → T (rising o.last (feeds ∷ ss)) → T (not (used o d)) → Moves (feeds ∷ ss)
  feed-steps h r u =
      let l = leb→le o.last feed_rank (first (leb o.last feed_rank) (rising feed_rank ss) r) in (
        as_feed h l u,
        both (leb (after o it).last feed_rank) (rising feed_rank ss) (le→leb (after o it).last feed_rank (feed-most o it e h l)) (second (leb o.last feed_rank) (rising feed_rank ss) r),
      )

-- ---- letters that may come

-- no letter of these items has stood, and none stands twice
pub record Unused (o : Order) (its : List Item) : Type 0 where
  pub all : Every (λ it. T (not (used o it.letter))) its
  pub once : Distinct (letters_of its)

pub unused-start : (its : List Item) → Distinct (letters_of its) → Unused start its
unused-start its apart = record { all = each its; once = apart }
  where
    each : (its : List Item) → Every (λ it. T (not (used start it.letter))) its
    each [] = tt
    each (it ∷ its) = (nothing (eqb it.letter 68) (eqb it.letter 69) (eqb it.letter 70), each its)
      where
        nothing : (a b c : Bool) → T (not (a && false || b && false || c && false))
        nothing a b c = nor (a && false || b && false) (c && false) (nor (a && false) (b && false) (and-false a) (and-false b)) (and-false c)

pub unused-next : (o : Order) (it : Item) (its : List Item) → Unused o (it ∷ its) → Unused (after o it) its
unused-next o it its u = go u.once
  where
    each : (xs : List Item) → T (not (any_of (λ d. eqb d it.letter) (letters_of xs))) → Every (λ i. T (not (used o i.letter))) xs → Every (λ i. T (not (used (after o it) i.letter))) xs
    each [] n a = tt
    each (x ∷ xs) n a =
        let m = neither (eqb x.letter it.letter) (any_of (λ d. eqb d it.letter) (letters_of xs)) n in
        (used-behind o it x.letter m.0 a.0, each xs m.1 a.1)

    go : Distinct (it.letter ∷ letters_of its) → Unused (after o it) its
    go (Distinct.more n apart) = record { all = each its n u.all.1; once = apart }
