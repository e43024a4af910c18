-- Behind an item: the rank that the walk has reached, whether a feed of its own may come, and which of D, E and F have stood.
use Prim.Native.Nat.{ℕ, ◌≤◌}
use native.Mathlib.Omega.{arith}
use mathlib.Core.Path.{◌≡◌, refl}
use mathlib.Core.Bool.{Bool, true, false, ◌&&◌, ◌||◌, not, cond, and-true, and-false}
use lib.Dec.{T, eqb, T_not, eqb→eq, eqb_refl}
use Rattle.shorthand.specs.declared.Kind.{Kind}
use Rattle.shorthand.specs.declared.Kind.TheVariants.{Plain, Speed, Dimension}
use Rattle.shorthand.specs.declared.Item.{Item}
use Rattle.shorthand.specs.declared.Order.{Order}
use Rattle.shorthand.specs.declared.Edition.{Edition}
use Rattle.shorthand.specs.Lawful.{plain_kind, speed_kind, dimension_kind, is_feed, is_own_feed, is_dimension}
use Rattle.shorthand.specs.Order.{rank, feed_rank, used, is_speed, is_axis, speed_reached, after}
use Rattle.shorthand.proofs.Tests.{second, holds, fails, by-test, nor, neither}
use Rattle.shorthand.proofs.Roles.{Turn, general, speed, tool, function, test_of, turn_is, feeding, feeding-is, feed-letter, dimension-kind, Role, as_feed, as_dimension, in_turn}

-- ---- kinds

plain-no-axis : (lo hi : ℕ) (k : Kind) → T (plain_kind lo hi k) → is_axis k ≡ false
plain-no-axis lo hi (Plain n) h = refl
plain-no-axis lo hi (Speed n) h = refl
plain-no-axis lo hi (Dimension d) h = absurd h

speed-is : (e : Edition) (c : ℕ) (k : Kind) → T (speed_kind e c k) → (is_speed k ≡ true) × (is_axis k ≡ false)
speed-is e c (Plain n) h = absurd h
speed-is e c (Speed n) h = (refl, refl)
speed-is e c (Dimension d) h = absurd h

dimension-is : (e : Edition) (k : Kind) → T (dimension_kind e k) → (is_speed k ≡ false) × (is_axis k ≡ true)
dimension-is e (Plain n) h = absurd h
dimension-is e (Speed n) h = absurd h
dimension-is e (Dimension d) h = (refl, refl)

module _ (e : Edition) (it : Item) where
  feed-kind : T (is_feed e it) → T (speed_kind e it.letter it.kind)
  feed-kind h = second (feeding it.letter) (speed_kind e it.letter it.kind) h

  feed-is : T (is_feed e it) → (is_speed it.kind ≡ true) × (is_axis it.kind ≡ false)
  feed-is h = speed-is e it.letter it.kind (feed-kind h)

  turn-no-axis : (t : Turn) → T (test_of e t it) → is_axis it.kind ≡ false
  turn-no-axis general h = plain-no-axis 2 2 it.kind (second (eqb it.letter 71) (plain_kind 2 2 it.kind) h)
  turn-no-axis speed h = (speed-is e it.letter it.kind (second (eqb it.letter 83) (speed_kind e it.letter it.kind) h)).1
  turn-no-axis tool h = plain-no-axis 1 9 it.kind (second (eqb it.letter 84) (plain_kind 1 9 it.kind) h)
  turn-no-axis function h = plain-no-axis 2 2 it.kind (second (eqb it.letter 77) (plain_kind 2 2 it.kind) h)

-- ---- the rank reached

-- F ends the dimensions, and so do E and D unless they stand right behind one
feed-reached : (o : Order) (c : ℕ) → T (feeding c) → speed_reached o c ≡ cond (o.fresh && ((eqb c 69 || eqb c 68) && true)) o.last feed_rank
unfolding rank
feed-reached o c h = go (eqb c 70) refl h
  where
    go : (f : Bool) → eqb c 70 ≡ f → T (f || eqb c 69 || eqb c 68) → speed_reached o c ≡ cond (o.fresh && ((eqb c 69 || eqb c 68) && true)) o.last feed_rank
    go true p t = rw (eqb→eq c 70 (rw p tt), and-false o.fresh)
    go false p t = rw (holds (eqb c 69 || eqb c 68) t, and-true o.fresh)

module _ (o : Order) (it : Item) where
  pub other_last : T (not (feeding it.letter)) → (after o it).last ≡ rank it.letter
  unfolding after
  other_last h =
      let c = it.letter in
      let n = neither (eqb c 70 || eqb c 69) (eqb c 68) h in
      rw (fails (eqb c 69 || eqb c 68) (nor (eqb c 69) (eqb c 68) (neither (eqb c 70) (eqb c 69) n.0).1 n.1))
      (by-test (λ (r : ℕ). r ≡ rank c) (is_speed it.kind) (λ t. refl) (λ t. refl))

  module _ (e : Edition) where
    pub feed-last : T (is_feed e it) → (after o it).last ≡ cond (o.fresh && is_own_feed e it) o.last feed_rank
    unfolding after
    feed-last h = rw ((feed-is e it h).0, holds (speed_kind e it.letter it.kind) (feed-kind e it h)) (feed-reached o it.letter (feed-letter e it h))

    pub dimension-last : (c : ℕ) → T (is_dimension e c it) → (after o it).last ≡ rank it.letter
    unfolding after
    dimension-last c h = rw (dimension-is e it.kind (dimension-kind e c it h)).0

    pub turn_last : (t : Turn) → T (test_of e t it) → (after o it).last ≡ rank it.letter
    turn_last t h = other_last (turn_is e it (λ c. not (feeding c)) tt t h)

    pub feed-fresh : T (is_feed e it) → (after o it).fresh ≡ false
    unfolding after
    feed-fresh h = (feed-is e it h).1

    pub turn-fresh : (t : Turn) → T (test_of e t it) → (after o it).fresh ≡ false
    unfolding after
    turn-fresh t h = turn-no-axis e it t h

    pub dimension-fresh : (c : ℕ) → T (is_dimension e c it) → (after o it).fresh ≡ true
    unfolding after
    dimension-fresh c h = (dimension-is e it.kind (dimension-kind e c it h)).1

    -- a feed leaves the walk before S
    pub feed-most : T (is_feed e it) → o.last ≤ feed_rank → (after o it).last ≤ feed_rank
    feed-most h l = rw (feed-last h) (by-test (λ (n : ℕ). n ≤ feed_rank) (o.fresh && is_own_feed e it) (λ t. l) (λ t. omega arith))

  pub rises : {e : Edition} → Role e o it → o.last ≤ (after o it).last
  rises {e} (as_feed h l u) = rw (feed-last e h) (by-test (λ (n : ℕ). o.last ≤ n) (o.fresh && is_own_feed e it) (λ t. omega arith) (λ t. l))
  rises {e} (as_dimension h m l u) = rw (dimension-last e it.letter h) (omega arith)
  rises {e} (in_turn t h l) = rw (turn_last e t h) (omega arith)

-- ---- D, E and F

-- whether one of them has stood
abbrev stood : Order → ℕ → Bool
stood o k = cond (eqb k 68) o.third (cond (eqb k 69) o.second o.first)

by_letter : (p q : ℕ → Bool) → ((k : ℕ) → T (not (p k)) → T (not (q k))) → T (not (p 68 || p 69 || p 70)) → T (not (q 68 || q 69 || q 70))
by_letter p q f h =
    let a = neither (p 68 || p 69) (p 70) h in
    let b = neither (p 68) (p 69) a.0 in
    nor (q 68 || q 69) (q 70) (nor (q 68) (q 69) (f 68 b.0) (f 69 b.1)) (f 70 a.1)

module _ (o : Order) (it : Item) where
  abbrev before : ℕ → ℕ → Bool
  before c k = eqb c k && stood o k

  abbrev behind : ℕ → ℕ → Bool
  behind c k = eqb c k && (eqb it.letter k || stood o k)

  -- what has stood has stood later
  pub used-before : (c : ℕ) → T (not (used (after o it) c)) → T (not (used o c))
  unfolding after
  used-before c h = by_letter (behind c) (before c) (λ k. less (eqb c k) (eqb it.letter k) (stood o k)) h
    where
      less : (a b x : Bool) → T (not (a && (b || x))) → T (not (a && x))
      less true b x h = (neither b x h).1
      less false b x h = tt

  -- what has not stood has not stood behind another letter
  pub used-behind : (c : ℕ) → T (not (eqb c it.letter)) → T (not (used o c)) → T (not (used (after o it) c))
  unfolding after
  used-behind c other h = by_letter (before c) (behind c) (λ k. more k (eqb c k) (eqb it.letter k) refl refl (stood o k)) h
    where
      more : (k : ℕ) (a b : Bool) → eqb c k ≡ a → eqb it.letter k ≡ b → (x : Bool) → T (not (a && x)) → T (not (a && (b || x)))
      more k true true p q x h =
          absurd (T_not (eqb c it.letter) other (rw (eqb→eq c k (rw p tt), eqb→eq it.letter k (rw q tt)) (eqb_refl k)))
      more k true false p q x h = h
      more k false b p q x h = tt

  -- each of them has stood behind its own item
  pub used-own : T (feeding it.letter) → T (used (after o it) it.letter)
  unfolding after
  used-own h = feeding-is (λ c. (eqb c 68 && (eqb c 68 || o.third)) || (eqb c 69 && (eqb c 69 || o.second)) || (eqb c 70 && (eqb c 70 || o.first))) tt it.letter h
