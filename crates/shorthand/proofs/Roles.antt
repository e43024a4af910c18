-- The three roles in which an item may come, and where each brings the walk.
use Prim.Native.Nat.{ℕ, ◌≤◌, ◌<◌}
use mathlib.Core.Path.{◌≡◌, refl}
use mathlib.Core.Logic.{⊎_elim}
use mathlib.Core.Bool.{Bool, true, false, ◌&&◌, ◌||◌, not}
use mathlib.Core.List.{[], ◌∷◌}
use lib.Dec.{T, eqb, leb, ltb, eqb→eq, eqb_refl, leb→le, ltb→lt, le→leb, lt→ltb}
use Rattle.shorthand.specs.declared.Item.{Item}
use Rattle.shorthand.specs.declared.Order.{Order}
use Rattle.shorthand.specs.declared.Edition.{Edition}
use Rattle.shorthand.specs.Edition.{allowed}
use Rattle.shorthand.specs.Lawful.{plain_kind, speed_kind, dimension_kind, is_g, is_s, is_t, is_m, is_feed, is_own_feed, is_dimension, axes}
use Rattle.shorthand.specs.Order.{rank, feed_rank, used, due_as_feed, due_as_dimension, due_in_turn, due}
use Rattle.shorthand.proofs.Tests.{both, first, second, left, right, either}
use Rattle.shorthand.proofs.Ranks.{all_of, among, among-is}

-- ---- items in turn: G, S, T and M

pub data Turn : Type 0 where
  general speed tool function : Turn

abbrev pub letter_of : Turn → ℕ
letter_of general = 71
letter_of speed = 83
letter_of tool = 84
letter_of function = 77

abbrev pub test_of : Edition → Turn → Item → Bool
test_of e general = is_g
test_of e speed = is_s e
test_of e tool = is_t
test_of e function = is_m

module _ (e : Edition) (it : Item) where
  pub turn-letter : (t : Turn) → T (test_of e t it) → it.letter ≡ letter_of t
  turn-letter general h = eqb→eq it.letter 71 (first (eqb it.letter 71) (plain_kind 2 2 it.kind) h)
  turn-letter speed h = eqb→eq it.letter 83 (first (eqb it.letter 83) (speed_kind e it.letter it.kind) h)
  turn-letter tool h = eqb→eq it.letter 84 (first (eqb it.letter 84) (plain_kind 1 9 it.kind) h)
  turn-letter function h = eqb→eq it.letter 77 (first (eqb it.letter 77) (plain_kind 2 2 it.kind) h)

  pub turn-any : (t : Turn) → T (test_of e t it) → T (is_g it || is_s e it || is_t it || is_m it)
  turn-any general h = left (is_g it || is_s e it || is_t it) (is_m it) (left (is_g it || is_s e it) (is_t it) (left (is_g it) (is_s e it) h))
  turn-any speed h = left (is_g it || is_s e it || is_t it) (is_m it) (left (is_g it || is_s e it) (is_t it) (right (is_g it) (is_s e it) h))
  turn-any tool h = left (is_g it || is_s e it || is_t it) (is_m it) (right (is_g it || is_s e it) (is_t it) h)
  turn-any function h = right (is_g it || is_s e it || is_t it) (is_m it) h

  any-turn : T (is_g it || is_s e it || is_t it || is_m it) → (t : Turn) × T (test_of e t it)
  any-turn h = go (is_g it) (is_s e it) (is_t it) refl refl refl h
    where
      go : (g s t : Bool) → is_g it ≡ g → is_s e it ≡ s → is_t it ≡ t → T (g || s || t || is_m it) → (t : Turn) × T (test_of e t it)
      go true s t p q r h = (general, rw p tt)
      go false true t p q r h = (speed, rw q tt)
      go false false true p q r h = (tool, rw r tt)
      go false false false p q r h = (function, h)

  -- a test that G, S, T and M pass
  pub turn_is : (g : ℕ → Bool) → T (all_of g (71 ∷ 83 ∷ 84 ∷ 77 ∷ [])) → (t : Turn) → T (test_of e t it) → T (g it.letter)
  turn_is g a t h = rw (turn-letter t h) (among-is g (71 ∷ 83 ∷ 84 ∷ 77 ∷ []) a (letter_of t) (listed t))
    where
      listed : (t : Turn) → T (among (71 ∷ 83 ∷ 84 ∷ 77 ∷ []) (letter_of t))
      listed general = tt
      listed speed = tt
      listed tool = tt
      listed function = tt

-- ---- feeds and dimensions

-- the letters of feeds
abbrev pub feeding : ℕ → Bool
feeding c = eqb c 70 || eqb c 69 || eqb c 68

-- a test that F, E and D pass
pub feeding-is : (g : ℕ → Bool) → T (all_of g (70 ∷ 69 ∷ 68 ∷ [])) → (c : ℕ) → T (feeding c) → T (g c)
feeding-is g a c h = go (eqb c 70) (eqb c 69) refl refl h
  where
    at : (k : ℕ) → T (among (70 ∷ 69 ∷ 68 ∷ []) k) → T (eqb c k) → T (g c)
    at k m t = rw (eqb→eq c k t) (among-is g (70 ∷ 69 ∷ 68 ∷ []) a k m)

    go : (f s : Bool) → eqb c 70 ≡ f → eqb c 69 ≡ s → T (f || s || eqb c 68) → T (g c)
    go true s p q h = at 70 tt (rw p tt)
    go false true p q h = at 69 tt (rw q tt)
    go false false p q h = at 68 tt h

module _ (e : Edition) (it : Item) where
  pub feed-letter : T (is_feed e it) → T (feeding it.letter)
  feed-letter h = first (feeding it.letter) (speed_kind e it.letter it.kind) h

  pub own-is-feed : T (is_own_feed e it) → T (is_feed e it)
  own-is-feed h =
      both (feeding it.letter) (speed_kind e it.letter it.kind)
      (go (eqb it.letter 70) (eqb it.letter 69) (first (eqb it.letter 69 || eqb it.letter 68) (speed_kind e it.letter it.kind) h))
      (second (eqb it.letter 69 || eqb it.letter 68) (speed_kind e it.letter it.kind) h)
    where
      go : (f s : Bool) → T (s || eqb it.letter 68) → T (f || s || eqb it.letter 68)
      go true s h = tt
      go false s h = h

module _ (e : Edition) (c : ℕ) (it : Item) (h : T (is_dimension e c it)) where
  pub dimension-letter : it.letter ≡ c
  dimension-letter = eqb→eq it.letter c (first (eqb it.letter c) (allowed e c) (first (eqb it.letter c && allowed e c) (dimension_kind e it.kind) h))

  dimension-allowed : T (allowed e c)
  dimension-allowed = second (eqb it.letter c) (allowed e c) (first (eqb it.letter c && allowed e c) (dimension_kind e it.kind) h)

  pub dimension-kind : T (dimension_kind e it.kind)
  dimension-kind = second (eqb it.letter c && allowed e c) (dimension_kind e it.kind) h

-- ---- the roles

pub data Role (e : Edition) (o : Order) (it : Item) : Type 0 where
  as_feed : T (is_feed e it) → o.last ≤ feed_rank → T (not (used o it.letter)) → Role e o it
  as_dimension : T (is_dimension e it.letter it) → T (among axes it.letter) → o.last < rank it.letter → T (not (used o it.letter)) → Role e o it
  in_turn : (t : Turn) → T (test_of e t it) → o.last < rank it.letter → Role e o it

module _ (e : Edition) (o : Order) (it : Item) where
  abbrev c : ℕ
  c = it.letter

  abbrev feed : Bool
  feed = is_feed e it && due_as_feed o c

  abbrev dimension : Bool
  dimension = allowed e c && dimension_kind e it.kind && due_as_dimension o c

  abbrev turn : Bool
  turn = (is_g it || is_s e it || is_t it || is_m it) && due_in_turn o c

  feed-role : T feed → Role e o it
  feed-role h =
      let d = second (is_feed e it) (due_as_feed o c) h in
      as_feed (first (is_feed e it) (due_as_feed o c) h) (leb→le o.last feed_rank (first (leb o.last feed_rank) (not (used o c)) d))
      (second (leb o.last feed_rank) (not (used o c)) d)

  dimension-role : T dimension → Role e o it
  dimension-role h =
      let k = first (allowed e c && dimension_kind e it.kind) (due_as_dimension o c) h in
      let d = second (allowed e c && dimension_kind e it.kind) (due_as_dimension o c) h in
      let p = first (among axes c && ltb o.last (rank c)) (not (used o c)) d in
      as_dimension
      (both (eqb c c && allowed e c) (dimension_kind e it.kind) (both (eqb c c) (allowed e c) (eqb_refl c) (first (allowed e c) (dimension_kind e it.kind) k))
      (second (allowed e c) (dimension_kind e it.kind) k))
      (first (among axes c) (ltb o.last (rank c)) p)
      (ltb→lt o.last (rank c) (second (among axes c) (ltb o.last (rank c)) p))
      (second (among axes c && ltb o.last (rank c)) (not (used o c)) d)

  turn-role : T turn → Role e o it
  turn-role h =
      let t = any-turn e it (first (is_g it || is_s e it || is_t it || is_m it) (due_in_turn o c) h) in
      in_turn t.0 t.1 (ltb→lt o.last (rank c) (second (is_g it || is_s e it || is_t it || is_m it) (due_in_turn o c) h))

  pub role-of : T (due e o it) → Role e o it
  unfolding due
  role-of h =
      ⊎_elim {C = Role e o it} (λ h. ⊎_elim {C = Role e o it} feed-role dimension-role (either feed dimension h)) turn-role (either (feed || dimension) turn h)

  pub role-due : Role e o it → T (due e o it)
  unfolding due
  role-due (as_feed h l u) =
      left (feed || dimension) turn (left feed dimension
      (both (is_feed e it) (due_as_feed o c) h (both (leb o.last feed_rank) (not (used o c)) (le→leb o.last feed_rank l) u)))
  role-due (as_dimension h m l u) =
      left (feed || dimension) turn (right feed dimension
      (both (allowed e c && dimension_kind e it.kind) (due_as_dimension o c)
      (both (allowed e c) (dimension_kind e it.kind) (dimension-allowed e c it h) (dimension-kind e c it h))
      (both (among axes c && ltb o.last (rank c)) (not (used o c)) (both (among axes c) (ltb o.last (rank c)) m (lt→ltb o.last (rank c) l)) u)))
  role-due (in_turn t h l) =
      right (feed || dimension) turn (both (is_g it || is_s e it || is_t it || is_m it) (due_in_turn o c) (turn-any e it t h) (lt→ltb o.last (rank c) l))
