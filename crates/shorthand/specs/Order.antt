-- Where the walk over the items stands: what may still come. It is part of the answer alone; `Lawful` says the order without it.
use Rattle.std.specs.Prelude.{ℕ, zero, suc, Bool, true, false, ◌&&◌, ◌||◌, not, cond, List, [], ◌∷◌, eqb, leb, ltb}
use Rattle.shorthand.specs.declared.Kind.{Kind}
use Rattle.shorthand.specs.declared.Kind.TheVariants.{Plain, Speed, Dimension}
use Rattle.shorthand.specs.declared.Item.{Item}
use Rattle.shorthand.specs.declared.Order.{Order}
use Rattle.shorthand.specs.declared.Edition.{Edition}
use Rattle.shorthand.specs.Edition.{letters, allowed, any_of}
use Rattle.shorthand.specs.Lawful.{is_g, is_s, is_t, is_m, is_feed, dimension_kind, axes}

-- the place of a letter in the order, from 1; 0 for anything else. E and D as feeds stand where F does
abbrev pub place_in : List ℕ → ℕ → ℕ → ℕ
place_in [] i c = zero
place_in (l ∷ ls) i c = cond (eqb c l) i (place_in ls (suc i) c)

unfoldable pub rank : ℕ → ℕ
rank c = place_in letters 1 c

-- the rank of feeds: behind every dimension's, before that of S
abbrev pub feed_rank : ℕ
feed_rank = 19

-- nothing has stood yet
abbrev pub start : Order
start = record { last = 0; fresh = false; third = false; second = false; first = false }

-- D, E or F has stood, as a feed or as a dimension
abbrev pub used : Order → ℕ → Bool
used o c = (eqb c 68 && o.third) || (eqb c 69 && o.second) || (eqb c 70 && o.first)

-- G, S, T and M: not yet passed
abbrev pub due_in_turn : Order → ℕ → Bool
due_in_turn o c = ltb o.last (rank c)

-- a dimension: not yet passed, and its letter has been no feed
abbrev pub due_as_dimension : Order → ℕ → Bool
due_as_dimension o c = any_of (λ d. eqb d c) axes && ltb o.last (rank c) && not (used o c)

-- a feed: before S, T and M, and its letter has not stood
abbrev pub due_as_feed : Order → ℕ → Bool
due_as_feed o c = leb o.last feed_rank && not (used o c)

-- an item that may come: as a feed, as a dimension, or in its turn
abbrev pub feed_due : Edition → Order → Item → Bool
feed_due e o it = is_feed e it && due_as_feed o it.letter

abbrev pub dimension_due : Edition → Order → Item → Bool
dimension_due e o it = allowed e it.letter && dimension_kind e it.kind && due_as_dimension o it.letter

abbrev pub turn_due : Edition → Order → Item → Bool
turn_due e o it = (is_g it || is_s e it || is_t it || is_m it) && due_in_turn o it.letter

unfoldable pub due : Edition → Order → Item → Bool
due e o it = feed_due e o it || dimension_due e o it || turn_due e o it

abbrev pub is_speed : Kind → Bool
is_speed (Plain n) = false
is_speed (Speed n) = true
is_speed (Dimension d) = false

abbrev pub is_axis : Kind → Bool
is_axis (Plain n) = false
is_axis (Speed n) = false
is_axis (Dimension d) = true

-- the rank that a speed of a letter brings the walk to: right behind a dimension one of E and D leaves the dimensions open, any other feed ends them
abbrev pub speed_reached : Order → ℕ → ℕ
speed_reached o c = cond (eqb c 69 || eqb c 68) (cond o.fresh o.last feed_rank) (rank c)

-- and that an item does
abbrev pub reached : Order → Item → ℕ
reached o it = cond (is_speed it.kind) (speed_reached o it.letter) (rank it.letter)

-- behind an item
unfoldable pub after : Order → Item → Order
after o it =
    record {
      last = reached o it;
      fresh = is_axis it.kind;
      third = eqb it.letter 68 || o.third;
      second = eqb it.letter 69 || o.second;
      first = eqb it.letter 70 || o.first;
    }

-- some item may still come: M may, or nothing
abbrev pub any_due : Order → Bool
any_due o = due_in_turn o 77
