-- Which letters may still come, in whatever role: every item takes its own from them, and none comes back.
use Prim.Native.Nat.{ℕ, ◌<◌}
use native.Mathlib.Omega.{arith}
use mathlib.Core.Path.{◌≡◌, refl}
use mathlib.Core.Logic.{⊎_elim}
use mathlib.Core.Bool.{Bool, true, false, ◌&&◌, ◌||◌, not}
use lib.Dec.{T, T_not, not_T, leb, ltb, leb→le, le→leb, ltb→lt, lt→ltb}
use Rattle.shorthand.specs.declared.Item.{Item}
use Rattle.shorthand.specs.declared.Order.{Order}
use Rattle.shorthand.specs.declared.Edition.{Edition}
use Rattle.shorthand.specs.Lawful.{axes}
use Rattle.shorthand.specs.Edition.{letters}
use Rattle.shorthand.specs.Order.{rank, feed_rank, used, after}
use Rattle.shorthand.proofs.Tests.{both, first, second, left, right, either}
use Rattle.shorthand.proofs.Ranks.{among, among-is}
use Rattle.shorthand.proofs.Roles.{turn_is, feeding, feeding-is, feed-letter, Role, as_feed, as_dimension, in_turn}
use Rattle.shorthand.proofs.Steps.{other_last, rises, used-before, used-own}

-- an item that may come has one of the 22 letters
pub role-letter : {e : Edition} {o : Order} {it : Item} → Role e o it → T (among letters it.letter)
role-letter {e} {it = it} (as_feed h l u) = feeding-is (among letters) tt it.letter (feed-letter e it h)
role-letter {it = it} (as_dimension h m l u) = among-is (among letters) axes tt it.letter m
role-letter {e} {it = it} (in_turn t h l) = turn_is e it (among letters) tt t h

abbrev ahead : Order → ℕ → Bool
ahead o c = feeding c && leb o.last feed_rank || ltb o.last (rank c)

abbrev pub coming : Order → ℕ → Bool
coming o c = not (used o c) && ahead o c

module _ (o : Order) (it : Item) where
  abbrev c : ℕ
  c = it.letter

  in_order : o.last < rank c → T (ahead o c)
  in_order l = right (feeding c && leb o.last feed_rank) (ltb o.last (rank c)) (lt→ltb o.last (rank c) l)

  pub role-comes : {e : Edition} → Role e o it → T (coming o c)
  role-comes {e} (as_feed h l u) =
      both (not (used o c)) (ahead o c) u
      (left (feeding c && leb o.last feed_rank) (ltb o.last (rank c))
      (both (feeding c) (leb o.last feed_rank) (feed-letter e it h) (le→leb o.last feed_rank l)))
  role-comes (as_dimension h m l u) = both (not (used o c)) (ahead o c) u (in_order l)
  role-comes {e} (in_turn t h l) = both (not (used o c)) (ahead o c) (turn_is e it (λ d. not (used o d)) tt t h) (in_order l)

  -- what comes behind an item came before it
  pub comes-before : {e : Edition} → Role e o it → (d : ℕ) → T (coming (after o it) d) → T (coming o d)
  comes-before r d h =
      both (not (used o d)) (ahead o d) (used-before o it d (first (not (used (after o it) d)) (ahead (after o it) d) h))
      (⊎_elim {C = T (ahead o d)} feed other
      (either (feeding d && leb (after o it).last feed_rank) (ltb (after o it).last (rank d)) (second (not (used (after o it) d)) (ahead (after o it) d) h)))
    where
      feed : T (feeding d && leb (after o it).last feed_rank) → T (ahead o d)
      feed t =
          let l = leb→le (after o it).last feed_rank (second (feeding d) (leb (after o it).last feed_rank) t) in
          left (feeding d && leb o.last feed_rank) (ltb o.last (rank d))
          (both (feeding d) (leb o.last feed_rank) (first (feeding d) (leb (after o it).last feed_rank) t) (le→leb o.last feed_rank (omega (arith, rises o it r))))

      other : T (ltb (after o it).last (rank d)) → T (ahead o d)
      other t =
          let l = ltb→lt (after o it).last (rank d) t in
          right (feeding d && leb o.last feed_rank) (ltb o.last (rank d)) (lt→ltb o.last (rank d) (omega (arith, rises o it r)))

  -- its own letter does not come again
  pub comes-once : T (not (coming (after o it) c))
  comes-once = go (feeding c) refl
    where
      go : (b : Bool) → feeding c ≡ b → T (not (coming (after o it) c))
      go true p =
          not_T (coming (after o it) c) (λ h.
          T_not (used (after o it) c) (first (not (used (after o it) c)) (ahead (after o it) c) h) (used-own o it (rw p tt)))
      go false p =
          not_T (coming (after o it) c) (λ h.
          let l = other_last o it (rw p tt) in
          let t = rw p at (second (not (used (after o it) c)) (ahead (after o it) c) h) in
          let k = ltb→lt (after o it).last (rank c) t in
          omega (arith, l))
