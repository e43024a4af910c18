-- The order of the items from both sides: the grammar holds of exactly the lists that the walk passes.
use Prim.Native.Nat.{ℕ, ◌≤◌}
use native.Mathlib.Omega.{arith}
use mathlib.Core.Bool.{true, not}
use mathlib.Core.List.{List, [], ◌∷◌}
use lib.Dec.{T, T_not, not_T, eqb, eqb→eq}
use lib.ListN.{length}
use Rattle.shorthand.specs.declared.Item.{Item}
use Rattle.shorthand.specs.declared.Order.{Order}
use Rattle.shorthand.specs.declared.Edition.{Edition}
use Rattle.shorthand.specs.Edition.{letters, any_of}
use Rattle.shorthand.specs.Lawful.{Distinct, letters_of, Ordered}
use Rattle.shorthand.specs.Order.{start, due, after}
use Rattle.shorthand.proofs.Tests.{nor}
use Rattle.shorthand.proofs.Roles.{role-of, role-due}
use Rattle.shorthand.proofs.Coming.{coming, role-letter, role-comes, comes-before, comes-once}
use Rattle.shorthand.proofs.Steps.{dimension-fresh}
use Rattle.shorthand.proofs.Counts.{count, count_most, count-fewer}
use Rattle.shorthand.proofs.Slots.{Slot, Row, none, left, turned, axed, fed, feed, ordered-row, row-ordered}
use Rattle.shorthand.proofs.OpenSlots.{Opening, plain, ahead, closed, no_items, role-opens}
use Rattle.shorthand.proofs.Rising.{rising, slots-rise, rising-left, turn-steps, axis-steps, own-steps, feed-steps, Unused, unused-start, unused-next}

-- items that the walk passes, one after the other
pub data Items (e : Edition) : Order → List Item → Type 0 where
  done : {o : Order} → Items e o []
  next : {o : Order} {it : Item} {its : List Item} → T (due e o it) → Items e (after o it) its → Items e o (it ∷ its)

-- ---- their letters

-- an item that may come has one of the 22
pub due-letter : (e : Edition) (o : Order) (it : Item) → T (due e o it) → T (any_of (λ c. eqb c it.letter) letters)
due-letter e o it h = role-letter (role-of e o it h)

-- a letter that can't come any more stands nowhere later
absent : {e : Edition} {o : Order} {its : List Item} (c : ℕ) → T (not (coming o c)) → Items e o its → T (not (any_of (λ d. eqb d c) (letters_of its)))
absent c n done = tt
absent {e} {o} c n (next {it = it} {its = its} h rest) =
    let r = role-of e o it h in
    nor (eqb it.letter c) (any_of (λ d. eqb d c) (letters_of its))
    (not_T (eqb it.letter c) (λ t. T_not (coming o c) n (rw (← eqb→eq it.letter c t) (role-comes o it r))))
    (absent c (not_T (coming (after o it) c) (λ t. T_not (coming o c) n (comes-before o it r c t))) rest)

-- no letter stands twice
pub items-distinct : {e : Edition} {o : Order} {its : List Item} → Items e o its → Distinct (letters_of its)
items-distinct done = Distinct.none
items-distinct {e} {o} (next {it = it} h rest) = Distinct.more (absent it.letter (comes-once o it) rest) (items-distinct rest)

-- no more items than letters that may come
items-count : {e : Edition} {o : Order} {its : List Item} → Items e o its → length its ≤ count (coming o) letters
items-count done = omega arith
items-count {e} {o} (next {it = it} h rest) =
    let r = role-of e o it h in
    omega (arith, items-count rest, count-fewer (coming (after o it)) (coming o) (comes-before o it r) it.letter (role-comes o it r) (comes-once o it) letters (role-letter r))

-- at most 22
pub items-few : {e : Edition} {its : List Item} → Items e start its → length its ≤ 22
items-few h = omega (arith, items-count h, count_most (coming start) (λ c. true) (λ c t. tt) letters)

-- ---- their order

-- what the walk passes fills the slots that are open to it
items-open : {e : Edition} {o : Order} {its : List Item} → Items e o its → Opening e o.fresh (ahead o) its
items-open {o = o} done = plain (no_items (ahead o))
items-open {e} {o} (next {it = it} h rest) = role-opens o it (role-of e o it h) (items-open rest)

pub items-ordered : {e : Edition} {its : List Item} → Items e start its → Ordered e its
items-ordered h = row-ordered (closed (items-open h)) (items-distinct h)

-- the walk passes what fills slots in rising order
row-items : {e : Edition} {o : Order} {ss : List Slot} {its : List Item} → T (rising o.last ss) → Unused o its → Row e ss its → Items e o its
row-items r u none = done
row-items {o = o} r u (left {s = s} {ss = ss} a) = row-items {o = o} (rising-left o.last s ss r) u a
row-items {e} {o} r u (turned {t = t} {ss = ss} {it = it} {its = its} h a) =
    let s = turn-steps e o it ss t h r in
    next (role-due e o it s.0) (row-items {o = after o it} s.1 (unused-next o it its u) a)
row-items {e} {o} r u (axed {c = c} {ss = ss} {it = it} {its = its} h a) =
    let s = axis-steps e o it ss c h r u.all.0 in
    next (role-due e o it s.0.0) (row-items {o = after o it} s.0.1 (unused-next o it its u) a)
row-items {e} {o} r u (fed {c = c} {ss = ss} {it = it} {own = f} {its = its} h w a) =
    let s = axis-steps e o it ss c h r u.all.0 in
    let v = unused-next o it (f ∷ its) u in
    let k = own-steps e (after o it) f ss w (dimension-fresh o it e c h) s.1 s.0.1 v.all.0 in
    next (role-due e o it s.0.0) (next (role-due e (after o it) f k.0) (row-items {o = after (after o it) f} k.1 (unused-next (after o it) f its v) a))
row-items {e} {o} r u (feed {ss = ss} {it = it} {its = its} h a) =
    let s = feed-steps e o it ss h r u.all.0 in
    next (role-due e o it s.0) (row-items {o = after o it} s.1 (unused-next o it its u) a)

pub ordered-items : {e : Edition} {its : List Item} → Ordered e its → Items e start its
ordered-items {its = its} h = row-items slots-rise (unused-start its h.once) (ordered-row h)
