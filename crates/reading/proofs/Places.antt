-- Where the blocks of a tape stand: kept rows rise, and each block's rows run from just after the end before it to its own LF.
use Prim.Native.Nat.{ℕ, zero, suc, ◌+◌, ◌≤◌, ◌<◌}
use mathlib.Core.Path.{◌≡◌, refl}
use mathlib.Core.Bool.{Bool, true, false, cond}
use mathlib.Core.List.{List, [], ◌∷◌, ◌++◌}
use native.Mathlib.Nat.{le_refl, le_trans, le_of_suc-le-suc}
use native.Mathlib.Numerals.{add-one}
use native.Mathlib.Decide.{dec_le}
use native.Mathlib.Omega.{arith}
use lib.ListN.{length, get_or, drop, length-drop, drop_of_length-le}
use Rattle.rows.specs.Row.{character}
use Rattle.rows.specs.Answer.{taken}
use Rattle.rows.specs.Kept.{KeptRow, within, stays, kept_from, kept_at, kept}
use Rattle.shorthand.specs.declared.Format.{Format}
use Rattle.reading.specs.Front.{Rising, over, rise}
use Rattle.words.specs.Figures.{Behind}
use Rattle.reading.specs.declared.Entry.{Entry}
use Rattle.parts.specs.Ends.{head_at}
use Rattle.reading.specs.Answers.{program_at}
use Rattle.reading.proofs.ReadBlocks.{Last, last, before, Entries}
use Rattle.reading.proofs.Sound.{taken-rows}

-- ---- kept rows rise

pub rising-lower : {n i j : ℕ} {rs : List KeptRow} → j ≤ i → Rising n i rs → Rising n j rs
rising-lower l over = over
rising-lower l (rise a b h) = rise (le_trans l a) b h

pub kept-rising : (w : Bool) (i : ℕ) (u : List ℕ) {n : ℕ} → i + length u ≤ n → Rising n i (kept_from w i u)
unfolding kept_from
kept-rising w i [] l = over
kept-rising w i (b ∷ u) {n} l = go (stays w (character b)) (kept-rising (within w (character b)) (suc i) u (omega arith))
  where
    go : (x : Bool) {rest : List KeptRow} → Rising n (suc i) rest → Rising n i (cond x (record { place = i; char = character b } ∷ rest) rest)
    go true h = rise (le_refl i) (omega arith) h
    go false h = rising-lower (omega arith) h

-- the places of the rows from any place on rise
pub rising-at : (t : List ℕ) (i : ℕ) → Rising (length t) i (kept_at t i)
unfolding kept_from
rising-at t i =
    elim (dec_le i (length t)) [
      | yes l ↦ kept-rising false i (drop i t) (rw (length-drop i t) (omega arith))
      | no l ↦ rw (drop_of_length-le t {i = i} (omega arith)) over
    ]

-- rows that end at the place p stand from i on, below n, and those behind them from p on
pub last-rising : {n p i : ℕ} {s : List KeptRow} (rest : List KeptRow) → Last p s → Rising n i (s ++ rest) → (i ≤ p) × (p < n) × Rising n (suc p) rest
last-rising {n} rest (last e) (rise a b h) = rw (← e) (a, b, h)
last-rising rest (before l) (rise a b h) = let k = last-rising rest l h in (omega (arith, k.0), k.1, k.2)

-- the rows behind some of them rise too
pub rising-rest : {n i : ℕ} (s rest : List KeptRow) → Rising n i (s ++ rest) → Rising n i rest
rising-rest [] rest h = h
rising-rest (r ∷ s) rest (rise a b h) = rising-lower (omega (arith, a)) (rising-rest s rest h)

-- ---- the entries

-- each entry starts where the one before it ended, holds a row at least, and ends at n at most
pub data Consecutive (n : ℕ) : ℕ → List Entry → Type 0 where
  none : {from : ℕ} → Consecutive n from []
  more : {from : ℕ} {x : Entry} {es : List Entry} → x.from ≡ from → x.from < x.to → x.to ≤ n → Consecutive n x.to es → Consecutive n from (x ∷ es)

entries-consecutive : {f : Format} {n from : ℕ} {es : List Entry} {rs : List KeptRow} → Entries f from es rs → Rising n from rs → Consecutive n from es
entries-consecutive Entries.none h = none
entries-consecutive {n = n} (Entries.more {from = from} {p = p} {rest = rest} b l m) h =
    let k = last-rising rest l h in
    let some : from < p + 1 = omega (arith, k.0) in
    let inside : p + 1 ≤ n = omega (arith, k.1) in
    more refl some inside (entries-consecutive m (rw (add-one p) k.2))

module _ {n : ℕ} (d : Entry) where
  first-from : {from : ℕ} {es : List Entry} → Consecutive n from es → 0 < length es → (get_or es 0 d).from ≡ from
  first-from none l = absurd (omega arith)
  first-from (more e a b h) l = e

  each_within : {from : ℕ} {es : List Entry} → Consecutive n from es → (i : ℕ) → i < length es → ((get_or es i d).from < (get_or es i d).to) × ((get_or es i d).to ≤ n)
  each_within none i l = absurd (omega arith)
  each_within (more e a b h) zero l = (a, b)
  each_within (more e a b h) (suc i) l = each_within h i (le_of_suc-le-suc l)

  each_next : {from : ℕ} {es : List Entry} → Consecutive n from es → (i : ℕ) → suc i < length es → (get_or es (suc i) d).from ≡ (get_or es i d).to
  each_next none i l = absurd (omega arith)
  each_next (more e a b h) zero l = first-from h (le_of_suc-le-suc l)
  each_next (more e a b h) (suc i) l = each_next h i (le_of_suc-le-suc l)

-- what is known of the places of the blocks es of a tape, d being what stands past their end
pub record Places (t : List ℕ) (es : List Entry) (d : Entry) : Type 0 where
  pub head : Behind ℕ
  pub begins : head_at (length t) (kept t) ≡ taken head
  pub first : 0 < length es → (get_or es 0 d).from ≡ head.value + 1
  pub within : (i : ℕ) → i < length es → ((get_or es i d).from < (get_or es i d).to) × ((get_or es i d).to ≤ length t)
  pub next : (i : ℕ) → suc i < length es → (get_or es (suc i) d).from ≡ (get_or es i d).to

pub places : (f : Format) (t : List ℕ) (es : List Entry) → program_at (length t) f (kept t) ≡ taken es → (d : Entry) → Places t es d
places f t es e d =
    let h = taken-rows f (length t) (kept t) es e in
    let rising : Rising (length t) 0 (kept t) = kept-rising false 0 t (omega arith) in
    let k = last-rising h.head.rest h.front.stands.to (rw h.front.split at rising) in
    let c : Consecutive (length t) (h.head.value + 1) es = entries-consecutive h.blocks (rw (add-one h.head.value) k.2) in
    record { head = h.head; begins = h.begins; first = first-from d c; within = each_within d c; next = each_next d c }
