-- Rows that no loss covers are the old ones, and every other is DEL.
use Prim.Native.Nat.{ℕ, ◌+◌, ◌-◌, ◌≤◌, ◌<◌}
use mathlib.Core.Path.{◌≡◌, refl}
use mathlib.Core.Bool.{Bool, true, false, cond}
use mathlib.Core.Logic.{◌⊎◌, inl, inr}
use mathlib.Core.List.{List, [], ◌∷◌, ◌++◌, flatten}
use native.Mathlib.Nat.{zero-add, not-suc-le-zero}
use native.Mathlib.Decide.{dec_lt}
use native.Mathlib.Omega.{arith}
use lib.Dec.{eqb}
use lib.ListN.{length, get_or, length-append, length-replicate, get_or-replicate, get_or-append}
use lib.Seq.{get_or-append-add}
use Rattle.shorthand.specs.declared.Format.{Format}
use Rattle.salvage.specs.Pieces.{head_of, pieces_of}
use Rattle.salvage.specs.Saving.{piece_number, overpunched, saved_rows, Loss, losses, saved_of}
use Rattle.salvage.proofs.Dividing.{head-whole}

-- one of some losses covers row i
pub data Covered (i : ℕ) : List Loss → Type 0 where
  here : {l : Loss} {ls : List Loss} → l.first ≤ i → i < l.first + l.size → Covered i (l ∷ ls)
  later : {l : Loss} {ls : List Loss} → Covered i ls → Covered i (l ∷ ls)

-- row i is DEL where a loss covers it, and else the old row
abbrev pub DelOrOld : List Loss → ℕ → ℕ → ℕ → Type 0
DelOrOld ls i new old = (Covered i ls × (new ≡ 255)) ⊎ ((Covered i ls → ⊥) × (new ≡ old))

-- a row behind the first of two lists
past : (xs ys : List ℕ) (i j : ℕ) → i ≡ length xs + j → get_or (xs ++ ys) i 0 ≡ get_or ys j 0
past xs ys i j e = rw e (get_or-append-add xs ys j 0)

-- the rows from a row on, as they are left and as they were, with the losses among them
record Treated (at : ℕ) (ls : List Loss) (new old : List ℕ) : Type 0 where
  same : length new ≡ length old
  behind : (i : ℕ) → Covered i ls → at ≤ i
  rows : (m i : ℕ) → m ≡ at + i → i < length old → DelOrOld ls m (get_or new i 0) (get_or old i 0)

nothing : (at : ℕ) → Treated at [] [] []
nothing at = record { same = refl; behind = λ i. elim [ ]; rows = λ m i e l. absurd (not-suc-le-zero l) }

-- a piece before them, that stays or is lost
module _ (at : ℕ) (r : List ℕ) (n : ℕ) {ls : List Loss} {new old : List ℕ} (k : Treated (at + length r) ls new old) where
  abbrev loss : Loss
  loss = record { first = at; size = length r; number = n }

  abbrev piece : Bool → List ℕ
  piece x = cond x r (overpunched r)

  abbrev lost : Bool → List Loss
  lost x = cond x ls (loss ∷ ls)

  long : (x : Bool) → length (piece x) ≡ length r
  long true = refl
  long false = length-replicate (length r) 255

  -- no loss begins before it
  begins : (x : Bool) (i : ℕ) → Covered i (lost x) → at ≤ i
  begins true i c = omega (arith, k.behind i c)
  begins false i (here a b) = a
  begins false i (later c) = omega (arith, k.behind i c)

  -- its own loss covers no row behind it
  passed : {i : ℕ} → at + length r ≤ i → Covered i (loss ∷ ls) → Covered i ls
  passed l (here a b) = absurd (omega arith)
  passed l (later c) = c

  -- its own rows
  own : (x : Bool) (m i : ℕ) → m ≡ at + i → i < length r → DelOrOld (lost x) m (get_or (piece x) i 0) (get_or r i 0)
  own true m i e l = inr ((λ c. omega (arith, k.behind m c)), refl)
  own false m i e l = inl (here {l = loss} (omega arith) (omega arith), get_or-replicate (length r) i 255 0 l)

  -- rows behind it
  further : (x : Bool) {i a b : ℕ} → at + length r ≤ i → DelOrOld ls i a b → DelOrOld (lost x) i a b
  further true l e = e
  further false l (inl e) = inl (later e.0, e.1)
  further false l (inr e) = inr ((λ c. e.0 (passed l c)), e.1)

  before : (x : Bool) → Treated at (lost x) (piece x ++ new) (r ++ old)
  before x =
      record {
        same = omega (arith, long x, k.same, length-append (piece x) new, length-append r old);
        behind = begins x;
        rows =
            λ m i e l. elim (dec_lt i (length r)) [
              | yes h ↦ rw (get_or-append (piece x) new 0 i (rw (long x) h), get_or-append r old 0 i h) (own x m i e h)
              | no h ↦
                  let j = i - length r in
                  rw (past (piece x) new i j (omega (arith, long x)), past r old i j (omega arith)) (further x (omega arith) (k.rows m j (omega arith) (omega (arith, length-append r old))))
            ];
      }

-- all pieces
pieces-treated : (f : Format) (h : List ℕ) (at : ℕ) (rs : List (List ℕ)) → Treated at (losses f h at rs) (saved_rows f h rs) (flatten rs)
unfolding flatten
pieces-treated f h at [] = nothing at
pieces-treated f h at (r ∷ rs) = before at r (piece_number f h r) (pieces-treated f h (at + length r) rs) (eqb (piece_number f h r) 0)

-- the tape is as long as it was, and each row is DEL or the old one
pub untouched : (f : Format) (t : List ℕ)
    → (length (saved_of f t).rows ≡ length t) × ((i : ℕ) → i < length t → DelOrOld (saved_of f t).lost i (get_or (saved_of f t).rows i 0) (get_or t i 0))
untouched f t =
    let h = head_of t in
    let k = before 0 h 0 (pieces-treated f h (0 + length h) (pieces_of t)) true in
    let all : Treated 0 (saved_of f t).lost (saved_of f t).rows t = rw (zero-add (length h), head-whole t) at k in
    (all.same, λ i l. all.rows i i (omega arith) l)
