-- The own rows of a block as a part of its tape: where they begin and end, and where a refusal of their first three stages stands.
use mathlib.Core.Path.{◌≡◌}
use mathlib.Core.Bool.{Bool, true, false, cond}
use mathlib.Core.List.{List}
use Prim.Native.Nat.{ℕ, ◌+◌, ◌≤◌, ◌<◌, min}
use native.Mathlib.Nat.{le_refl}
use native.Mathlib.Decide.{dec_le}
use native.Mathlib.Omega.{arith}
use lib.Dec.{ltb}
use lib.ListN.{length, get_or, take, drop, length-drop}
use lib.Seq.{take_all, length-take-le}
use Rattle.std.proofs.lemmas.List.{drop_min, take_min}
use Rattle.rows.specs.Answer.{refused}
use Rattle.rows.specs.Stages.{judged}
use Rattle.rows.specs.Faults.{RowRefusal, long, odd, foreign, fault}
use Rattle.rows.proofs.RowRefusals.{refused-exactly, fault-row}
use Rattle.index.specs.Finding.{up_to}

-- ---- where they begin and end

module _ (t : List ℕ) where
  -- a row behind the end stands for the end
  pub at_end : (a r : ℕ) → r ≡ min a (length t) → (r ≤ length t) × (take r t ≡ take a t) × (drop r t ≡ drop a t)
  at_end a r e = rw e (omega arith, take_min a t, drop_min a t)

  shorter : (a : ℕ) → length (take a t) ≤ length t
  shorter a =
      elim (dec_le a (length t)) [
        | yes l ↦ rw (length-take-le a t l) l
        | no l ↦ rw (take_all a t (omega arith)) (le_refl _)
      ]

  module _ (firsts : List ℕ) (n : ℕ) where
    pub up-to-within : length (up_to t firsts n) ≤ length t
    up-to-within = by (ltb (n + 1) (length firsts))
      where
        by : (b : Bool) → length (cond b (take (get_or firsts (n + 1) 0) t) t) ≤ length t
        by true = shorter (get_or firsts (n + 1) 0)
        by false = le_refl _

-- ---- where a refusal stands

-- a refusal of stages 1 to 3 names a row of the tape
row-refused : (t : List ℕ) (n p : ℕ) → RowRefusal t n p → p < length t
row-refused t n p (long l) = l
row-refused t n p (odd l k) = k.is.0
row-refused t n p (foreign l o k) = k.is.0
row-refused t n p (fault l o f k) = fault-row k.is

-- so, counted from row i, one of the rows behind it
pub refused-within : (t : List ℕ) (i n p : ℕ) → judged (drop i t) ≡ refused n p → i + p < length t
refused-within t i n p e =
    let l = row-refused (drop i t) n p ((refused-exactly (drop i t) n p).0 e) in
    omega (arith, l, length-drop i t)
