-- Parity stands before all other reading of the head and of each piece.
use Prim.Native.Nat.{ℕ, ◌≤◌}
use mathlib.Core.Path.{◌≡◌, refl, sym, ap, subst, ◌∙◌}
use mathlib.Core.List.{List, ◌++◌, flatten}
use native.Mathlib.Omega.{arith}
use lib.Dec.{T}
use lib.ListN.{length, length-append}
use borrow.Author.Tests.{le-ltb}
use Rattle.rows.specs.Answer.{Answer, taken, refused, number_of}
use Rattle.rows.specs.Faults.{Odd, Lowest, RowRefusal, long, odd, foreign, fault}
use Rattle.rows.specs.Stages.{limit, judged}
use Rattle.rows.proofs.Every.{every-at}
use Rattle.rows.proofs.Judged.{clean-passes}
use Rattle.rows.proofs.Outcomes.{Holds, refusal}
use Rattle.rows.proofs.RowRefusals.{row-refusals, refused-exactly}
use Rattle.shorthand.specs.declared.Format.{Format}
use Rattle.reading.specs.Answers.{read}
use Rattle.reading.specs.Survey.{alone}
use Rattle.reading.proofs.BehindHead.{OnlyHead}
use Rattle.salvage.specs.Pieces.{head_of, pieces_of}
use Rattle.salvage.specs.Saving.{piece_number, salvaged_for}
use Rattle.salvage.proofs.Dividing.{head-whole}
use Rattle.salvage.proofs.HeadAlone.{piece-alone}
use Rattle.salvage.proofs.PieceCounts.{alone-refused, own_number}

-- an odd row in the head: 5 at its first
pub odd-head : (f : Format) (t : List ℕ) (firsts sizes numbers p : ℕ) → length t ≤ limit → Lowest (Odd (head_of t)) p → salvaged_for f t firsts sizes numbers ≡ refused 5 p
unfolding salvaged_for read
odd-head f t firsts sizes numbers p l k =
    let short : length (head_of t) ≤ limit = omega (arith, l, ap length (head-whole t), length-append (head_of t) (flatten (pieces_of t))) in
    rw (le-ltb limit (length t) l, (refused-exactly (head_of t) 5 p).1 (odd short k))

-- rows with an odd one are refused by 5, whatever else is wrong with them
odd-judged : (r : List ℕ) (q : ℕ) → length r ≤ limit → Odd r q → (p : ℕ) × (judged r ≡ refused 5 p)
odd-judged r q l o = by (judged r) refl (row-refusals r)
  where
    by : (a : Answer (Unit {0})) → judged r ≡ a → Holds (RowRefusal r) (λ u. Unit {0}) a → (p : ℕ) × (judged r ≡ refused 5 p)
    by (taken tt) e h = let even = every-at _ r q 0 o.0 (clean-passes r e).even in absurd (subst T o.1 even)
    by (refused n p) e (refusal (long s)) = absurd (omega (arith, l, s))
    by (refused n p) e (refusal (odd s k)) = (p, e)
    by (refused n p) e (refusal (foreign s none k)) = absurd (none q o)
    by (refused n p) e (refusal (fault s none g k)) = absurd (none q o)

-- a piece with an odd row is listed with 5
pub odd-piece : (f : Format) {h : List ℕ} → OnlyHead h → (r : List ℕ) (q : ℕ) → length (h ++ r) ≤ limit → Odd r q → piece_number f h r ≡ 5
odd-piece f {h} head r q l o = piece-alone f head r l ∙ listed (odd-judged r q (omega (arith, l, length-append h r)) o)
  where
    listed : (p : ℕ) × (judged r ≡ refused 5 p) → number_of (alone f r) ≡ 5
    listed k = sym (own_number (alone f r) 5 k.0 (alone-refused f r 5 k.0 (sym k.1)))
