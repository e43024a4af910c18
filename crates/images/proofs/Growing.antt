-- What an append leaves: the rows pasted into the buffer, and the answer, the buffer and the arrays by what was planned.
use Prim.Native.Nat.{ℕ, ◌+◌, ◌-◌, ◌≤◌}
use mathlib.Core.Path.{◌≡◌, sym, ap, ◌∙◌}
use mathlib.Core.List.{List, [], ◌++◌, append-nil}
use native.Mathlib.Nat.{add-sub_cancel_left}
use native.Mathlib.Numerals.{add-one}
use native.Mathlib.Omega.{arith}
use lib.ListN.{length, take, drop, set, length-drop, drop_of_length-le}
use lib.Seq.{length-take-le}
use Rattle.rows.specs.Answer.{Answer, taken, refused}
use Rattle.shorthand.specs.declared.Format.{Format}
use Rattle.reading.specs.declared.Block.{Block}
use Rattle.punching.specs.Rows.{rows_of}
use Rattle.punching.specs.Answers.{measured_for, written_for, written, after}
use Rattle.punching.proofs.Measures.{measured-fit, written-room}
use Rattle.index.specs.Index.{number_in}
use Rattle.images.specs.Images.{Plan, Append, grown, pasted, buffer_grown, firsts_grown, numbers_grown}

module _ (f : Format) (b : Block) (n : ℕ) (m : taken n ≡ measured_for f b) (l : List ℕ) (at : ℕ) (h : at + n ≤ length l) where
  -- the part of the buffer that the writer is lent
  abbrev pub part : List ℕ
  part = take (at + n - at) (drop at l)

  part_is : part ≡ take n (drop at l)
  part_is = rw (add-sub_cancel_left at n)

  long : length (take n (drop at l)) ≡ n
  long = length-take-le n (drop at l) (omega (arith, length-drop at l))

  all : written_for f b part ≡ taken (rows_of f b)
  all = rw part_is (written-room f b (take n (drop at l)) n (sym m) (omega (arith, long)))

  -- it is not refused
  pub never-unwritten : (k q : ℕ) → refused k q ≡ written (written_for f b part) → ⊥
  never-unwritten k q e = let z = e ∙ ap written all in let w : ◌≡◌ {A = ℕ} 0 1 = cc in absurd (omega (arith, w))

  -- it fills just this part, and the rows around it stay
  pub part-written : (rows : List ℕ) → rows ≡ after part (written_for f b part) → take at l ++ (rows ++ drop (at + n - at) (drop at l)) ≡ pasted l at (rows_of f b)
  part-written rows e =
      let size = (measured-fit f b n (sym m)).1 in
      let filled : drop n (take n (drop at l)) ≡ [] = drop_of_length-le (take n (drop at l)) {i = n} (omega (arith, long)) in
      let mine : rows ≡ rows_of f b = rw (all, part_is, size, filled, append-nil) at e in
      rw (mine, add-sub_cancel_left at n, size)

module _ (l firsts numbers : List ℕ) (b : Block) (a : Answer Append) where
  -- refused, nothing is changed
  pub keeps : (n p : ℕ) → a ≡ refused n p → (refused n p ≡ grown a) × ((l ≡ buffer_grown l a) × ((firsts ≡ firsts_grown firsts a) × (numbers ≡ numbers_grown numbers b a)))
  keeps n p e = (rw e, (rw e, (rw e, rw e)))

  -- done as planned
  pub grows : (p : Plan) (rows : List ℕ) → a ≡ taken (record { plan = p; punched = rows }) → (after : List ℕ) → after ≡ pasted l p.at rows → (number : ℕ) → number ≡ number_in b
      → (taken (record { rows = p.rows; blocks = p.blocks + 1 }) ≡ grown a)
      × ((after ≡ buffer_grown l a) × ((set firsts p.blocks p.first ≡ firsts_grown firsts a) × (set numbers p.blocks number ≡ numbers_grown numbers b a)))
  grows p rows e after q number h = (rw (e, add-one), (rw e q, (rw e, rw (e, h))))
