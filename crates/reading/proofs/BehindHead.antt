-- The answer of rows behind a head is the answer of those rows alone, moved by the head's length.
use Prim.Native.Nat.{ℕ, ◌+◌, ◌≤◌}
use mathlib.Core.Path.{◌≡◌, refl, ap, ◌∙◌}
use mathlib.Core.List.{List, ◌++◌, map}
use native.Mathlib.Omega.{arith}
use lib.ListN.{length, length-append, length-map}
use Rattle.rows.specs.Answer.{Answer, taken, refused, ◌>>◌}
use Rattle.rows.specs.Kept.{kept}
use Rattle.rows.specs.Passes.{Passes}
use Rattle.rows.specs.Stages.{limit, judged}
use Rattle.shorthand.specs.declared.Format.{Format}
use Rattle.reading.specs.Parse.{blocks_at}
use Rattle.reading.specs.Answers.{program_at, read}
use Rattle.reading.specs.Survey.{alone}
use Rattle.reading.proofs.ReadBlocks.{HeadRows}
use Rattle.reading.proofs.BlockWalk.{program-blocks}
use Rattle.reading.proofs.EntryRows.{head-placed}
use Rattle.reading.proofs.MovedRows.{moved, moved_row, kept-behind, judged-behind}
use Rattle.reading.proofs.MovedBlocks.{moved_entry, blocks-moved}

-- rows that pass and are a head, up to its end, and nothing behind it
pub record OnlyHead (h : List ℕ) : Type 0 where
  pub passes : Passes h
  pub lf : ℕ
  pub heads : HeadRows lf (kept h)
  pub ends : lf + 1 ≡ length h

-- both stages moved
both-moved : {A B C : Type 0} (d : ℕ) (g : B → C) (x : Answer A) (y : Answer B) (z : Answer C) → z ≡ moved d g y → (moved d (λ a. a) x >> z) ≡ moved d g (x >> y)
both-moved d g (taken a) y z e = e
both-moved d g (refused n p) y z e = refl

module _ (f : Format) {h : List ℕ} (o : OnlyHead h) (r : List ℕ) where
  -- the fourth stage enters the head, and goes on behind it
  past_head : program_at (length (h ++ r)) f (kept (h ++ r)) ≡ moved (length h) (map (moved_entry (length h))) (blocks_at (length (kept r)) (length r) f 0 (kept r))
  past_head =
      let d = length h in
      let rest = map (moved_row d) (kept r) in
      let from : o.lf + 1 ≡ d + 0 = omega (arith, o.ends) in
      ap (program_at (length (h ++ r)) f) (kept-behind o.passes.formed r)
      ∙ program-blocks (length (h ++ r)) f (kept h ++ rest) o.lf rest (head-placed o.heads (length (h ++ r)) rest)
      ∙ rw (length-append h r, from, length-map (kept r) (moved_row d)) (blocks-moved f d (length (kept r)) (length r) 0 (kept r))

  pub read_behind : length (h ++ r) ≤ limit → read f (h ++ r) ≡ moved (length h) (map (moved_entry (length h))) (alone f r)
  unfolding read alone
  read_behind l =
      rw (judged-behind o.passes r l)
      (both-moved (length h) (map (moved_entry (length h))) (judged r) (blocks_at (length (kept r)) (length r) f 0 (kept r)) (program_at (length (h ++ r)) f (kept (h ++ r))) past_head)
