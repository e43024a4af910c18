-- The last line: composed in a line of its own, and put at the front of the buffer where it is no longer than that; else 19 at its length.
use Prim.Native.Nat.{ℕ, ◌+◌, ◌≤◌}
use mathlib.Core.Path.{◌≡◌, ap, ◌∙◌}
use mathlib.Core.List.{List, ◌++◌}
use native.Mathlib.Omega.{arith}
use lib.ListN.{length, take, drop}
use lib.Seq.{sets-eq, take-append_seam}
use borrow.Author.Tests.{le-leb}
use Rattle.punching.specs.Answers.{room_for, after}
use Rattle.text.specs.Line.{Put}

-- what is put at the front stands before the old rest
front : {l₀ l line : List ℕ} {n : ℕ} → Put l₀ 0 line l n → n ≤ length l₀ → l ≡ line ++ drop (length line) l₀
front {l₀} {l} {line} {n} p h =
    let e : 0 + length line ≡ length line = omega arith in
    p.bytes ∙ sets-eq line l₀ 0 (omega (arith, p.end)) ∙ ap (λ k. line ++ drop k l₀) e

-- the line is composed, n bytes
module _ {l₀ l line : List ℕ} {n : ℕ} (p : Put l₀ 0 line l n) (h : n ≤ length l₀) where
  long : length line ≡ n
  long = omega (arith, p.end)

  composed : take n l ≡ line
  composed = rw (← long, front p h) (take-append_seam line (drop (length line) l₀))

  pub in-room : {buffer t : List ℕ} {m : ℕ} → n ≤ length buffer → Put buffer 0 (take n l) t m → t ≡ after buffer (room_for buffer line)
  in-room {buffer} g q =
      let q₂ = rw composed at q in rw (le-leb (length line) (length buffer) (omega (arith, long))) (front q₂ (omega (arith, q₂.end, long)))
