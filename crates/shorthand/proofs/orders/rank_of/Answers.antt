-- `shorthand::orders::rank_of` meets its contract: the table is what `rank` gives of A to Z, as antt computes it, and every other byte has rank 0.
use Prim.Native.Nat.{◌+◌, ◌-◌}
use mathlib.Core.Path.{◌≡◌, sym, ◌∙◌}
use native.Mathlib.Omega.{arith}
use Rattle.shorthand.specs.Order.{rank}
use Rattle.shorthand.proofs.LetterBytes.{rank-outside}
use Rattle.rows.proofs.Tabulated.{tab-at}
use Rattle.shorthand.proofs.orders.rank_of.Goals as goal

pub returns-else-is_ascii_uppercase : goal.returns-else-is_ascii_uppercase
returns-else-is_ascii_uppercase c = sym (rank-outside c.ranges.letter.fits (sym c.is_ascii_uppercase.ensures.value ∙ c.if-is_ascii_uppercase.false))

pub returns-then-is_ascii_uppercase : goal.returns-then-is_ascii_uppercase
unfolding rank
returns-then-is_ascii_uppercase c =
    let l = c.args.letter in
    let b = c.if-is_ascii_uppercase.ensures.cases in
    let h : 65 + (l - 65) ≡ l = omega (arith, b.0) in
    rw h at (tab-at (λ k. rank (65 + k)) 26 (l - 65) 0 (omega (arith, b.1)))
