-- `salvage::pieces::piece_end`: the first piece from a row on ends behind its first LF row, or where the tape does.
use Prim.Native.Nat.{ℕ, ◌+◌, ◌-◌, ◌<◌}
use mathlib.Core.Path.{◌≡◌, ◌∙◌, sym}
use mathlib.Core.List.{List}
use native.Mathlib.Omega.{arith}
use lib.ListN.{length, get_or, take, drop, length-drop}
use lib.Seq.{get_or-drop, take_all}
use borrow.Author.Rules.{rules}
use Rattle.salvage.proofs.FirstLF.{lf-found, lf-missed}
use Rattle.salvage.proofs.pieces.piece_end.Goals as goal

-- rows from one on are rows
below : (t : List ℕ) (from : ℕ) → ((i : ℕ) → get_or t i 0 < 256) → (i : ℕ) → get_or (drop from t) i 0 < 256
below t from h i = rw (get_or-drop from t i 0) (h (from + i))

-- to the end of the tape
to_end : (t : List ℕ) (from : ℕ) → take (length t - from) (drop from t) ≡ drop from t
to_end t from = take_all (length t - from) (drop from t) (omega (arith, length-drop from t))

pub returns-in-Some : goal.returns-in-Some
returns-in-Some c =
    let t = c.args.tape.now in
    let rows : (i : ℕ) → get_or t i 0 < 256 = λ i. search rules in
    let e = lf-found (drop c.args.from t) (below t c.args.from rows) c.in-Some.k (rw (to_end t c.args.from) at (sym c.lf_in.ensures ∙ c.in-Some.is)) in
    omega (arith, e)

pub returns-in-None : goal.returns-in-None
returns-in-None c =
    let t = c.args.tape.now in
    let rows : (i : ℕ) → get_or t i 0 < 256 = λ i. search rules in
    let e = lf-missed (drop c.args.from t) (below t c.args.from rows) (rw (to_end t c.args.from) at (sym c.lf_in.ensures ∙ c.in-None.is)) in
    omega (arith, e, length-drop c.args.from t)
