-- Behind rows whose control-outs are well formed a tape is judged as it would be alone.
use mathlib.Core.Path.{sym, ◌∙◌}
use mathlib.Core.List.{List, ◌++◌}
use Prim.Native.Nat.{ℕ}
use native.Mathlib.Omega.{arith}
use lib.ListN.{length-append}
use Rattle.rows.specs.ControlOut.{WellFormed}
use Rattle.rows.specs.Passes.{Passes}
use Rattle.rows.proofs.Every.{every_front, every_back}
use Rattle.rows.proofs.Formed.{scan-behind, formed-scan, scan-formed}

-- where the whole is well formed, so is what stands behind them
pub formed-behind : {a u : List ℕ} → WellFormed a → WellFormed (a ++ u) → WellFormed u
formed-behind {u = u} w h = scan-formed u _ (sym (scan-behind w 0 u) ∙ formed-scan h 0)

-- a tape that passes, cut behind them: both parts pass
pub parts-pass : {a u : List ℕ} → WellFormed a → Passes (a ++ u) → Passes a × Passes u
parts-pass {a} {u} w p =
    let n = length-append a u in
    let l = p.short in (
      record { short = omega arith; even = every_front _ a u p.even; known = every_front _ a u p.known; formed = w },
      record { short = omega arith; even = every_back _ a u p.even; known = every_back _ a u p.known; formed = formed-behind w p.formed },
    )
