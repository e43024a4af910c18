-- `punching::compose::put_dimension`: a sign where one may stand, and the digits of the magnitude.
use Prim.Native.Nat.{◌+◌, ◌^◌, ◌<◌, ◌≤◌}
use mathlib.Core.Path.{◌≡◌, ◌∙◌, sym}
use native.Mathlib.Omega.{arith}
use lib.IntN.{nat_abs}
use lib.ListN.{length}
use mir.Syntax.{w64}
use mir.Val.{SFits}
use mir.Facts.{to_z-of_z}
use Rattle.shorthand.specs.declared.Kind.{Kind}
use Rattle.shorthand.specs.Layout.{sign_of}
use Rattle.reading.proofs.DigitRows.{digits-length}
use Rattle.punching.proofs.DataSteps.{dimension-small, sign-stands, no_sign}
use borrow.Author.Rules.{rules}
use Rattle.punching.proofs.compose.put_dimension.Goals as goal
use Rattle.punching.proofs.compose.put_dimension.Goals.{After-magnitude_of-m, then-is_signed, else-is_signed}

-- the magnitude of the value, which its item's digits hold
small : (c : After-magnitude_of-m) → c.magnitude_of-m.result.size < 10 ^ (c.args.d.before + c.args.d.after)
small c =
    let f : SFits w64 c.in-Dimension.z = search rules in
    let size : c.magnitude_of-m.result.size ≡ nat_abs c.in-Dimension.z = (rw (to_z-of_z f) at c.magnitude_of-m.ensures).1 in
    rw size (dimension-small c.requires.1.0 c.args.d c.in-Dimension.z (rw c.in-Dimension.is at c.requires.1.1))

pub put_digits-requires : goal.put_digits-requires
put_digits-requires c =
    let d = c.args.d in
    let z = c.in-Dimension.z in
    let s = sign_of (Kind.Dimension d) in
    let some = digits-length (d.before + d.after) (nat_abs z) in
    let room : c.if-is_signed.line.at + (d.before + d.after) ≤ length c.if-is_signed.line.rows.now = elim c.if-is_signed.branch [
      | then-is_signed w ↦
          let sign = w.put_either.ensures.put in
          rw w.line-is (omega (arith, sign.end, sign.same, some, rw (c.in-Dimension.is, sign-stands z s (sym w.if-is_signed.true ∙ c.is_signed.ensures d.bare)) at c.requires.2))
      | else-is_signed w ↦ rw w.line-is (omega (arith, some, rw (c.in-Dimension.is, no_sign z s (sym w.if-is_signed.false ∙ c.is_signed.ensures d.bare)) at c.requires.2))
    ] in
    (room, small (goal.at.put_digits-requires c).After-magnitude_of-m)
