-- `punching::measure::measure_dimension`: by the kind of the value, its magnitude, and whether a sign may stand.
use mathlib.Core.Path.{◌≡◌, ◌∙◌, sym}
use Prim.Native.Nat.{◌<◌, ◌^◌, ◌+◌}
use lib.IntN.{nat_abs}
use mir.Syntax.{w64}
use mir.Val.{SFits}
use mir.Facts.{to_z-of_z}
use Rattle.shorthand.specs.declared.Kind.{Kind}
use Rattle.words.specs.declared.Value.{Value}
use Rattle.punching.specs.Rows.{minus}
use Rattle.punching.proofs.DataSteps.{data-measured, dimension-signed, dimension-unsigned}
use borrow.Author.Rules.{rules}
use Prim.Native.Nat.{ℕ}
use Rattle.punching.proofs.measure.measure_dimension.Goals as goal
use Rattle.punching.proofs.measure.measure_dimension.Goals.{After-magnitude_of-m}

-- the sign and the magnitude of the value
sized : (c : After-magnitude_of-m) → (c.magnitude_of-m.result.minus ≡ minus c.in-Dimension.z) × (c.magnitude_of-m.result.size ≡ nat_abs c.in-Dimension.z)
sized c = let f : SFits w64 c.in-Dimension.z = search rules in rw (to_z-of_z f) at c.magnitude_of-m.ensures

-- past the first test the magnitude has no more digits than the item
small : (c : After-magnitude_of-m) (t : ℕ) → t ≡ 10 ^ (c.args.d.before + c.args.d.after) → c.magnitude_of-m.result.size < t → nat_abs c.in-Dimension.z < 10 ^ (c.args.d.before + c.args.d.after)
small c t e l = rw (← e, ← (sized c).1) l

pub returns-then-is_signed : goal.returns-then-is_signed
returns-then-is_signed c =
    let a = c.args in
    let signs = sym c.if-is_signed.true ∙ c.is_signed.ensures a.d.bare in
    rw (c.in-Dimension.is, data-measured a.word (Kind.Dimension a.d) (Value.Dimension c.in-Dimension.z) (dimension-signed a.word a.d c.in-Dimension.z (small (goal.at.returns-then-is_signed c).After-magnitude_of-m _ c.ten.ensures c.if-ten-m.false) signs), ← signs)

pub returns : goal.returns
returns c =
    let a = c.args in
    let bare = sym c.if-is_signed.false ∙ c.is_signed.ensures a.d.bare in
    rw (c.in-Dimension.is, data-measured a.word (Kind.Dimension a.d) (Value.Dimension c.in-Dimension.z) (dimension-unsigned a.word a.d c.in-Dimension.z (small (goal.at.returns c).After-magnitude_of-m _ c.ten.ensures c.if-ten-m.false) bare (sym (sized (goal.at.returns c).After-magnitude_of-m).0 ∙ c.if-m.false)), ← bare)
