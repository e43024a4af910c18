-- The facts of a Format have one proof at most.
use mathlib.Core.HLevel.{×_prop}
use mathlib.Core.List.{List, [], ◌∷◌}
use lib.Dec.{T_prop}
use native.Mathlib.Bridge.{le_prop}
use denote.Struct.Props.{props}
use base.Stored.{Coded-set}
use Rattle.shorthand.specs.contracts.Format as row
use Rattle.shorthand.specs.declared.Format.{Format}
use Rattle.shorthand.specs.declared.Item.{Item}
use Rattle.shorthand.specs.declared.Kind.{Kind}
use Rattle.shorthand.specs.declared.Kind.TheVariants.{Plain, Speed, Dimension}
use Rattle.shorthand.specs.Layout.{items_of}
use Rattle.shorthand.specs.Facts.{Widths, Fair, none, more, Facts}

widths-prop : (k : Kind) → IsProp (Widths k)
widths-prop (Plain n) = ×_prop le_prop le_prop
widths-prop (Speed n) = ×_prop le_prop le_prop
widths-prop (Dimension d) = Prim.hlevel props

fair-prop : (its : List Item) → IsProp (Fair its)
fair-prop [] none none = λ i. none
fair-prop (it ∷ its) (more a b c d) (more e f g h) = λ i. more (T_prop _ a e i) (widths-prop it.kind b f i) (T_prop _ c g i) (fair-prop its d h i)

pub facts-prop : (f : Format) → IsProp (Facts f)
facts-prop f x y = λ i. record {
  sequence = ×_prop le_prop le_prop x.sequence y.sequence i;
  few = le_prop x.few y.few i;
  fair = fair-prop (items_of f) x.fair y.fair i;
  parts = Coded-set row.the_row.coded _ _ x.parts y.parts i;
}
