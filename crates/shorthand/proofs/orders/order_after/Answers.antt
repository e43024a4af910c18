-- `shorthand::orders::order_after` meets its contract: each field is that of `after`.
use mathlib.Core.Path.{◌≡◌, refl}
use mathlib.Core.Bool.{false}
use Rattle.shorthand.specs.declared.Figures.{Figures}
use Rattle.shorthand.specs.declared.Kind.{Kind}
use Rattle.shorthand.specs.declared.Kind.TheVariants.{Plain, Speed, Dimension}
use Rattle.shorthand.specs.Order.{after, is_axis}
use Rattle.shorthand.proofs.orders.order_after.Goals as goal
use Rattle.shorthand.proofs.orders.order_after.Goals.{in-Dimension, in_default}

no-axis : (k : Kind) → ((x : Figures) → k ≡ Dimension x → ⊥) → is_axis k ≡ false
no-axis (Plain n) h = refl
no-axis (Speed n) h = refl
no-axis (Dimension d) h = absurd (h d refl)

pub returns : goal.returns
unfolding after
returns c =
    let fresh : c.match-matches.matches ≡ is_axis c.args.item.kind =
    elim c.match-matches.branch [ in-Dimension w ↦ rw (w.matches-is, w.in-Dimension.is) | in_default w ↦ rw (w.matches-is, no-axis _ w.in_default.not-Dimension) ] in
    rw (c.rank_reached.ensures, fresh)
