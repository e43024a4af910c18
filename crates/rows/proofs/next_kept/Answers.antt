-- `rows::next_kept` meets its contract: the first kept row from row i on, inside a control-out or not, is the first from the given place on.
use mathlib.Core.Path.{◌∙◌, sym, ap}
use Rattle.rows.specs.Kept.{first_of}
use Rattle.rows.proofs.Walks.{kept-keep, kept-pass, kept-end}
use Rattle.rows.proofs.next_kept.Goals as goal

pub returns-in-Keep : goal.returns-in-Keep
returns-in-Keep c =
    sym
    (ap first_of
    (c.loop-place.invariant
    ∙ kept-keep _ _ _ c.loop-place-test.true (sym c.turn_at.ensures ∙ c.in-Keep.is)))

pub loop-place-preserved : goal.loop-place-preserved
loop-place-preserved c =
    c.loop-place.invariant
    ∙ kept-pass _ _ _ _ c.loop-place-test.true (sym c.turn_at.ensures ∙ c.in-Pass.is)

pub returns : goal.returns
returns c = sym (ap first_of (c.loop-place.invariant ∙ kept-end _ _ _ c.loop-place-test.false))
