-- `rows::find_mark` meets its contract: from row i on, with what is held, it is answered as from the given place on.
use mathlib.Core.Path.{◌∙◌, sym}
use Rattle.rows.proofs.StageOrder.{held_plain, held-end}
use Rattle.rows.proofs.find_mark.Goals as goal

pub loop-i-preserved : goal.loop-i-preserved
loop-i-preserved c h e =
    c.loop-i.invariant h e
    ∙ held_plain _ _ c.loop-i-test.true _ c.entry-entry.ensures c.if-entry-ge-ODD.false c.if-entry-eq40.false c.if-entry-eq41.false h (e ∙ c.if-every.false)

pub returns : goal.returns
returns c = c.loop-i.invariant c.args.held (sym c.is_inside-every.ensures) ∙ held-end _ _ c.loop-i-test.false c.args.held
