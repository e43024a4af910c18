-- `rows::walk_rows` meets its contract: from row next on, with what is held, it is answered as the whole tape is.
use mathlib.Core.Path.{◌∙◌, sym, ap}
use Rattle.rows.specs.Answer.{refusal}
use Rattle.rows.proofs.StageOrder.{held-odd, held-behind}
use Rattle.rows.proofs.walk_rows.Goals as goal

pub returns-then-mark : goal.returns-then-mark
returns-then-mark c =
    ap refusal c.at.ensures
    ∙ sym
    (c.loop-mark.invariant
    ∙ c.in-Some.ensures.3
    ∙ held-odd _ _ c.in-Some.ensures.1 _ c.in-Some.ensures.2 c.if-mark.true c.loop-mark.held)

pub loop-mark-preserved : goal.loop-mark-preserved
loop-mark-preserved c =
    c.loop-mark.invariant
    ∙ c.in-Some.ensures.3
    ∙ held-behind _ _ c.in-Some.ensures.1 _ c.in-Some.ensures.2 c.if-mark.false c.loop-mark.held _ c.hold_mark-held.ensures
