-- `index::finding::own_entry`: a refusal of stages 1 to 3 of the own rows stands at one of them.
use mathlib.Core.Path.{◌∙◌, sym, ap}
use native.Mathlib.Omega.{arith}
use borrow.Author.Rules.{part_to_end}
use Rattle.rows.specs.Stages.{judged}
use Rattle.index.proofs.OwnPart.{at_end, refused-within}
use Rattle.index.proofs.finding.own_entry.Goals as goal

pub overflow_add-first : goal.overflow_add-first
overflow_add-first c =
    let a = c.args in
    let t = a.tape.now in
    let refused = sym (c.in-Err.ensures ∙ ap judged (part_to_end t _ ∙ (at_end t _ _ c.min-from.ensures).2)) in
    omega (arith, refused-within t a.first _ _ refused)
