-- `index::find_number`: a loop over the numbers to the first that is the one asked for.
use mathlib.Core.Bool.{not}
use mathlib.Core.Path.{◌∙◌, sym, ap}
use borrow.Author.Tests.{eq-eqb, ne_eqb}
use Rattle.rows.specs.Answer.{refusal}
use Rattle.index.specs.Index.{mark}
use Rattle.index.proofs.FirstNumber.{first-here, first-later, first-none, mark-found, other-found, none_found}
use Rattle.index.proofs.find_number.Goals as goal
use Rattle.index.proofs.find_number.Goals.{then-sequence-ne-NO_NUMBER+else-loop-n-test, else-sequence-ne-NO_NUMBER}

pub returns-then-number-sequence : goal.returns-then-number-sequence
returns-then-number-sequence c =
    let a = c.args in
    let ns = a.numbers.now in
    let found = first-here ns a.sequence _ c.loop-n-test.true c.if-number-sequence.true in
    sym (other-found ns a.sequence (ap not (ne_eqb a.sequence mark c.if-sequence-ne-NO_NUMBER.true)) ∙ c.loop-n.invariant ∙ found)

pub loop-n-preserved : goal.loop-n-preserved
loop-n-preserved c = c.loop-n.invariant ∙ first-later c.args.numbers.now c.args.sequence _ c.loop-n-test.true c.if-number-sequence.false

pub returns : goal.returns
returns c =
    let a = c.args in
    let ns = a.numbers.now in
    ap refusal c.at.ensures ∙ elim c.if-sequence-ne-NO_NUMBER.branch [
      | then-sequence-ne-NO_NUMBER+else-loop-n-test w ↦ sym (none_found ns a.sequence (w.loop-n.invariant ∙ first-none ns a.sequence _ w.loop-n-test.false))
      | else-sequence-ne-NO_NUMBER w ↦ sym (mark-found ns a.sequence (ap not (eq-eqb a.sequence mark w.if-sequence-ne-NO_NUMBER.false)))
    ]
