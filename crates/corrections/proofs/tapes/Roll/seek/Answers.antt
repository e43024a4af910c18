-- `corrections::tapes::Roll::seek`: a loop over the blocks to the first that has the number.
use mathlib.Core.Path.{◌∙◌, ap}
use Rattle.rows.specs.Answer.{refusal}
use Rattle.corrections.proofs.Seeking.{seeks-start, none-sought, seek-there, here, passed}
use Rattle.corrections.proofs.tapes.Roll.seek.Goals as goal

pub loop-block-init : goal.loop-block-init
loop-block-init c = seeks-start _ _ c.args.self.now.rolls _

pub returns-in_err-entry : goal.returns-in_err-entry
returns-in_err-entry c = absurd (seek-there _ _ c.args.self.now.rolls _ c.loop-block.invariant c.loop-block-test.true _ _ c.in_err-entry.ensures)

pub returns-then-mark_number-q : goal.returns-then-mark_number-q
returns-then-mark_number-q c =
    here _ _ c.args.self.now.rolls _ c.loop-block.invariant c.loop-block-test.true _ c.in_ok-entry.ensures _ c.mark_number.ensures c.if-q-eq-NO_NUMBER.false c.if-mark_number-q.true

pub loop-block-preserved : goal.loop-block-preserved
loop-block-preserved c =
    passed _ _ c.args.self.now.rolls _ c.loop-block.invariant c.loop-block-test.true _ c.in_ok-entry.ensures _ c.mark_number.ensures c.if-mark_number-q.false

pub returns : goal.returns
returns c = ap refusal c.at-2.ensures ∙ none-sought _ _ c.args.self.now.rolls _ c.loop-block.invariant c.loop-block-test.false
