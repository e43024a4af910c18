-- `slides::moves::move_block`: by whether the block counts, and what its words did.
use mathlib.Core.Path.{◌≡◌}
use mathlib.Core.Bool.{false, not, ◌&&◌}
use borrow.Author.Rules.{rules}
use Rattle.rows.specs.Answer.{refusal}
use Rattle.slides.specs.Moves.{block_tried}
use Rattle.slides.proofs.BlockTrials.{passed-by, by-words}
use Rattle.slides.proofs.moves.move_block.Goals as goal
use Rattle.slides.proofs.moves.move_block.Goals.{After-choose-increments, else-block-via-then-block+else-not-rule, else-block-via-else-block}

-- the block counts
there : (c : After-choose-increments) → (c.args.block.skip && not c.args.rule.slashed) ≡ false
there c =
    elim c.else-block.branch [
      | else-block-via-then-block+else-not-rule w ↦ rw (w.if-block.true, w.if-not-rule.false)
      | else-block-via-else-block w ↦ rw w.if-block.false
    ]

pub returns-then-not-rule : goal.returns-then-not-rule
returns-then-not-rule c = passed-by _ _ _ _ (rw (c.if-block.true, c.if-not-rule.true))

pub returns-in_err-places : goal.returns-in_err-places
returns-in_err-places c =
    let a = c.args in
    let rest : refusal c.in_err-places.field-0.0 ≡ block_tried a.rule a.k a.block a.slides = by-words a.rule a.k a.block a.slides (there (goal.at.returns-in_err-places c).After-choose-increments) _ c.choose-increments.ensures _ c.in_err-places.ensures in
    search rules

pub returns : goal.returns
returns c =
    let a = c.args in
    by-words a.rule a.k a.block a.slides (there (goal.at.returns c).After-choose-increments) _ c.choose-increments.ensures _ c.in_ok-places.ensures
