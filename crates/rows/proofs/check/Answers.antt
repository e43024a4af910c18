-- `rows::check` meets its contract: past the limit at once, else by the one walk.
use mathlib.Core.Path.{◌∙◌, sym}
use borrow.Author.Tests.{lt-ltb, le-ltb}
use Rattle.rows.specs.Stages.{judged}
use Rattle.rows.proofs.StageOrder.{judged-whole}
use Rattle.rows.proofs.check.Goals as goal

pub returns-then-tape-gt-LIMIT : goal.returns-then-tape-gt-LIMIT
unfolding judged
returns-then-tape-gt-LIMIT c = rw (c.at.ensures, lt-ltb _ _ c.if-tape-gt-LIMIT.true)

pub returns : goal.returns
returns c = c.walk_rows.ensures ∙ sym (judged-whole _ (le-ltb _ _ c.if-tape-gt-LIMIT.false))
