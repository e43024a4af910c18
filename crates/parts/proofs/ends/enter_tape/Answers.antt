-- `parts::ends::enter_tape`: what is fetched first are the kept rows of the tape.
use mathlib.Core.Path.{◌≡◌}
use borrow.Author.Rules.{rules}
use Rattle.rows.specs.Kept.{kept_at}
use Rattle.words.specs.Front.{rows_at}
use Rattle.words.proofs.Fetched.{fetched}
use Rattle.parts.specs.Ends.{entered}
use Rattle.parts.proofs.ends.enter_tape.Goals as goal

pub returns : goal.returns
unfolding entered
returns c =
    let rows : rows_at c.args.tape.now c.next_kept.result ≡ kept_at c.args.tape.now 0 = fetched _ _ _ c.next_kept.ensures in
    search rules
