-- `parts::items::reach_item`: with tabs, what was fetched behind an HT are the kept rows behind it.
use mathlib.Core.Path.{◌≡◌}
use borrow.Author.Rules.{rules}
use Rattle.rows.specs.Kept.{kept_at}
use Rattle.words.specs.Front.{rows_at}
use Rattle.words.proofs.Fetched.{fetched}
use Rattle.parts.proofs.items.reach_item.Goals as goal

pub returns-then-rules : goal.returns-then-rules
returns-then-rules c =
    let rows : rows_at c.args.tape.now c.next_kept-next.result ≡ kept_at c.args.tape.now c.in-Some.row.after = fetched _ _ _ c.next_kept-next.ensures in
    search (rules, c.at_figure.ensures c.args.tape.now c.args.letter)
