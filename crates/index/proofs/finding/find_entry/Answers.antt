-- `index::finding::find_entry`: by each test of the tape and the index.
use mathlib.Core.Path.{◌∙◌, sym, ap}
use lib.ListN.{get_or}
use Rattle.rows.specs.Answer.{refusal}
use Rattle.index.specs.Finding.{own_entry}
use Rattle.index.proofs.EntryTests.{entry-long, entry_past, entry-own}
use Rattle.index.proofs.finding.find_entry.Goals as goal

pub returns-then-tape-gt-LIMIT : goal.returns-then-tape-gt-LIMIT
returns-then-tape-gt-LIMIT c =
    let a = c.args in
    ap refusal c.at.ensures ∙ sym (entry-long a.usable.format a.tape.now a.firsts.now a.n c.if-tape-gt-LIMIT.true)

pub returns-then-firsts-n : goal.returns-then-firsts-n
returns-then-firsts-n c =
    let a = c.args in
    ap refusal c.at-then-firsts-n.ensures ∙ sym (entry_past a.usable.format a.tape.now a.firsts.now a.n c.if-tape-gt-LIMIT.false c.if-firsts-n.true)

pub returns : goal.returns
returns c =
    let a = c.args in
    c.own_entry.ensures ∙ ap (λ u. own_entry a.usable.format u (get_or a.firsts.now a.n 0)) c.own_end-end.ensures.1
    ∙ sym (entry-own a.usable.format a.tape.now a.firsts.now a.n c.if-tape-gt-LIMIT.false c.if-firsts-n.false)
