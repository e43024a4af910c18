-- `reading::read_under`: the block that stands where block n does is block n.
use mathlib.Core.Path.{◌∙◌, ap}
use Rattle.std.proofs.lemmas.Result.{err_from_is_err_and}
use Rattle.rows.specs.Answer.{Answer, taken, ◌>>=◌}
use Rattle.reading.specs.declared.Entry.{Entry}
use Rattle.reading.proofs.OwnRows.{own-part}
use Rattle.reading.proofs.read_under.Goals as goal

pub returns-in_err-entry : goal.returns-in_err-entry
returns-in_err-entry c =
    let p = err_from_is_err_and c.from_residual-in_err-entry.result c.from_residual-in_err-entry.ensures.1 in
    rw (p.1, p.2) (ap (λ (a : Answer Entry). a >>= λ x. taken x.block) (c.in_err-entry.ensures ∙ own-part _ _ _ _ c.in_ok-part.ensures))

pub returns : goal.returns
returns c = ap (λ (a : Answer Entry). a >>= λ x. taken x.block) (c.in_ok-entry.ensures ∙ own-part _ _ _ _ c.in_ok-part.ensures)
