-- `parts::starts::read_start`: "/" and the row behind it, where it stands.
use mathlib.Core.Path.{◌∙◌}
use lib.ListN.{length}
use Rattle.words.specs.Front.{rows_at}
use Rattle.parts.specs.Items.{bare_by}
use Rattle.parts.proofs.Marks.{slashed}
use Rattle.parts.proofs.starts.read_start.Goals as goal

pub returns : goal.returns
returns c =
    let a = c.args in
    let g = a.guide.now in
    c.read_sequence.ensures
    ∙ rw (c.pass_slash.ensures, c.is_slash.ensures a.tape.now) (slashed (length a.tape.now) g.rules.digits (bare_by g.rules g.leads) (rows_at a.tape.now a.front))
