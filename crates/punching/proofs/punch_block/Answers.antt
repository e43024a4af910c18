-- `punching::punch_block`: what the writer does is what punching does.
use Rattle.punching.proofs.Measures.{written-as-punched}
use Rattle.punching.proofs.punch_block.Goals as goal

pub returns : goal.returns
returns c =
    let a = c.args in
    let same = written-as-punched a.terms.now.edition a.terms.now.shorthand.now a.terms.now.profile.now a.block a.buffer.now in
    record { rows = rw (← same) c.write_block.ensures.rows; buffer = rw (← same) c.write_block.ensures.buffer }
