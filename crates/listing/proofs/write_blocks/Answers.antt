-- `listing::write_blocks` is safe: the tape that was counted is accepted, and its blocks stand behind its head.
use Rattle.std.proofs.Common.{sym, ap, ◌∙◌, arith}
use Rattle.rows.specs.Answer.{told}
use Rattle.reading.proofs.BlockWalk.{enters-at}
use Rattle.lines.proofs.Listed.{counted-remains}
use Rattle.listing.proofs.write_blocks.Goals as goal

pub overflow_add-end : goal.overflow_add-end
overflow_add-end g c = omega (arith, (enters-at c.args.tape.now _ _ (sym c.in-Ok-enter_tape.ensures)).0)

pub write_pages-requires : goal.write_pages-requires
write_pages-requires g c = counted-remains _ _ _ _ _ (sym (ap told c.in-Ok.is) ∙ c.requires) _ c.in-Ok-parse.ensures _ _ (sym c.in-Ok-enter_tape.ensures)
