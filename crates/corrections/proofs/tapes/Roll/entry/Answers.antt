-- `corrections::tapes::Roll::entry`: where block n stands, that block begins.
use mathlib.Core.Path.{◌∙◌}
use Rattle.corrections.proofs.Seeking.{nth-own}
use Rattle.corrections.proofs.tapes.Roll.entry.Goals as goal

pub returns : goal.returns
returns c = c.block_from.ensures ∙ nth-own _ _ c.args.self.now.rolls _ c.in_ok-among.ensures _ c.in_ok-survey.ensures.part
