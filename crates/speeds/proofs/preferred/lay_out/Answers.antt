-- `speeds::preferred::lay_out` meets its contract: the constant is the table that the document prints.
use mathlib.Core.Path.{refl}
use Rattle.speeds.specs.Preferred.{rates}
use Rattle.speeds.proofs.preferred.lay_out.Goals as goal

pub returns : goal.returns
unfolding rates
returns c = refl
