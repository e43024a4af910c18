-- `slides::step`: by what the shorthand and the profile agree on, which has the facts of a Format.
use mathlib.Core.Path.{sym}
use Rattle.slides.specs.Answers.{slides_stepped}
use Rattle.slides.proofs.step.Goals as goal

pub returns : goal.returns
unfolding slides_stepped
returns c = rw (sym c.in_ok-usable.ensures, sym c.rule_of-rule.ensures) c.step_under.ensures
