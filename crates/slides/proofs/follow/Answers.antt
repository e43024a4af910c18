-- `slides::follow`: by what the shorthand and the profile agree on, which has the facts of a Format.
use mathlib.Core.Path.{sym}
use Rattle.slides.specs.Answers.{slides_after}
use Rattle.slides.proofs.follow.Goals as goal

pub returns : goal.returns
unfolding slides_after
returns c = rw (sym c.in_ok-usable.ensures, sym c.rule_of-rule.ensures) c.follow_under.ensures
