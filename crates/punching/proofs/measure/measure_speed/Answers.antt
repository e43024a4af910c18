-- `punching::measure::measure_speed`: by the kind of the value and its exact code.
use mathlib.Core.Path.{◌∙◌, sym}
use Rattle.shorthand.specs.declared.Kind.{Kind}
use Rattle.words.specs.declared.Value.{Value}
use Rattle.punching.proofs.DataSteps.{data-measured, speed-fits}
use Rattle.punching.proofs.measure.measure_speed.Goals as goal

pub returns : goal.returns
returns c =
    let a = c.args in
    rw (c.in-Speed.is, data-measured a.word (Kind.Speed a.k) (Value.Speed c.in-Speed.speed) (speed-fits _ _ _ _ (sym c.in-Some.is ∙ c.exact_code.ensures)))
