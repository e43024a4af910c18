-- `punching::measure::measure_plain`: by the kind and the size of the value.
use Rattle.punching.proofs.DataSteps.{data-measured, plain_fits}
use Rattle.shorthand.specs.declared.Kind.TheVariants.{Plain}
use Rattle.words.specs.declared.Value.TheVariants.{Number}
use Rattle.punching.proofs.measure.measure_plain.Goals as goal

pub returns : goal.returns
returns c =
    let a = c.args in
    rw (c.in-Number.is, data-measured a.word (Plain a.n) (Number c.in-Number.v) (plain_fits _ _ _ (rw c.ten.ensures at c.if-ten-v.false)))
