-- `punching::compose::put_data`: by the item's kind.
use native.Mathlib.Omega.{arith}
use Rattle.reading.proofs.DigitRows.{digits-length}
use Rattle.punching.proofs.DataSteps.{plain-small}
use Rattle.punching.proofs.compose.put_data.Goals as goal

pub put_digits-requires : goal.put_digits-requires
put_digits-requires c =
    (omega (arith, digits-length c.in-Plain.n c.in-Number.v, rw (c.in-Plain.is, c.in-Number.is) at c.requires.2), plain-small c.requires.1.0 c.in-Plain.n c.in-Number.v (rw (c.in-Plain.is, c.in-Number.is) at c.requires.1.1))
