-- `speeds::ten`: the table holds the powers of ten, one after the other.
use native.Mathlib.Omega.{arith}
use Rattle.speeds.proofs.Tens.{power_at}
use Rattle.speeds.proofs.ten.Goals as goal

pub returns : goal.returns
returns c = power_at c.args.n (omega arith)
