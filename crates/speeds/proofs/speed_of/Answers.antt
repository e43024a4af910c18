-- `speeds::speed_of`: two digits are a preferred number, three to five magic three, any other number of them is 21.
use mathlib.Core.Path.{sym}
use native.Mathlib.Omega.{arith}
use Rattle.speeds.proofs.Answers.{speed-length-short, speed-length-long}
use Rattle.speeds.proofs.speed_of.Goals as goal

pub returns-in_default : goal.returns-in_default
returns-in_default c = sym (speed-length-short _ _ (omega arith))

pub returns-in_default-2 : goal.returns-in_default-2
returns-in_default-2 c = sym (speed-length-long _ _ (omega arith))
