-- `speeds::coding::code_of`: two digits are a preferred number, three to five magic three, any other number of them is 21.
use mathlib.Core.Path.{sym}
use native.Mathlib.Omega.{arith}
use Rattle.speeds.proofs.Answers.{code-length-short, code-length-long, code-magic}
use Rattle.speeds.proofs.coding.code_of.Goals as goal

pub returns-in-Stop : goal.returns-in-Stop
returns-in-Stop c = rw c.in-Stop.is (sym (code-magic _ _ (omega arith) (omega arith)))

pub returns-in-Rapid : goal.returns-in-Rapid
returns-in-Rapid c = rw c.in-Rapid.is (sym (code-magic _ _ (omega arith) (omega arith)))

pub returns-in_default : goal.returns-in_default
returns-in_default c = sym (code-length-short _ _ (omega arith))

pub returns-in_default-2 : goal.returns-in_default-2
returns-in_default-2 c = sym (code-length-long _ _ (omega arith))
