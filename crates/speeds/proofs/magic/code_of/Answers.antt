-- `speeds::magic::code_of`: each test is one of the definition's, in its order, and the first digit is found of the rounded rate.
use Prim.Native.Nat.{◌+◌, ◌-◌, ◌*◌, ◌/◌, ◌≤◌}
use mathlib.Core.Path.{◌≡◌, sym}
use native.Mathlib.Omega.{arith}
use Rattle.rows.specs.Answer.{taken}
use Rattle.speeds.specs.declared.Speed.TheVariants.{Rate}
use Rattle.speeds.specs.Coding.{code_for}
use Rattle.speeds.proofs.Tens.{ten-positive, ten-grows, digit-tens}
use Rattle.speeds.proofs.Past.{past-digit}
use Rattle.speeds.proofs.Answers.{code-zeros, code-fast, code-too-slow, code-too-fast}
use Rattle.speeds.proofs.Bounds.{code-under}
use Rattle.speeds.proofs.Steps.{code_is}
use Rattle.speeds.proofs.magic.code_of.Goals as goal
use Rattle.speeds.proofs.magic.code_of.Goals.{After-ten, After-ten-2}

-- the first digit is a digit
digit : (c : After-ten) → c.count_past-first.result ≤ 9
digit c = rw c.count_past-first.ensures (past-digit _ (omega arith))

coded : (c : After-ten-2) →
    let a = c.args in
    let first = c.count_past-first.result in
    let rounded = c.round_to-rounded.result in
    code_for a.k (Rate a.rate) ≡ taken (first * c.ten.result + rounded / c.ten-2.result)
coded c =
    code_is _ _ (omega arith) (omega arith) (omega arith) c.round_to-rounded.ensures (omega arith) (omega arith)
    c.count_past-first.ensures c.ten.ensures c.ten-2.ensures

pub returns-then-rate-eq0 : goal.returns-then-rate-eq0
returns-then-rate-eq0 c = rw c.if-rate-eq0.true (sym (code-zeros _ (omega arith) (omega arith)))

pub returns-then-rate-gt-MOST : goal.returns-then-rate-gt-MOST
returns-then-rate-gt-MOST c = sym (code-fast _ _ (omega arith) (omega arith) (omega arith) (omega arith))

pub returns-in_default : goal.returns-in_default
returns-in_default c = sym (code-too-slow _ _ (omega arith) (omega arith) (omega arith) (omega arith))

pub returns-in_default-2 : goal.returns-in_default-2
returns-in_default-2 c = sym (code-too-fast _ _ (omega arith) (omega arith) (omega arith) (omega arith))

pub overflow_mul-high : goal.overflow_mul-high
overflow_mul-high c = rw c.ten.ensures (omega (arith, digit-tens {n = c.args.k - 1} (digit (goal.at.overflow_mul-high c).After-ten) (omega arith)))

pub overflow_add-first : goal.overflow_add-first
overflow_add-first c = omega (arith, digit (goal.at.overflow_add-first c).After-ten)

pub ten-requires-2 : goal.ten-requires-2
ten-requires-2 c = omega (arith, digit (goal.at.ten-requires-2 c).After-ten)

pub nonzero_div-low : goal.nonzero_div-low
nonzero_div-low c = rw c.ten-2.ensures (ten-positive _)

pub overflow_add-code : goal.overflow_add-code
overflow_add-code c = omega (arith, code-under _ _ _ (omega arith) (coded (goal.at.overflow_add-code c).After-ten-2), ten-grows {i = c.args.k} {j = 5} (omega arith))

pub returns : goal.returns
returns c = sym (coded (goal.at.returns c).After-ten-2)
