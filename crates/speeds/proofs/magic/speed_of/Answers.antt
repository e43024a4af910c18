-- `speeds::magic::speed_of`: each test is one of the definition's, in its order, and the digits are those of the code.
use Prim.Native.Nat.{ℕ, ◌+◌, ◌-◌, ◌*◌, ◌/◌, ◌%◌, ◌^◌, ◌≤◌, ◌<◌}
use mathlib.Core.Path.{◌≡◌, sym, subst}
use native.Mathlib.Omega.{arith}
use lib.ListN.{get_or}
use Rattle.rows.specs.Answer.{taken}
use Rattle.speeds.specs.declared.Speed.TheVariants.{Rate}
use Rattle.speeds.specs.Meaning.{speed_for}
use Rattle.speeds.proofs.Tens.{powers, power_at}
use Rattle.speeds.proofs.Answers.{speed-more-digits, speed-zeros}
use Rattle.speeds.proofs.Steps.{first-digit, second_zero, speed-is}
use Rattle.speeds.proofs.magic.speed_of.Goals as goal
use Rattle.speeds.proofs.magic.speed_of.Goals.{Else-limit-code, Else-others-least, Start}

-- the powers asked for stand in the table: of the numbers alone, so that nothing of what is known at a place is looked through for them
in_table : {k : ℕ} (j : ℕ) → k ≤ 5 → k - j < 19
in_table j l = omega arith

under-19 : {k : ℕ} → k ≤ 5 → k < 19
under-19 l = omega arith

units-at : {k d : ℕ} → 3 ≤ k → d < 10 → d + 5 - k < 19
units-at three l = omega arith

not-zero : {n : ℕ} → (n ≡ 0 → ⊥) → 0 < n
not-zero l = omega arith

module _ (c : Start) where
  abbrev k : ℕ
  k = c.args.k

  abbrev code : ℕ
  code = c.args.code

  three : 3 ≤ k
  three = c.requires.0

  five : k ≤ 5
  five = c.requires.1

  limit : get_or powers k 0 ≡ 10 ^ k
  limit = power_at k (under-19 five)

  unit : get_or powers (k - 1) 0 ≡ 10 ^ (k - 1)
  unit = power_at (k - 1) (in_table 1 five)

  least : get_or powers (k - 2) 0 ≡ 10 ^ (k - 2)
  least = power_at (k - 2) (in_table 2 five)

short : (c : Else-limit-code) → code c.before.before < 10 ^ k c.before.before
short c = subst (λ x. code c.before.before < x) (limit c.before.before) c.if-limit-code.false

first : (c : Else-others-least) →
    let s = c.before.before.before in
    code s / get_or powers (k s - 1) 0 < 10
first c =
    let s = c.before.before.before in
    first-digit (k s) (code s) (three s) (five s) (short c.before) (unit s)

meant : (c : Else-others-least) →
    let s = c.before.before.before in
    let u = get_or powers (k s - 1) 0 in
    speed_for (k s) (code s) ≡ taken (Rate (code s % u * get_or powers (code s / u + 5 - k s) 0))
meant c =
    let s = c.before.before.before in
    speed-is (k s) (code s) (three s) (five s) (short c.before) (unit s) (subst (λ x. x ≤ code s % get_or powers (k s - 1) 0) (least s) c.if-others-least.false)
    (power_at _ (units-at (three s) (first c)))

pub returns-then-code-eq0 : goal.returns-then-code-eq0
returns-then-code-eq0 c = rw c.if-code-eq0.true (sym (speed-zeros _ (three (goal.at.returns-then-code-eq0 c).Start) (five (goal.at.returns-then-code-eq0 c).Start)))

pub returns-then-limit-code : goal.returns-then-limit-code
returns-then-limit-code c = sym (speed-more-digits _ _ (subst (λ x. x ≤ code (goal.at.returns-then-limit-code c).Start) (limit (goal.at.returns-then-limit-code c).Start) c.if-limit-code.true))

pub returns-then-others-least : goal.returns-then-others-least
returns-then-others-least c =
    sym (second_zero _ _ (three (goal.at.returns-then-others-least c).Start) (five (goal.at.returns-then-others-least c).Start) (short (goal.at.returns-then-others-least c).Else-limit-code) (unit (goal.at.returns-then-others-least c).Start) (subst (λ x. code (goal.at.returns-then-others-least c).Start % get_or powers (k (goal.at.returns-then-others-least c).Start - 1) 0 < x) (least (goal.at.returns-then-others-least c).Start) c.if-others-least.true) (not-zero c.if-code-eq0.false))

pub returns-else-others-least : goal.returns-else-others-least
returns-else-others-least c = sym (meant (goal.at.returns-else-others-least c).Else-others-least)
