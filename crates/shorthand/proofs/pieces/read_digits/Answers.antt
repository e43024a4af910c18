-- `shorthand::pieces::read_digits` meets its contract: the loop keeps `Running`, and each way out of it is an end of the run.
use native.Mathlib.Omega.{arith}
use mathlib.Core.Bool.{true}
use mathlib.Core.Path.{◌≡◌, sym, ◌∙◌}
use lib.ListN.{get_or}
use Rattle.shorthand.specs.Spell.{is_digit}
use Rattle.shorthand.proofs.Runs.{run-goes-on, run-stops, run-runs-out}
use Rattle.shorthand.proofs.pieces.read_digits.Goals as goal
use Rattle.shorthand.proofs.pieces.read_digits.Goals.{Else-not-is_ascii_digit}

digit : (c : Else-not-is_ascii_digit) → is_digit (get_or c.args.text.now c.loop-after.after 0) ≡ true
digit c = sym c.is_ascii_digit.ensures.value ∙ c.if-not-is_ascii_digit.false

pub loop-after-preserved : goal.loop-after-preserved
loop-after-preserved c = rw c.add_digit-value.ensures
    (run-goes-on c.loop-after.invariant c.loop-after-test.true (digit (goal.at.loop-after-preserved c).Else-not-is_ascii_digit))

pub returns-then-not-is_ascii_digit : goal.returns-then-not-is_ascii_digit
returns-then-not-is_ascii_digit c =
    let stops = run-stops c.loop-after.invariant c.loop-after-test.true (sym c.is_ascii_digit.ensures.value ∙ c.if-not-is_ascii_digit.true) in
    record { digits = stops.0; after = stops.1 }

pub returns : goal.returns
returns c =
    let runs = c.loop-after.invariant in
    let stops = run-runs-out runs c.loop-after-test.false in
    let end : c.max.result ≡ c.loop-after.after = omega (arith, runs.behind, runs.within) in
    record { digits = stops.0; after = rw end stops.1 }
