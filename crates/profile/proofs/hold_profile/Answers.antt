-- `profile::hold_profile` meets its contract: each way is one end of `profiled`.
use mathlib.Core.Path.{◌≡◌, sym, ◌∙◌}
use mathlib.Core.Bool.{false}
use lib.Dec.{eqb}
use lib.ListN.{length}
use Rattle.std.proofs.lemmas.Result.{err_from_is_err_and}
use Rattle.shorthand.proofs.Fairness.{addressed-facts}
use Rattle.profile.proofs.Reading.{read_none, read-refused, read-held}
use Rattle.profile.proofs.hold_profile.Goals as goal
use Rattle.profile.proofs.hold_profile.Goals.{Else-is_empty}

some : (c : Else-is_empty) → eqb (length c.args.profile.now) 0 ≡ false
some c = sym c.is_empty.ensures ∙ c.if-is_empty.false

pub returns-then-is_empty : goal.returns-then-is_empty
returns-then-is_empty c = read_none _ _ _ (sym c.is_empty.ensures ∙ c.if-is_empty.true)

pub returns-in_err-bytes : goal.returns-in_err-bytes
returns-in_err-bytes c =
    let p = err_from_is_err_and c.from_residual.result c.from_residual.ensures.1 in
    rw (p.1, p.2) (read-refused _ _ _ (some (goal.at.returns-in_err-bytes c).Else-is_empty) _ c.in_err-bytes.ensures)

pub returns-then-not-agree : goal.returns-then-not-agree
returns-then-not-agree c =
    rw (c.at.ensures, read-held _ c.args.usable.format _ (some (goal.at.returns-then-not-agree c).Else-is_empty) _ c.in_ok-bytes.ensures _ c.said_in-general.ensures, ← c.agree.ensures, c.if-not-agree.true)

pub returns : goal.returns
returns c =
    rw (read-held _ c.args.usable.format _ (some (goal.at.returns c).Else-is_empty) _ c.in_ok-bytes.ensures _ c.said_in-general.ensures, ← c.agree.ensures, c.if-not-agree.false)

pub invariant_of-result : goal.invariant_of-result
invariant_of-result c = record { facts = addressed-facts _ c.args.usable.facts }
