-- `punching::compose::put_speed`: one that fits has a code that means it exactly, and that is put.
use mathlib.Core.Path.{◌≡◌, ◌∙◌, sym, ap}
use native.Mathlib.Omega.{arith}
use Rattle.std.specs.Prelude.{Some}
use Rattle.rows.specs.Answer.{told}
use Rattle.speeds.specs.Coding.{exact_for}
use Rattle.speeds.proofs.Bounds.{exact-code-under}
use Rattle.reading.proofs.DigitRows.{digits-length}
use Rattle.punching.proofs.DataSteps.{speed-coded, speed-codable}
use Rattle.punching.proofs.compose.put_speed.Goals as goal
use Rattle.punching.proofs.compose.put_speed.Goals.{In-Ok}

coded : (c : In-Ok) → exact_for c.args.k c.in-Speed.speed ≡ Some c.in-Ok.code
coded c =
    speed-coded c.requires.2.0 c.args.k c.in-Speed.speed (rw c.in-Speed.is at c.requires.2.1) (sym (ap told c.in-Ok.is) ∙ c.code_of.ensures)

pub returns-in_default-code_of : goal.returns-in_default-code_of
returns-in_default-code_of c =
    absurd (speed-codable c.requires.2.0 c.args.k c.in-Speed.speed (rw c.in-Speed.is at c.requires.2.1) (sym (ap told c.in_default-code_of.is) ∙ c.code_of.ensures))

pub put_digits-requires : goal.put_digits-requires
put_digits-requires c =
    let k = c.args.k in
    let e = coded (goal.at.put_digits-requires c).In-Ok in
    (omega (arith, digits-length k c.in-Ok.code, rw (c.in-Speed.is, e) at c.requires.3), exact-code-under k c.in-Speed.speed c.in-Ok.code e)

pub returns : goal.returns
returns c = rw (c.in-Speed.is, coded (goal.at.returns c).In-Ok) c.put_digits.ensures
