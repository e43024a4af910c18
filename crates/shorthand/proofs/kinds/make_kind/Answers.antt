-- `shorthand::kinds::make_kind` meets its contract: each arm is one class of letters.
use Prim.Native.Nat.{ℕ}
use mathlib.Core.Path.{◌≡◌}
use mathlib.Core.Logic.{inl, inr}
use mathlib.Core.List.{List}
use native.Mathlib.Omega.{arith}
use Rattle.shorthand.specs.declared.Kind.TheVariants.{Speed}
use Rattle.shorthand.specs.Stand.{as_dimension, kind_made}
use Rattle.shorthand.specs.Places.{digits_in, making_by, pieces_in}
use Rattle.shorthand.proofs.LetterBytes.{feed-is, feed-not}
use Rattle.shorthand.proofs.Makes.{unless, kind-feed, kind-dimension, turn-none}
use Rattle.shorthand.proofs.kinds.make_kind.Goals as goal
use Rattle.shorthand.proofs.kinds.make_kind.Goals.{After-single_digit-in-68, in_default-via-then-letter-lt68, in_default-via-else-letter-lt68+else-letter-lt71}

-- D, E or F: what the feed says, unless it is wrong
fed : (c : After-single_digit-in-68) (t : List ℕ)
    → let a = c.args in
    let p = pieces_in t a.draft in
    kind_made a.edition a.order p ≡ unless (making_by Speed c.single_digit-in-68.result) (as_dimension a.edition a.order p)
fed c t =
    let a = c.args in
    rw (
      kind-feed a.edition a.order (pieces_in t a.draft) (feed-is {c = a.draft.letter} (omega arith) (omega arith)) (turn-none a.edition {c = a.draft.letter} (digits_in a.draft.digits) (λ q. omega arith) (λ q. omega arith) (λ q. omega arith)),
      ← c.speed_least-least.ensures,
      c.single_digit-in-68.ensures Speed,
      c.due_as_feed.ensures,
    )

pub returns-in-Ok : goal.returns-in-Ok
returns-in-Ok c = λ t. rw (fed (goal.at.returns-in-Ok c).After-single_digit-in-68 t, c.in-Ok.is)

pub returns-in-Err-Short : goal.returns-in-Err-Short
returns-in-Err-Short c = λ t. rw (fed (goal.at.returns-in-Err-Short c).After-single_digit-in-68 t, c.in-Err-Short.is, c.in-Err-Short.field-0-is)

pub returns-in-Err-Unfit : goal.returns-in-Err-Unfit
returns-in-Err-Unfit c = λ t. rw (fed (goal.at.returns-in-Err-Unfit c).After-single_digit-in-68 t, c.in-Err-Unfit.is, c.in-Err-Unfit.field-0-is) (c.make_dimension.ensures t)

pub returns-in_default : goal.returns-in_default
returns-in_default c = λ t.
    let a = c.args in
    rw (kind-dimension a.edition a.order (pieces_in t a.draft)
    (feed-not {c = a.draft.letter} (elim c.in_default.branch [ in_default-via-then-letter-lt68 w ↦ inl (omega arith) | in_default-via-else-letter-lt68+else-letter-lt71 w ↦ inr (omega arith) ]))
    (turn-none a.edition {c = a.draft.letter} (digits_in a.draft.digits) (λ q. omega arith) (λ q. omega arith) (λ q. omega arith)))
    (c.make_dimension-in_default.ensures t)
