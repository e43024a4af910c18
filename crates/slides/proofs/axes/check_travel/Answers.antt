-- `slides::axes::check_travel`: a loop over the axes to the first that can't be followed.
use mathlib.Core.Path.{sym, ap, ◌∙◌, ◌≡◌}
use borrow.Author.Rules.{rules}
use mir.Syntax.{w64}
use mir.Val.{SFits}
use Rattle.rows.specs.Answer.{refusal, refused}
use Rattle.slides.specs.Axes.{of, unsound}
use Rattle.slides.proofs.ReadBack.{unsound-held}
use Rattle.slides.proofs.AxisLetters.{tread-refuses, tread-goes-on, tread-ends}
use Rattle.slides.proofs.axes.check_travel.Goals as goal
use Rattle.slides.proofs.axes.check_travel.Goals.{After-is_unsound}

-- what is_unsound answers is asked of the axis
asked : (c : After-is_unsound) → c.is_unsound.result ≡ unsound (of c.args.travel.low c.loop-a.a) (of c.args.travel.high c.loop-a.a) (of c.args.places c.loop-a.a)
asked c =
    let low : SFits w64 (of c.args.travel.low c.loop-a.a) = search rules in
    let high : SFits w64 (of c.args.travel.high c.loop-a.a) = search rules in
    let place : SFits w64 (of c.args.places c.loop-a.a) = search rules in
    c.is_unsound.ensures ∙ unsound-held (of c.args.travel.low c.loop-a.a) (of c.args.travel.high c.loop-a.a) (of c.args.places c.loop-a.a) low.sfits high.sfits place.sfits

pub returns-then-is_unsound : goal.returns-then-is_unsound
returns-then-is_unsound c =
    ap refusal c.at.ensures ∙ ap (refused 26) c.from.ensures
    ∙ tread-refuses _ _ c.loop-a.invariant c.loop-a-test.true (sym (asked (goal.at.returns-then-is_unsound c).After-is_unsound) ∙ c.if-is_unsound.true)

pub loop-a-preserved : goal.loop-a-preserved
loop-a-preserved c = tread-goes-on _ _ c.loop-a.invariant c.loop-a-test.true (sym (asked (goal.at.loop-a-preserved c).After-is_unsound) ∙ c.if-is_unsound.false)

pub returns : goal.returns
returns c = tread-ends _ _ c.loop-a.invariant c.loop-a-test.false
