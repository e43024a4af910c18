-- `slides::moves::move_words`: a loop over the words of a block.
use mathlib.Core.Path.{◌≡◌, ◌∙◌, sym, ap}
use mir.Syntax.{w64}
use mir.Val.{SFits}
use borrow.Author.Rules.{rules}
use Rattle.rows.specs.Answer.{refusal}
use Rattle.reading.specs.Record.{words_of}
use Rattle.slides.specs.Axes.{of}
use Rattle.slides.specs.Moves.{placed}
use Rattle.slides.specs.Front.{put_within}
use Rattle.slides.proofs.ReadBack.{seen}
use Rattle.slides.proofs.ReadBack.{put-held}
use Rattle.slides.proofs.WordTrials.{Moving, try-end, try-still, moving}
use Rattle.slides.proofs.moves.move_words.Goals as goal
use Rattle.slides.proofs.moves.move_words.Goals.{In-Some, After-put_axis}

-- the word moves an axis
here : (c : In-Some) → Moving c.args.rule c.args.increments (words_of c.args.block) c.args.places c.loop-word.word-index c.loop-word.at c.in-Some.motion
here c = moving _ _ _ _ c.loop-word.invariant c.requires.full.near c.loop-word-test.true _ _ c.in-Some.ensures

-- what was put, of what was read
shown : (c : After-put_axis) → Moving c.args.rule c.args.increments (words_of c.args.block) c.args.places c.loop-word.word-index c.loop-word.at c.in-Some.motion
    → let m = c.in-Some.motion in c.put_axis.result ≡ put_within (of c.args.rule.travel.low m.axis) (of c.args.rule.travel.high m.axis) (placed c.args.rule c.args.increments c.loop-word.at m.axis m.value)
shown c h =
    let m = c.in-Some.motion in
    let low : SFits w64 (of c.args.rule.travel.low m.axis) = search (rules, h.axis) in
    let high : SFits w64 (of c.args.rule.travel.high m.axis) = search (rules, h.axis) in
    let z : SFits w64 (of c.loop-word.at m.axis) = search (rules, h.axis) in
    let x : SFits w64 m.value = search rules in
    put-held (of c.args.rule.travel.low m.axis) (of c.args.rule.travel.high m.axis) (of c.loop-word.at m.axis) m.value _ low.sfits high.sfits z.sfits x.sfits c.is_adding-adds.ensures c.put_axis.ensures

pub loop-word-preserved-in_default : goal.loop-word-preserved-in_default
loop-word-preserved-in_default c = try-still _ _ _ _ c.loop-word.invariant c.requires.full.near c.loop-word-test.true _ (sym c.in_default.is ∙ c.motion_of.ensures)

pub put_axis-requires : goal.put_axis-requires
put_axis-requires c =
    let h = here (goal.at.put_axis-requires c).In-Some in
    let z : SFits w64 (of c.loop-word.at c.in-Some.motion.axis) = search (rules, h.axis) in
    let x : SFits w64 c.in-Some.motion.value = search rules in
    (rw (seen z) h.place, rw (seen x) h.value)

pub returns-in_default-put_axis : goal.returns-in_default-put_axis
returns-in_default-put_axis c =
    let p = goal.at.returns-in_default-put_axis c in
    let h = here p.In-Some in
    ap refusal c.at.ensures ∙ h.goes (sym c.in_default-put_axis.is ∙ shown p.After-put_axis h) c.args.k

pub loop-word-preserved : goal.loop-word-preserved
loop-word-preserved c =
    let p = goal.at.loop-word-preserved c in
    let h = here p.In-Some in
    let to : SFits w64 c.in-Some-put_axis.to = search rules in
    rw (seen to) (h.stays _ (sym c.in-Some-put_axis.is ∙ shown p.After-put_axis h))

pub returns : goal.returns
returns c = try-end _ _ _ _ c.loop-word.invariant c.loop-word-test.false c.args.k
