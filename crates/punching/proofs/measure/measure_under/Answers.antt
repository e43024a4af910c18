-- `punching::measure::measure_under`: the tests in document 01's order, and then the sum of the start, the words and the LF.
use Prim.Native.Nat.{◌+◌, ◌≤◌}
use mathlib.Core.Path.{◌≡◌, sym}
use native.Mathlib.Omega.{arith}
use lib.ListN.{length}
use Rattle.std.proofs.lemmas.Result.{err_from_is_err_and}
use Rattle.rows.specs.Answer.{taken, ◌>>=◌}
use Rattle.shorthand.specs.Layout.{items_of, way_of}
use Rattle.reading.specs.Record.{start_of, words_of}
use Rattle.reading.specs.Relation.{start_rows}
use Rattle.punching.specs.Fits.{words_fit}
use Rattle.punching.specs.Answers.{measured_for}
use Rattle.punching.specs.Line.{words_measured}
use Rattle.punching.proofs.Measures.{judged-fit, few-rows, start-most}
use Rattle.punching.proofs.WholeRecords.{too_many, sequence-refused, by-words}
use Rattle.punching.proofs.measure.measure_under.Goals as goal
use Rattle.punching.proofs.measure.measure_under.Goals.{After-measure_start, In_ok-judge_sequence}

-- past the sequence's test the words decide
decided : (c : In_ok-judge_sequence) →
    let a = c.args in
    measured_for a.usable.format a.block ≡ words_measured 1 (way_of a.usable.format) (items_of a.usable.format) (words_of a.block) >>= λ n. taken (length (start_rows a.usable.format.sequence (start_of a.block)) + n + 1)
decided c = by-words c.args.usable.format c.args.block c.if-block-gt22.false (sym c.in_ok-judge_sequence.ensures)

most : (c : After-measure_start) → c.measure_start.result + c.in_ok-words.words ≤ 473
most c =
    let a = c.args in
    let w = judged-fit (words_fit 1 (items_of a.usable.format) (words_of a.block)) _ _ (sym c.in_ok-words.ensures) in
    omega (arith, c.measure_start.ensures, start-most c.args.usable.facts a.block, w.1, few-rows c.args.usable.facts a.block w.0)

pub returns-then-block-gt22 : goal.returns-then-block-gt22
returns-then-block-gt22 c = rw (c.at.ensures, too_many c.args.usable.format c.args.block c.if-block-gt22.true)

pub returns-in_err-judge_sequence : goal.returns-in_err-judge_sequence
returns-in_err-judge_sequence c =
    let a = c.args in
    let p = err_from_is_err_and c.from_residual.result c.from_residual.ensures.1 in
    rw (p.1, p.2) (sym (sequence-refused a.usable.format a.block c.if-block-gt22.false _ _ (sym c.in_err-judge_sequence.ensures)))

pub returns-in_err-words : goal.returns-in_err-words
returns-in_err-words c =
    let p = err_from_is_err_and c.from_residual-in_err-words.result c.from_residual-in_err-words.ensures.1 in
    rw (p.1, p.2) (sym (rw (sym c.in_err-words.ensures) at (decided (goal.at.returns-in_err-words c).In_ok-judge_sequence)))

pub overflow_add-result : goal.overflow_add-result
overflow_add-result c = omega (arith, most (goal.at.overflow_add-result c).After-measure_start)

pub overflow_add-result-2 : goal.overflow_add-result-2
overflow_add-result-2 c = omega (arith, most (goal.at.overflow_add-result-2 c).After-measure_start)

pub returns : goal.returns
returns c = sym (rw (sym c.in_ok-words.ensures, ← c.measure_start.ensures) at (decided (goal.at.returns c).In_ok-judge_sequence))
