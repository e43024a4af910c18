-- `punching::measure::measure_words`: at item k and word i the rows so far are counted, before those to come.
use Prim.Native.Nat.{◌*◌, ◌≤◌}
use mathlib.Core.Path.{◌≡◌}
use Rattle.shorthand.specs.Layout.{items_of, way_of}
use Rattle.reading.specs.Record.{words_of}
use Rattle.punching.specs.Line.{words_measured}
use Rattle.punching.proofs.WordSteps.{behind, measured_left}
use Rattle.punching.proofs.measure.measure_words.Given as goal

abbrev pub invariant-loop-item : goal.invariant-loop-item
invariant-loop-item l =
    let f = l.fn.usable.format in
    let k = l.item-index in
    (l.i ≤ l.block.count) × (l.rows ≤ 21 * k) × (words_measured 1 (way_of f) (items_of f) (words_of l.block) ≡ behind l.rows (measured_left f l.block k l.i))
