-- `punching::compose::put_words`: at item k and word i the rows so far stand in the line, before those to come.
use Prim.Native.Nat.{◌≤◌}
use mathlib.Core.Path.{◌≡◌}
use Rattle.rows.specs.Answer.{taken}
use Rattle.shorthand.specs.Layout.{way_of, items_of}
use Rattle.reading.specs.Record.{words_of}
use Rattle.punching.specs.Rows.{word_rows}
use Rattle.punching.proofs.Lines.{Coming}
use Rattle.punching.proofs.WordSteps.{fit_left, rows_left}
use Rattle.punching.proofs.compose.put_words.Given as goal

abbrev pub invariant-loop-item : goal.invariant-loop-item
invariant-loop-item l =
    let f = l.fn.usable.format in
    let k = l.item-index in
    let w = l.initial.line in
    (l.line.rows.ghost_name ≡ w.rows.ghost_name) × (l.i ≤ l.block.count) × (fit_left f l.block k l.i ≡ taken tt)
    × Coming w.rows.now w.at (word_rows (way_of f) (items_of f) (words_of l.block)) l.line.rows.now l.line.at (rows_left f l.block k l.i)
