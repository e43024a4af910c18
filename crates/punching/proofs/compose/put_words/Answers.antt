-- `punching::compose::put_words`: at item k and word i the rows so far stand in the line, before those to come.
use Prim.Native.Nat.{ℕ, ◌+◌, ◌≤◌, ◌<◌}
use mathlib.Core.Path.{◌≡◌, sym, ◌∙◌}
use native.Mathlib.Omega.{arith}
use lib.ListN.{length, get_or}
use Rattle.shorthand.specs.Layout as layout
use Rattle.shorthand.specs.Layout.{items_of, way_of}
use Rattle.reading.specs.Record.{blank}
use Rattle.reading.specs.Relation.{tab, address}
use Rattle.punching.specs.Rows.{data_rows}
use Rattle.punching.proofs.Lines.{put-more, coming-turn, coming-over, coming-room}
use Rattle.punching.proofs.Measures.{both-fit}
use Rattle.punching.proofs.WordSteps.{letter_at, widths_at, words-over, items-over, turn-out, turn_in, turn-room}
use Rattle.punching.proofs.compose.put_words.Goals as goal
use Rattle.punching.proofs.compose.put_words.Goals.{Then-word-item, then-word-item, else-word-item, Start}

-- the sums, over numbers alone, so that nothing of what is known at a place is looked through for them
one_on : {k n : ℕ} → k < n → k + 1 ≤ n
one_on l = omega arith

long : (c : Start) → length c.args.block.words ≡ 22
long c = c.well_formed.1.1.0.1.1.1.1.1.1.1.0.1.0.1

pub put_word-requires : goal.put_word-requires
put_word-requires c =
    let l = c.loop-item in
    let k = l.item-index in
    let f = c.args.usable.format in
    let it = get_or (items_of f) k layout.blank in
    let here = c.loop-item-test.true in
    let t = turn_in f c.args.block (long (goal.at.put_word-requires c).Start) c.requires.0 k l.i c.if-block-i.false here c.if-word-item.true in (
      widths_at f c.args.usable.facts k here,
      letter_at f c.args.usable.facts k here,
      (l.i + 1, (both-fit _ _ (sym t.fits ∙ l.invariant.2)).0),
      turn-room l.line.at (tab (way_of f)) (address (way_of f) it) (data_rows it.kind (get_or c.args.block.words l.i blank).value) _ t.rows (coming-room l.invariant.3 c.requires.2) (c.put_tab.ensures.put f.addresses).end (c.put_tab.ensures.put f.addresses).same,
    )

pub loop-item-preserved : goal.loop-item-preserved
loop-item-preserved c =
    let l = c.loop-item in
    let a = c.args in
    let some = c.if-block-i.false in
    let here = c.loop-item-test.true in
    let m = long (goal.at.loop-item-preserved c).Start in
    let tabbed = c.put_tab.ensures in
    elim c.if-word-item.branch [
      | then-word-item w ↦
          let t = turn_in a.usable.format a.block m c.requires.0 l.item-index l.i some here w.if-word-item.true in
          let word = w.put_word.ensures in
          rw (w.i-is, w.line-is) (
            word.lent ∙ tabbed.lent ∙ l.invariant.0,
            one_on some,
            (both-fit _ _ (sym t.fits ∙ l.invariant.2)).1,
            coming-turn t.rows l.invariant.3 (put-more (tabbed.put a.usable.format.addresses) word.put),
          )
      | else-word-item w ↦
          let t = turn-out a.usable.format a.block m c.requires.0 l.item-index l.i some here w.if-word-item.false in
          rw (w.i-is, w.line-is) (tabbed.lent ∙ l.invariant.0, l.invariant.1, sym t.fits ∙ l.invariant.2, coming-turn t.rows l.invariant.3 (tabbed.put a.usable.format.addresses))
    ]

pub returns-after-loop-item-clause-put : goal.returns-after-loop-item-clause-put
returns-after-loop-item-clause-put c =
    let l = c.loop-item in
    coming-over (items-over c.args.usable.format c.args.block (long (goal.at.returns-after-loop-item-clause-put c).Start) c.requires.0 l.item-index l.i c.loop-item-test.false) l.invariant.3

pub returns-then-block-i-clause-put : goal.returns-then-block-i-clause-put
returns-then-block-i-clause-put c =
    let l = c.loop-item in
    coming-over (words-over c.args.usable.format c.args.block (long (goal.at.returns-then-block-i-clause-put c).Start) c.requires.0 l.item-index l.i c.if-block-i.true).1 l.invariant.3
