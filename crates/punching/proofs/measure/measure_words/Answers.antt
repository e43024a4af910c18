-- `punching::measure::measure_words`: at item k and word i the rows so far are counted, before those to come.
use Prim.Native.Nat.{ℕ, ◌+◌, ◌*◌, ◌≤◌, ◌<◌}
use mathlib.Core.Path.{◌≡◌, refl, sym, ap, ◌∙◌}
use native.Mathlib.Omega.{arith}
use mir.Syntax.{w64}
use mir.Val.{Fits}
use lib.ListN.{length, get_or}
use Rattle.std.proofs.lemmas.Result.{err_from_is_err_and}
use Rattle.rows.specs.Answer.{taken}
use Rattle.shorthand.specs.declared.Item.{Item}
use Rattle.shorthand.specs.declared.Kind.{Kind}
use Rattle.shorthand.specs.Layout as layout
use Rattle.shorthand.specs.Layout.{items_of, way_of}
use Rattle.shorthand.specs.Facts.{Widths}
use Rattle.words.specs.declared.Value.{Value}
use Rattle.reading.specs.Record.{blank}
use Rattle.reading.specs.Relation.{tab, address}
use Rattle.punching.specs.Line.{data_measured}
use Rattle.punching.specs.Rows.{data_rows}
use Rattle.punching.specs.Fits.{value_fits}
use Rattle.punching.proofs.Lines.{tab-dots, address-by}
use Rattle.punching.proofs.Measures.{judged-fit, judged-away, data-length, tab-most, address-most, data-most}
use Rattle.punching.proofs.WordSteps.{behind, measured_left, measured-over, measured-alone, turn-out, turn_in, turn-width, measured-turn, measured-away, widths_at, few_at}
use Rattle.punching.proofs.measure.measure_words.Goals as goal
use Rattle.punching.proofs.measure.measure_words.Goals.{Joined-format, Joined-format-2, Start, then-format, else-format, then-format-2, else-format-2, then-word-item+in_ok-rows, else-word-item, else-loop-item-test, then-loop-item-test+then-block-i}

-- the sums, over numbers alone, so that nothing of what is known at a place is looked through for them
one_on : {k n : ℕ} → k < n → k + 1 ≤ n
one_on l = omega arith

tab-on : {r t : ℕ} (k : ℕ) → r ≤ 21 * k → t ≤ 1 → r + t ≤ 21 * (k + 1)
tab-on k l m = omega arith

word_on : {r t a d : ℕ} (k : ℕ) → r ≤ 21 * k → t ≤ 1 → d ≤ 19 → a ≤ 1 → r + t + (a + d) ≤ 21 * (k + 1)
word_on k l m n o = omega arith

past_word : {r k t a d : ℕ} → r ≤ 21 * k → k < 22 → t ≤ 1 → d ≤ 19 → a ≤ 1 → Fits w64 (r + t + (a + d))
past_word l e m d a = record { fits = omega arith }

long : (c : Start) → length c.args.block.words ≡ 22
long c = c.well_formed.1.0.1.1.1.1.1.1.1.0.1.0.1

-- the rows of a tab, and of an address
tab-is : (c : Joined-format) → c.if-format.tab ≡ length (tab (way_of c.args.usable.format))
tab-is c = elim c.if-format.branch [ then-format w ↦ rw (w.if-format.true, tab-dots c.args.usable.format.addresses) w.tab-is | else-format w ↦ rw w.if-format.false w.tab-is ]

tab-one : (c : Joined-format) → c.if-format.tab ≤ 1
tab-one c = rw (tab-is c) (tab-most (way_of c.args.usable.format))

address_is : (c : Joined-format-2) (it : Item) → c.if-format-2.address ≡ length (address (way_of c.args.usable.format) it)
address_is c it =
    let f = c.args.usable.format in
    rw (address-by f.dots f.addresses it) (elim c.if-format-2.branch [ then-format-2 w ↦ rw w.if-format-2.true w.address-is | else-format-2 w ↦ rw w.if-format-2.false w.address-is ])

address-one : (c : Joined-format-2) → c.if-format-2.address ≤ 1
address-one c = rw (address_is c layout.blank) (address-most (way_of c.args.usable.format) layout.blank)

-- a word that was measured fits, and has as many rows, 19 at most
measured-word : (i : ℕ) (k : Kind) (v : Value) {n : ℕ} → Widths k → taken n ≡ data_measured i k v → (value_fits i k v ≡ taken tt) × (length (data_rows k v) ≡ n) × (n ≤ 19)
measured-word i k v w e = let m = judged-fit (value_fits i k v) _ _ (sym e) in (m.0, m.1, rw (← m.1, data-length _ _ _ m.0) (data-most k w))

pub measure_data-requires : goal.measure_data-requires
measure_data-requires c = widths_at c.args.usable.format c.args.usable.facts c.loop-item.item-index c.loop-item-test.true

pub returns-in_err-rows : goal.returns-in_err-rows
returns-in_err-rows c =
    let l = c.loop-item in
    let a = c.args in
    let it = get_or (items_of a.usable.format) l.item-index layout.blank in
    let v = (get_or a.block.words l.i blank).value in
    let p = err_from_is_err_and c.from_residual.result c.from_residual.ensures.1 in
    let away = judged-away (value_fits (l.i + 1) it.kind v) (length (data_rows it.kind v)) _ _ (sym c.in_err-rows.ensures) in
    rw (p.1, p.2) (sym (l.invariant.2 ∙ measured-away (turn_in a.usable.format a.block (long (goal.at.returns-in_err-rows c).Start) c.requires l.item-index l.i c.if-block-i.false c.loop-item-test.true c.if-word-item.true) l.rows _ _ away))

pub overflow_add-rows-then-word-item : goal.overflow_add-rows-then-word-item
overflow_add-rows-then-word-item c =
    let l = c.loop-item in
    let a = c.args in
    let word = measured-word (l.i + 1) (get_or (items_of a.usable.format) l.item-index layout.blank).kind (get_or a.block.words l.i blank).value (widths_at a.usable.format c.args.usable.facts _ c.loop-item-test.true) c.in_ok-rows.ensures in
    record { fits = omega (arith, word.2, address-one (goal.at.overflow_add-rows-then-word-item c).Joined-format-2) }

pub overflow_add-rows-then-word-item-2 : goal.overflow_add-rows-then-word-item-2
overflow_add-rows-then-word-item-2 c =
    let l = c.loop-item in
    let a = c.args in
    let here = c.loop-item-test.true in
    let word = measured-word (l.i + 1) (get_or (items_of a.usable.format) l.item-index layout.blank).kind (get_or a.block.words l.i blank).value (widths_at a.usable.format c.args.usable.facts _ here) c.in_ok-rows.ensures in
    past_word l.invariant.1 (few_at a.usable.format c.args.usable.facts _ here) (tab-one (goal.at.overflow_add-rows-then-word-item-2 c).Joined-format) word.2 (address-one (goal.at.overflow_add-rows-then-word-item-2 c).Joined-format-2)

pub loop-item-preserved : goal.loop-item-preserved
loop-item-preserved c =
    let l = c.loop-item in
    let k = l.item-index in
    let f = c.args.usable.format in
    let b = c.args.block in
    let some = c.if-block-i.false in
    let here = c.loop-item-test.true in
    let m = long (goal.at.loop-item-preserved c).Start in
    let tabbed = tab-is (goal.at.loop-item-preserved c).Joined-format in
    let one = tab-one (goal.at.loop-item-preserved c).Joined-format in
    elim c.if-word-item.branch [
      | then-word-item+in_ok-rows w ↦
          let it = get_or (items_of f) k layout.blank in
          let v = (get_or b.words l.i blank).value in
          let word = measured-word (l.i + 1) it.kind v (widths_at f c.args.usable.facts k here) w.in_ok-rows.ensures in
          rw (w.i-is, w.rows-is) (
            one_on some,
            word_on k l.invariant.1 one word.2 (address-one (goal.at.loop-item-preserved c).Joined-format-2),
            rw (tabbed, address_is (goal.at.loop-item-preserved c).Joined-format-2 it, ← word.1) (
                l.invariant.2
                ∙ measured-turn (turn_in f b m c.requires k l.i some here w.if-word-item.true) l.rows word.0
                ∙ ap (λ n. behind n (measured_left f b (k + 1) (l.i + 1))) (turn-width l.rows (tab (way_of f)) (address (way_of f) it) (data_rows it.kind v))
                ),
          )
      | else-word-item w ↦
          rw (w.i-is, w.rows-is) (
            l.invariant.0,
            tab-on k l.invariant.1 one,
            rw tabbed (l.invariant.2 ∙ measured-turn (turn-out f b m c.requires k l.i some here w.if-word-item.false) l.rows refl),
          )
    ]

pub returns-then-i-block : goal.returns-then-i-block
returns-then-i-block c =
    let l = c.loop-item in
    let a = c.args in
    let m = long (goal.at.returns-then-i-block c).Start in
    rw c.at.ensures (elim c.loop-item-test.branch [
      | else-loop-item-test w ↦ sym (l.invariant.2 ∙ measured-alone a.usable.format a.block m c.requires l.item-index l.i l.rows c.if-i-block.true w.loop-item-test.false)
      | then-loop-item-test+then-block-i w ↦ absurd (omega (arith, w.if-block-i.true, c.if-i-block.true))
    ])

pub returns : goal.returns
returns c =
    let l = c.loop-item in
    sym (l.invariant.2 ∙ measured-over c.args.usable.format c.args.block (long (goal.at.returns c).Start) c.requires l.item-index l.i l.rows c.if-i-block.false)
