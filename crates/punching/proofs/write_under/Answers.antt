-- `punching::write_under`: by what the record was measured to, and by the room in the buffer.
use mathlib.Core.Path.{◌≡◌, ◌∙◌, sym}
use lib.ListN.{length, take}
use lib.Seq.{length-take-le}
use Rattle.std.proofs.lemmas.Result.{err_from_is_err_and}
use Rattle.punching.proofs.Measures.{measured-fit, written-refused, written-short, written-room}
use Rattle.punching.proofs.WholeRecords.{leaves}
use Rattle.punching.proofs.write_under.Goals as goal
use Rattle.punching.proofs.write_under.Goals.{Else-buffer-rows}

room : (c : Else-buffer-rows) → length (take c.in_ok-rows.rows c.args.buffer.now) ≡ c.in_ok-rows.rows
room c = length-take-le _ _ c.if-buffer-rows.false

pub returns-in_err-rows : goal.returns-in_err-rows
returns-in_err-rows c =
    let a = c.args in
    let p = err_from_is_err_and c.from_residual.result c.from_residual.ensures.1 in
    let all = leaves a.buffer.now _ _ _ (written-refused a.usable.format a.block a.buffer.now _ _ (sym c.in_err-rows.ensures)) in
    rw (p.1, p.2) (record { rows = all.0; buffer = all.1 })

pub returns-then-buffer-rows : goal.returns-then-buffer-rows
returns-then-buffer-rows c =
    let a = c.args in
    let all = leaves a.buffer.now _ _ _ (written-short a.usable.format a.block a.buffer.now _ (sym c.in_ok-rows.ensures) c.if-buffer-rows.true) in
    rw c.at.ensures (record { rows = all.0; buffer = all.1 })

pub compose_block-requires : goal.compose_block-requires
compose_block-requires c =
    let fit = measured-fit c.args.usable.format c.args.block _ (sym c.in_ok-rows.ensures) in
    (fit.0, fit.1 ∙ sym (room (goal.at.compose_block-requires c).Else-buffer-rows))

pub returns : goal.returns
returns c =
    let a = c.args in
    let e = sym c.in_ok-rows.ensures in
    let long = (measured-fit a.usable.format a.block _ e).1 in
    let rows = written-room a.usable.format a.block a.buffer.now _ e c.if-buffer-rows.false in
    record { rows = rw (rows, long); buffer = rw (rows, long, c.compose_block.ensures) }
