-- `slides::following::follow_blocks`: a loop over the blocks to block n.
use mathlib.Core.Path.{sym}
use native.Mathlib.Omega.{arith}
use Rattle.std.proofs.lemmas.Result.{err_from_is_err_and}
use Rattle.slides.proofs.Followings.{follow-end, follow-there, full-here, follow-refused, follow-on}
use Rattle.slides.proofs.following.follow_blocks.Goals as goal

pub returns-in_err-entry : goal.returns-in_err-entry
returns-in_err-entry c = absurd (follow-there _ _ _ _ c.requires.tape_value c.requires.n_in_bounds.0 c.loop-k.invariant c.loop-k-test.true _ _ c.in_err-entry.ensures)

pub move_block-requires-clause-full : goal.move_block-requires-clause-full
move_block-requires-clause-full c = full-here _ _ _ _ c.requires.tape_value c.requires.n_in_bounds.0 c.loop-k.invariant c.loop-k-test.true _ c.in_ok-entry.ensures c.args.usable.facts

pub returns-in_err-slides : goal.returns-in_err-slides
returns-in_err-slides c =
    let p = err_from_is_err_and c.from_residual-in_err-slides.result c.from_residual-in_err-slides.ensures.1 in
    rw (p.1, p.2, sym c.in_ok-check_travel.ensures)
    (follow-refused _ _ _ _ c.requires.tape_value c.requires.n_in_bounds.0 c.loop-k.invariant c.loop-k-test.true _ c.in_ok-entry.ensures _ _ c.in_err-slides.ensures)

pub loop-k-preserved : goal.loop-k-preserved
loop-k-preserved c = follow-on _ _ _ _ c.requires.tape_value c.requires.n_in_bounds.0 c.loop-k.invariant c.loop-k-test.true _ c.in_ok-entry.ensures _ c.in_ok-slides.ensures

pub returns-in_ok-slides : goal.returns-in_ok-slides
returns-in_ok-slides c =
    let on = follow-on _ _ _ _ c.requires.tape_value c.requires.n_in_bounds.0 c.loop-k.invariant c.loop-k-test.true _ c.in_ok-entry.ensures _ c.in_ok-slides.ensures in
    rw (sym c.in_ok-check_travel.ensures) (follow-end _ _ _ _ c.requires.tape_value c.requires.n_in_bounds.0 on (omega arith))
