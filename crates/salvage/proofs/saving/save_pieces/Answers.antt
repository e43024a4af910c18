-- `salvage::saving::save_pieces`: a loop over the pieces, each left as it is to be.
use mathlib.Core.Path.{◌≡◌, sym, ap, subst, ◌∙◌}
use Prim.Native.Nat.{◌<◌}
use native.Mathlib.Omega.{arith}
use lib.ListN.{length}
use Rattle.rows.specs.Refusals.{numbered}
use Rattle.rows.specs.Answer.{void}
use Rattle.reading.specs.Survey.{alone}
use Rattle.salvage.specs.Saving.{saved_of}
use Rattle.salvage.specs.Turns.{alone_at}
use Rattle.salvage.proofs.PieceCounts.{numbered-some, no_number, own_number}
use Rattle.salvage.proofs.PieceWalk.{head-only, piece-within, piece-part, next-piece, Saves, saves-start, saves-room, one_lost, saves-stay, saves-lose, saves-end}
use Rattle.salvage.proofs.saving.save_pieces.Goals as goal
use Rattle.salvage.proofs.saving.save_pieces.Goals.{In-Err, After-piece_end-end}

pub loop-at-init : goal.loop-at-init
loop-at-init c =
    let a = c.args in
    subst
    (λ k. Saves a.usable.format a.tape.now a.firsts.now a.sizes.now a.numbers.now a.tape.now a.firsts.now a.sizes.now a.numbers.now k 0)
    (sym c.requires.tape_len_bound.1)
    (saves-start a.usable.format a.tape.now a.firsts.now a.sizes.now a.numbers.now)

pub slice_bounds-judge_piece-end : goal.slice_bounds-judge_piece-end
slice_bounds-judge_piece-end c = omega (arith, c.piece_end-end.ensures, piece-within c.loop-at.tape c.loop-at.at c.loop-at.invariant.within)

-- the number that is listed is the piece's own
number_is : (c : In-Err) → numbered c.in-Err.refusal.cause ≡ alone_at c.args.usable.format c.loop-at.tape c.loop-at.at
number_is c = own_number _ _ _ (c.in-Err.ensures ∙ ap (λ r. void (alone c.args.usable.format r)) (piece-part c.loop-at.tape c.loop-at.at _ c.piece_end-end.ensures))

-- the next place of each list
room : (c : In-Err) → c.loop-at.n < length (saved_of c.args.usable.format c.args.tape.now).lost
room c =
    let a = c.args in
    let q = c.requires.tape_len_bound in
    let one = one_lost a.usable.format c.loop-at.tape c.loop-at.at (number_is c) (numbered-some c.in-Err.refusal.cause) in
    omega (arith, one, saves-room a.usable.format a.tape.now a.firsts.now a.sizes.now a.numbers.now (head-only a.usable.format a.tape.now q.2) q.0 c.loop-at.invariant c.loop-at-test.true)

pub bounds-firsts-n : goal.bounds-firsts-n
bounds-firsts-n c = omega (arith, room (goal.at.bounds-firsts-n c).In-Err, c.requires.tape_in_bounds.0, c.loop-at.invariant.first.same)

pub bounds-sizes-n : goal.bounds-sizes-n
bounds-sizes-n c = omega (arith, room (goal.at.bounds-sizes-n c).In-Err, c.requires.tape_in_bounds.1, c.loop-at.invariant.size.same)

pub bounds-numbers-n : goal.bounds-numbers-n
bounds-numbers-n c = omega (arith, room (goal.at.bounds-numbers-n c).In-Err, c.requires.tape_in_bounds.2, c.loop-at.invariant.number.same)

pub loop-at-preserved-in-Err : goal.loop-at-preserved-in-Err
loop-at-preserved-in-Err c =
    let a = c.args in
    let q = c.requires.tape_len_bound in
    rw c.from.ensures
    (saves-lose a.usable.format a.tape.now a.firsts.now a.sizes.now a.numbers.now (head-only a.usable.format a.tape.now q.2) q.0 c.loop-at.invariant c.requires.tape_in_bounds c.loop-at-test.true c.piece_end-end.ensures
    (number_is (goal.at.loop-at-preserved-in-Err c).In-Err) (numbered-some c.in-Err.refusal.cause) _ c.rub_out.ensures)

pub loop-at-smaller-in-Err : goal.loop-at-smaller-in-Err
loop-at-smaller-in-Err c =
    let k = loop-at-preserved-in-Err c in
    omega (arith, k.long, k.within, c.loop-at.invariant.long, c.piece_end-end.ensures, (next-piece c.loop-at.tape c.loop-at.at c.loop-at-test.true).some)

pub loop-at-smaller : goal.loop-at-smaller
loop-at-smaller c = let k = next-piece c.loop-at.tape c.loop-at.at c.loop-at-test.true in omega (arith, c.piece_end-end.ensures, k.some, k.within)

pub loop-at-preserved : goal.loop-at-preserved
loop-at-preserved c =
    let a = c.args in
    let q = c.requires.tape_len_bound in
    let none = no_number _ (c.in_default.ensures ∙ ap (λ r. void (alone a.usable.format r)) (piece-part c.loop-at.tape c.loop-at.at _ c.piece_end-end.ensures)) in
    saves-stay a.usable.format a.tape.now a.firsts.now a.sizes.now a.numbers.now (head-only a.usable.format a.tape.now q.2) q.0 c.loop-at.invariant c.requires.tape_in_bounds c.loop-at-test.true c.piece_end-end.ensures none

pub returns : goal.returns
returns c =
    let a = c.args in
    let q = c.requires.tape_len_bound in
    let r = saves-end a.usable.format a.tape.now a.firsts.now a.sizes.now a.numbers.now (head-only a.usable.format a.tape.now q.2) q.0 c.loop-at.invariant c.loop-at-test.false in
    record { tape = r.0; firsts = r.1; sizes = r.2; numbers = r.3 }
