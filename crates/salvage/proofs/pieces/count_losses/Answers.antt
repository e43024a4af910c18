-- `salvage::pieces::count_losses`: a loop over the pieces; what is counted and what is to come are all losses.
use mathlib.Core.Path.{◌≡◌, sym, ap, ◌∙◌}
use native.Mathlib.Omega.{arith}
use Prim.Native.Nat.{◌+◌, ◌≤◌, ◌<◌}
use lib.ListN.{length, drop}
use Rattle.rows.specs.Answer.{told, void}
use Rattle.reading.specs.Survey.{alone}
use Rattle.salvage.specs.Pieces.{divided, head_of}
use Rattle.salvage.specs.Saving.{losses, saved_of}
use Rattle.salvage.specs.Turns.{piece_at, lost_at}
use Rattle.salvage.proofs.PieceCounts.{loss_by, none_by}
use Rattle.salvage.proofs.PieceWalk.{head-only, piece-within, piece-part, count-start, count_turn, count-end}
use Rattle.salvage.proofs.pieces.count_losses.Goals as goal
use Rattle.salvage.proofs.pieces.count_losses.Goals.{After-is_err}

-- one piece more is counted
turn : (c : After-is_err)
    → let f = c.args.usable.format in
    let t = c.args.tape.now in
    let at = c.loop-at.at in
    let end = c.piece_end-end.result in
    (length (head_of t) ≤ end) × (end ≤ length t) × (c.loop-at.lost + lost_at f t at + length (losses f (head_of t) end (divided (drop end t))) ≡ length (saved_of f t).lost) × (c.loop-at.lost + lost_at f t at ≤ end) × (at < end)
turn c =
    let l = c.loop-at in
    let q = c.requires.tape_len_bound in
    count_turn c.args.usable.format (head-only c.args.usable.format c.args.tape.now q.2) c.args.tape.now l.at l.lost _ _ q.0 l.invariant.0 c.loop-at-test.true c.piece_end-end.ensures l.invariant.2 l.invariant.3

-- what was judged is the piece
judged : (c : After-is_err) → told c.judge_piece.result ≡ void (alone c.args.usable.format (piece_at c.args.tape.now c.loop-at.at))
judged c = c.judge_piece.ensures ∙ ap (λ r. void (alone c.args.usable.format r)) (piece-part c.args.tape.now c.loop-at.at _ c.piece_end-end.ensures)

pub loop-at-init : goal.loop-at-init
loop-at-init c = count-start _ _ _ c.requires.tape_len_bound.1

pub slice_bounds-judge_piece-end : goal.slice_bounds-judge_piece-end
slice_bounds-judge_piece-end c = omega (arith, c.piece_end-end.ensures, piece-within c.args.tape.now c.loop-at.at c.loop-at.invariant.1)

pub loop-at-smaller-then-is_err : goal.loop-at-smaller-then-is_err
loop-at-smaller-then-is_err c = let k = turn (goal.at.loop-at-smaller-then-is_err c).After-is_err in omega (arith, k.1, k.4)

pub loop-at-preserved-then-is_err : goal.loop-at-preserved-then-is_err
loop-at-preserved-then-is_err c =
    let k = turn (goal.at.loop-at-preserved-then-is_err c).After-is_err in
    let one = loss_by _ _ (judged (goal.at.loop-at-preserved-then-is_err c).After-is_err) (sym c.is_err.ensures.value ∙ c.if-is_err.true) in
    (k.0, k.1, omega (arith, k.2, one), omega (arith, k.3, one))

pub loop-at-smaller : goal.loop-at-smaller
loop-at-smaller c = let k = turn (goal.at.loop-at-smaller c).After-is_err in omega (arith, k.1, k.4)

pub loop-at-preserved : goal.loop-at-preserved
loop-at-preserved c =
    let k = turn (goal.at.loop-at-preserved c).After-is_err in
    let none = none_by _ _ (judged (goal.at.loop-at-preserved c).After-is_err) (sym c.is_err.ensures.value ∙ c.if-is_err.false) in
    (k.0, k.1, omega (arith, k.2, none), omega (arith, k.3, none))

pub returns : goal.returns
returns c = count-end _ _ _ _ _ _ c.loop-at-test.false c.loop-at.invariant.2
