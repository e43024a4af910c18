-- `salvage::salvage_under`: what was found on the way, one after the other; then the pieces are saved.
use mathlib.Core.Path.{◌≡◌, sym, ap, ◌∙◌}
use native.Mathlib.Omega.{arith}
use lib.ListN.{length}
use lib.Seq.{length-take-le}
use Rattle.std.proofs.lemmas.Result.{err_from_is_err_and}
use Rattle.rows.specs.Answer.{taken, void}
use Rattle.reading.specs.Answers.{read}
use Rattle.salvage.specs.Pieces.{head_of}
use Rattle.salvage.specs.Saving.{saved_of, list_room}
use Rattle.salvage.proofs.PieceWalk.{piece-within, head-part}
use Rattle.salvage.proofs.SavedAnswers.{three-lists, room-three, too_long, head-refused, no_room, all_saved}
use Rattle.salvage.proofs.salvage_under.Goals as goal
use Rattle.salvage.proofs.salvage_under.Goals.{In_ok-judge_head, In_ok-judge_room}

-- the head was accepted
head-read : (c : In_ok-judge_head) → taken tt ≡ void (read c.args.usable.format (head_of c.args.tape.now))
head-read c = c.in_ok-judge_head.ensures ∙ ap (λ h. void (read c.args.usable.format h)) (head-part c.args.tape.now _ c.piece_end-head.ensures).1

-- the lists have room
has_room : (c : In_ok-judge_room) → taken tt ≡ list_room (length (saved_of c.args.usable.format c.args.tape.now).lost) (length c.args.firsts.now) (length c.args.sizes.now) (length c.args.numbers.now)
has_room c =
    let room = rw (c.min.ensures, c.count_losses-lost.ensures) at c.in_ok-judge_room.ensures in room ∙ three-lists _ (length c.args.firsts.now) (length c.args.sizes.now) _

pub returns-then-tape-gt-LIMIT : goal.returns-then-tape-gt-LIMIT
returns-then-tape-gt-LIMIT c =
    let all = too_long c.args.tape.now c.args.firsts.now c.args.sizes.now c.args.numbers.now c.args.usable.format c.if-tape-gt-LIMIT.true in
    rw c.at.ensures (record { lost = all.0; tape = all.1.0; firsts = all.1.1.0; sizes = all.1.1.1.0; numbers = all.1.1.1.1 })

pub slice_bounds-judge_head-end : goal.slice_bounds-judge_head-end
slice_bounds-judge_head-end c = omega (arith, c.piece_end-head.ensures, piece-within c.args.tape.now 0 (omega arith))

pub slice_bounds-judge_head-end-2 : goal.slice_bounds-judge_head-end-2
slice_bounds-judge_head-end-2 c = sym (length-take-le c.piece_end-head.result c.args.tape.now (omega (arith, c.piece_end-head.ensures, piece-within c.args.tape.now 0 (omega arith))))

pub returns-in_err-judge_head : goal.returns-in_err-judge_head
returns-in_err-judge_head c =
    let a = c.args in
    let p = err_from_is_err_and c.from_residual.result c.from_residual.ensures.1 in
    let head = c.in_err-judge_head.ensures ∙ ap (λ h. void (read a.usable.format h)) (head-part a.tape.now _ c.piece_end-head.ensures).1 in
    let all = head-refused a.tape.now a.firsts.now a.sizes.now a.numbers.now a.usable.format c.if-tape-gt-LIMIT.false _ _ head in
    rw (p.1, p.2) (record { lost = all.0; tape = all.1.0; firsts = all.1.1.0; sizes = all.1.1.1.0; numbers = all.1.1.1.1 })

pub count_losses-lost-requires : goal.count_losses-lost-requires
count_losses-lost-requires c =
    let head = head-read (goal.at.count_losses-lost-requires c).In_ok-judge_head in
    record { tape_len_bound = (c.if-tape-gt-LIMIT.false, (head-part c.args.tape.now _ c.piece_end-head.ensures).0, head) }

pub returns-in_err-judge_room : goal.returns-in_err-judge_room
returns-in_err-judge_room c =
    let a = c.args in
    let p = err_from_is_err_and c.from_residual-in_err-judge_room.result c.from_residual-in_err-judge_room.ensures.1 in
    let head = head-read (goal.at.returns-in_err-judge_room c).In_ok-judge_head in
    let room = rw (c.min.ensures, c.count_losses-lost.ensures) at c.in_err-judge_room.ensures in
    let all = no_room a.tape.now a.firsts.now a.sizes.now a.numbers.now a.usable.format c.if-tape-gt-LIMIT.false head _ _ (room ∙ three-lists _ (length a.firsts.now) (length a.sizes.now) _) in
    rw (p.1, p.2) (record { lost = all.0; tape = all.1.0; firsts = all.1.1.0; sizes = all.1.1.1.0; numbers = all.1.1.1.1 })

pub save_pieces-requires : goal.save_pieces-requires
save_pieces-requires c =
    let head = head-read (goal.at.save_pieces-requires c).In_ok-judge_head in
    record {
      tape_len_bound = (c.if-tape-gt-LIMIT.false, (head-part c.args.tape.now _ c.piece_end-head.ensures).0, head);
      tape_in_bounds = room-three _ _ _ _ (has_room (goal.at.save_pieces-requires c).In_ok-judge_room);
    }

pub returns : goal.returns
returns c =
    let a = c.args in
    let e = c.save_pieces.ensures in
    let head = head-read (goal.at.returns c).In_ok-judge_head in
    let room = has_room (goal.at.returns c).In_ok-judge_room in
    let all = all_saved a.tape.now a.firsts.now a.sizes.now a.numbers.now a.usable.format c.if-tape-gt-LIMIT.false head room _ _ _ _ e.tape e.firsts e.sizes e.numbers in
    record { lost = ap taken c.count_losses-lost.ensures ∙ all.0; tape = all.1.0; firsts = all.1.1.0; sizes = all.1.1.1.0; numbers = all.1.1.1.1 }
