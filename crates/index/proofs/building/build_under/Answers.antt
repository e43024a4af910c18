-- `index::building::build_under`: by what the survey counted, and whether there is room for as many entries.
use Rattle.std.proofs.lemmas.Result.{err_from_is_err_and}
use Rattle.index.proofs.Indexing.{not-read, no_room, lays_all, lays-none}
use Rattle.index.proofs.building.build_under.Goals as goal

pub returns-in_err-survey : goal.returns-in_err-survey
returns-in_err-survey c =
    let a = c.args in
    let p = err_from_is_err_and c.from_residual.result c.from_residual.ensures.1 in
    let laid = not-read a.firsts.now a.numbers.now a.usable.format a.tape.now _ _ c.in_err-survey.ensures.count in
    rw (p.1, p.2) (record { count = laid.0; firsts = laid.1.0; numbers = laid.1.1 })

pub returns-in_err-judge_room : goal.returns-in_err-judge_room
returns-in_err-judge_room c =
    let a = c.args in
    let p = err_from_is_err_and c.from_residual-in_err-judge_room.result c.from_residual-in_err-judge_room.ensures.1 in
    let laid = no_room a.firsts.now a.numbers.now a.usable.format a.tape.now _ c.in_ok-survey.ensures.count _ _ c.in_err-judge_room.ensures in
    rw (p.1, p.2) (record { count = laid.0; firsts = laid.1.0; numbers = laid.1.1 })

pub returns-then-blocks-gt0 : goal.returns-then-blocks-gt0
returns-then-blocks-gt0 c =
    let a = c.args in
    let filled = c.fill_index.ensures in
    let laid = lays_all a.firsts.now a.numbers.now a.usable.format a.tape.now _ c.in_ok-survey.ensures.count c.in_ok-judge_room.ensures _ _ (filled.firsts, filled.numbers) in
    record { count = laid.0; firsts = laid.1.0; numbers = laid.1.1 }

pub returns-else-blocks-gt0 : goal.returns-else-blocks-gt0
returns-else-blocks-gt0 c =
    let a = c.args in
    let laid = lays-none a.firsts.now a.numbers.now a.usable.format a.tape.now _ c.in_ok-survey.ensures.count c.in_ok-judge_room.ensures c.if-blocks-gt0.false in
    record { count = laid.0; firsts = laid.1.0; numbers = laid.1.1 }
