-- `salvage::pieces::judge_piece`: the rows are judged, and then their blocks are counted.
use Rattle.std.proofs.lemmas.Result.{err_from_is_err_and}
use Rattle.words.proofs.Fetched.{fetched}
use Rattle.reading.proofs.Places.{rising-at}
use Rattle.salvage.proofs.PieceCounts.{alone-refused, alone-counted}
use Rattle.salvage.proofs.pieces.judge_piece.Goals as goal

pub returns-in_err-check : goal.returns-in_err-check
returns-in_err-check c =
    let p = err_from_is_err_and c.from_residual.result c.from_residual.ensures.1 in
    rw (p.1, p.2) (alone-refused _ _ _ _ c.in_err-check.ensures)

pub survey_blocks-requires : goal.survey_blocks-requires
survey_blocks-requires c = record { rising = rw (fetched _ _ _ c.next_kept.ensures) (rising-at _ 0) }

pub returns-in_err-survey_blocks : goal.returns-in_err-survey_blocks
returns-in_err-survey_blocks c =
    let p = err_from_is_err_and c.from_residual-in_err-survey_blocks.result c.from_residual-in_err-survey_blocks.ensures.1 in
    rw (p.1, p.2) (alone-counted _ _ c.in_ok-check.ensures _ (fetched _ _ _ c.next_kept.ensures) _ c.in_err-survey_blocks.ensures.count)

pub returns : goal.returns
returns c = alone-counted _ _ c.in_ok-check.ensures _ (fetched _ _ _ c.next_kept.ensures) _ c.in_ok-survey_blocks.ensures.count
