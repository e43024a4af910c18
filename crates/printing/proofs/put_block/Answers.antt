-- `printing::put_block` meets its contract: each turn puts a word, and LF ends the line.
use Rattle.std.proofs.Common.{◌≡◌, length, arith, rules}
use Rattle.text.proofs.Puts.{put-more}
use Rattle.printing.proofs.BlockLine.{word-put, words-put, few_taken}
use Rattle.printing.proofs.put_block.Goals as goal

pub loop-word-preserved : goal.loop-word-preserved
loop-word-preserved c =
    let put = c.put_word-at.ensures in
    (omega (arith, c.loop-word.invariant.0, put.end), word-put _ _ _ _ _ _ _ c.loop-word.invariant.1 c.loop-word-test.true _ _ put.put)

pub returns-clause-put : goal.returns-clause-put
returns-clause-put c =
    let w : length c.args.block.words ≡ 22 = search rules in
    let put = words-put _ _ _ _ _ _ c.loop-word.invariant.1 c.loop-word-test.false _ _ c.put.ensures in
    put-more c.put_start-at.ensures.put (rw (c.min.ensures, few_taken c.args.block.count 22 c.args.block.words w) at put)
