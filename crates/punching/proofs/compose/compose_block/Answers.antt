-- `punching::compose::compose_block`: the start, the words and the LF, one behind the other, are all the rows that there are.
use mathlib.Core.Path.{◌≡◌, ◌∙◌, sym}
use native.Mathlib.Omega.{arith}
use borrow.Author.Rules.{rules}
use Rattle.punching.specs.Rows.{block_chars, rows_of}
use Rattle.punching.proofs.Lines.{put-more, put_all}
use Rattle.punching.proofs.Measures.{rows-length, record-fit}
use Rattle.punching.proofs.WholeRecords.{number_small}
use Rattle.punching.proofs.compose.compose_block.Goals as goal

pub put_start-requires : goal.put_start-requires
put_start-requires c =
    let a = c.args in
    (omega (arith, rows-length a.usable.format a.block, c.requires.1), number_small a.usable.format a.block (record-fit a.usable.format a.block c.requires.0).sequence)

pub put_words-requires : goal.put_words-requires
put_words-requires c =
    let a = c.args in
    let fit = record-fit a.usable.format a.block c.requires.0 in
    let start = c.put_start.ensures.put in
    (fit.few, fit.words, omega (arith, start.end, start.same, rows-length a.usable.format a.block, c.requires.1))

pub put-requires : goal.put-requires
put-requires c =
    let start = c.put_start.ensures.put in
    let words = c.put_words.ensures.put in
    (omega (arith, words.end, words.same, start.end, start.same, rows-length c.args.usable.format c.args.block, c.requires.1), omega arith)

pub returns : goal.returns
unfolding block_chars
returns c =
    let put = put-more c.put_start.ensures.put (put-more c.put_words.ensures.put c.put.ensures.put) in
    let all : c.put.new.self.rows.now ≡ rows_of c.args.usable.format c.args.block = put_all put (put.same ∙ sym c.requires.1) in
    search rules
