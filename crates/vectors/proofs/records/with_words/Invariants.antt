-- `vectors::records::with_words` is safe: each word is read from within the text.
use Rattle.std.proofs.Common.{◌≤◌, length}
use Rattle.vectors.proofs.records.with_words.Given as goal

abbrev pub invariant-loop-place : goal.invariant-loop-place
invariant-loop-place l = l.at ≤ length l.text
