-- What is left of an accepted tape: what a walk asks for that hands out blocks and does not judge the tape itself.
use Rattle.std.specs.Prelude.{ℕ, ◌+◌, ◌≡◌, List, ◌∷◌}
use Rattle.rows.specs.Answer.{taken}
use Rattle.rows.specs.Kept.{KeptRow}
use Rattle.shorthand.specs.declared.Format.{Format}
use Rattle.words.specs.Figures.{taking}
use Rattle.parts.specs.Ends.{entered}
use Rattle.reading.specs.declared.Entry.{Entry}
use Rattle.reading.specs.Answers.{read}

-- from a row on these blocks of an accepted tape stand: all of them behind its head, or those behind a block that was the first of them
pub data Remains (f : Format) (t : List ℕ) : ℕ → List Entry → Type 0 where
  all : {es : List Entry} {lf : ℕ} {rest : List KeptRow} → read f t ≡ taken es → entered t ≡ taking lf rest → Remains f t (lf + 1) es
  later : {from : ℕ} {e : Entry} {es : List Entry} → Remains f t from (e ∷ es) → Remains f t e.to es
