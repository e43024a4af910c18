-- What the private functions ask for and say: a tape that was judged, and what is found on it.
use Rattle.std.specs.Prelude.{ℕ, ◌≡◌, List, length, get_or}
use Rattle.std.proofs.Props.{props}
use Rattle.rows.specs.Answer.{Answer, taken, ◌>>=◌}
use Rattle.shorthand.specs.declared.Format.{Format}
use Rattle.shorthand.specs.Facts.{Facts}
use Rattle.shorthand.specs.OneFacts.{facts-prop}
use Rattle.reading.specs.declared.Entry.{Entry}
use Rattle.reading.specs.Answers.{nowhere, read}
use Rattle.reading.specs.Front.{part_of}
use Rattle.index.specs.Index.{numbers_of, entries_of}
use Rattle.index.specs.Finding.{number_found}
use Rattle.corrections.specs.declared.tapes.Sought.{Sought}

-- the tape is accepted, its first block begins at a row, and it has so many
pub record Rolls (f : Format) (t : List ℕ) (first count : ℕ) : Type 0 where
  pub facts : Facts f
  pub accepted : read f t ≡ taken (entries_of f t)
  pub begins : first ≡ (get_or (entries_of f t) 0 nowhere).from
  pub counts : count ≡ length (entries_of f t)

-- all of it has one proof, so that a struct can hold it
pub one_roll : (f : Format) (t : List ℕ) (first count : ℕ) → IsProp (Rolls f t first count)
one_roll f t first count = Prim.hlevel (props, facts-prop)

-- the first of some blocks that has the number q, and where it stands
abbrev pub sought : List Entry → ℕ → Answer Sought
sought es q = number_found (numbers_of es) q >>= λ n. taken (record { block = n; part = part_of (get_or es n nowhere) })
