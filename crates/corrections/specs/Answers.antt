-- What is answered of a correction tape and a master tape: the correction's own refusal first, then the master's, then 25 at 0, or 15 at the number of entries
-- (document 02, 8/12).
use Rattle.std.specs.Prelude.{ℕ, ◌-◌, cond, List, ltb, length, get_or, take, drop}
use Rattle.rows.specs.Answer.{Answer, taken, refused, ◌>>=◌}
use Rattle.shorthand.specs.declared.Format.{Format}
use Rattle.profile.specs.Answers.{agreed}
use Rattle.reading.specs.declared.Entry.{Entry}
use Rattle.reading.specs.Answers.{nowhere, read}
use Rattle.reading.specs.Front.{part_of}
use Rattle.index.specs.Index.{numbers_of}
use Rattle.index.specs.Finding.{number_found}
use Rattle.corrections.specs.declared.Named.{Named}
use Rattle.corrections.specs.declared.Place.{Place}
use Rattle.corrections.specs.declared.Tape.{Tape}
use Rattle.corrections.specs.declared.Tape.TheVariants.{Correction, Master}
use Rattle.corrections.specs.Listing.{on_master, on_correction, number_at, listing}

-- entry n, from 0, or 15 at the number of entries
abbrev pub nth_named : ℕ → List Named → Answer Named
nth_named n es = cond (ltb n (length es)) (taken (get_or es n (on_master 0))) (refused 15 (length es))

-- both tapes: under a Format, and under an edition, a shorthand and a profile
abbrev pub both_for : {A : Type 0} → Format → List ℕ → List ℕ → (List Entry → List Entry → Answer A) → Answer A
both_for f c m ask = read f c >>= λ cs. read f m >>= ask cs

abbrev pub both : {A : Type 0} → ℕ → List ℕ → List ℕ → List ℕ → List ℕ → (List Entry → List Entry → Answer A) → Answer A
both e s p c m ask = agreed e s p >>= λ f. both_for f c m ask

-- entry n of the corrected listing of two tapes
unfoldable pub entry_corrected : ℕ → List ℕ → List ℕ → List ℕ → List ℕ → ℕ → Answer Named
entry_corrected e s p c m n = both e s p c m (λ cs ms. nth_named n (listing (numbers_of cs) (numbers_of ms)))

-- and by the numbers in their indexes
abbrev pub entry_indexed : List ℕ → List ℕ → ℕ → Answer Named
entry_indexed cs ms n = nth_named n (listing cs ms)

-- the correction's block where it was found, else the master's
abbrev pub found : Answer ℕ → Answer ℕ → Answer Named
found (taken j) other = taken (on_correction j)
found (refused n p) other = other >>= λ i. taken (on_master i)

-- of one of two tapes
abbrev pub tape_of : {A : Type 0} → A → A → Tape → A
tape_of c m Correction = c
tape_of c m Master = m

-- the number of the block that an entry names
abbrev pub number_named : List ℕ → List ℕ → Named → ℕ
number_named cs ms x = number_at (tape_of cs ms x.tape) x.block

-- the block that asking for a number finds: on the correction, else on the master; 25 at 0
abbrev pub asked : List ℕ → List ℕ → ℕ → Answer Named
asked cs ms q = found (number_found cs q) (number_found ms q)

-- where a block that was found stands, on a tape with these blocks
abbrev pub place_on : Tape → List Entry → Answer ℕ → Answer Place
place_on on es found = found >>= λ n. taken (record { tape = on; part = part_of (get_or es n nowhere) })

-- on the correction where it has the number, else on the master; 25 at 0 where neither has
abbrev pub held : Answer Place → Answer Place → Answer Place
held (taken x) other = taken x
held (refused n p) other = other

abbrev pub place_in : ℕ → List Entry → List Entry → Answer Place
place_in q cs ms = held (place_on Correction cs (number_found (numbers_of cs) q)) (place_on Master ms (number_found (numbers_of ms) q))

-- where the first block with the number q stands
unfoldable pub place_corrected : ℕ → List ℕ → List ℕ → List ℕ → List ℕ → ℕ → Answer Place
place_corrected e s p c m q = both e s p c m (place_in q)

-- the rows at a place
abbrev pub rows_there : List ℕ → List ℕ → Place → List ℕ
rows_there c m x = take (x.part.to - x.part.from) (drop x.part.from (tape_of c m x.tape))

-- the rows of the first block with the number q, as a part of whichever tape holds them
abbrev pub rows_corrected : ℕ → List ℕ → List ℕ → List ℕ → List ℕ → ℕ → Answer (List ℕ)
rows_corrected e s p c m q = place_corrected e s p c m q >>= λ x. taken (rows_there c m x)
