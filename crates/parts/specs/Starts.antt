-- The start of a block: "/" or not, and N or ":" with the digits of its number, or no number (documents 01, "Four stages", and 02, 5/12; refusals 9 and 14).
use Rattle.std.specs.Prelude.{ℕ, Bool, true, false, ◌||◌, cond, List}
use Rattle.rows.specs.Answer.{Answer, ◌>>=◌}
use Rattle.rows.specs.Kept.{KeptRow}
use Rattle.shorthand.specs.declared.Missing.TheVariants.{Nothing}
use Rattle.words.specs.declared.Wanted.{Wanted}
use Rattle.words.specs.Figures.{Behind, taking, wrong, fronts, behind, figures}
use Rattle.parts.specs.declared.Begun.{Begun}

-- exactly the digits of the N item
abbrev pub digits_at : ℕ → ℕ → Bool → Bool → List KeptRow → Answer (Behind Begun)
digits_at len n skip alignment rs =
    figures len Wanted.Start Nothing n rs >>= λ v. taking (record { skip = skip; alignment = alignment; numbered = true; sequence = v.value }) v.rest

-- no number, and so no alignment
abbrev pub unnumbered : Bool → Begun
unnumbered skip = record { skip = skip; alignment = false; numbered = false; sequence = 0 }

-- a block without number, where one may begin so, or 9
abbrev pub bare_at : ℕ → (List KeptRow → Bool) → Bool → List KeptRow → Answer (Behind Begun)
bare_at len bare skip rs = cond (bare rs) (taking (unnumbered skip) rs) (wrong len Wanted.Start rs)

-- behind N, or ":" for alignment; or no number
abbrev pub number_at : ℕ → ℕ → (List KeptRow → Bool) → Bool → List KeptRow → Answer (Behind Begun)
number_at len n bare skip rs = cond (fronts 78 rs || fronts 58 rs) (digits_at len n skip (fronts 58 rs) (behind rs)) (bare_at len bare skip rs)

-- the rows behind "/", where it stands
abbrev pub past_slash : List KeptRow → List KeptRow
past_slash rs = cond (fronts 47 rs) (behind rs) rs

-- "/" for optional skip, or not; whether a block without number may begin at some rows is given
unfoldable pub start_at : ℕ → ℕ → (List KeptRow → Bool) → List KeptRow → Answer (Behind Begun)
start_at len n bare rs = cond (fronts 47 rs) (number_at len n bare true (behind rs)) (number_at len n bare false rs)
