-- The cases marked P in document 01 ("Both sides of each line"), proved together as one statement.
use Prim.Native.Nat.{ℕ}
use Prim.Native.String.{String}
use mathlib.Core.Path.{◌≡◌, refl}
use mathlib.Core.List.{List, [], ◌∷◌, map}
use lib.Count.{ones}
use lib.IntN.{pos}
use lib.ListN.{get_or}
use Rattle.rows.specs.Answer.{Answer, taken, refused, ◌>>=◌, ◌>>◌}
use Rattle.rows.specs.Row.{character, entry}
use Rattle.rows.specs.Stages.{lowest, scan, judged}
use Rattle.rows.specs.Kept.{kept_from}
use Rattle.speeds.specs.declared.Speed.{Speed}
use Rattle.speeds.specs.declared.Speed.TheVariants.{Stop, Rapid, Rate}
use Rattle.speeds.specs.Meaning.{meaning, speed_for}
use Rattle.speeds.specs.Preferred.{rates, climbed}
use Rattle.speeds.specs.Rounding.{past_within, past, rounded}
use Rattle.speeds.specs.Coding.{written, code_for}
use Rattle.shorthand.specs.Order.{rank, due, after}
use Rattle.shorthand.specs.Stand.{digits_of, after_digits, seen, stand, stand_n}
use Rattle.shorthand.specs.Parse.{items_from, parsed_in, parsed}
use Rattle.shorthand.proofs.Cases.{bytes}
use Rattle.profile.specs.Answers.{profiled, agreed}
use Rattle.words.specs.declared.Value.{Value}
use Rattle.words.specs.declared.Value.TheVariants.{Number}
use Rattle.reading.specs.Record.{blank}
use Rattle.words.specs.Figures.{run, figures}
use Rattle.words.specs.Data.{data_at}
use Rattle.reading.specs.Parse.{words_at, block_at, blocks_at}
use Rattle.parts.specs.Ends.{head_at}
use Rattle.parts.specs.Starts.{start_at}
use Rattle.reading.specs.Answers.{program_at, read, read_under, block_numbered}
use Rattle.reading.proofs.Cases.{rows}

infix 80 ◌is◌
-- what is asked: the character of a row; the speed of a code and the code of a speed, each in k digits; the first word of a tape's first block; a shorthand
pub data Question : Type 0 where
  row : ℕ → Question
  speed_of : ℕ → ℕ → Question
  code_of : ℕ → Speed → Question
  word_of : ℕ → String → String → Question
  shorthand : ℕ → String → Question

unfoldable pub answered : Question → Answer Value
answered (row b) = judged (b ∷ []) >> taken (Number (character b))
answered (speed_of k c) = speed_for k c >>= λ s. taken (Value.Speed s)
answered (code_of k s) = code_for k s >>= λ c. taken (Number c)
answered (word_of e s t) = block_numbered e (bytes s) [] (rows t) 0 >>= λ b. taken (get_or b.words 0 blank).value
answered (shorthand e s) = parsed e (bytes s) >> taken (Number 0)

pub record Case : Type 0 where
  pub asked : Question
  pub answer : Answer Value

abbrev pub ◌is◌ : Question → Answer Value → Case
q is a = record { asked = q; answer = a }

abbrev pub cases : List Case
cases =
    row 165 is taken (Number 37)
    ∷ row 37 is refused 5 0
    ∷ row 255 is taken (Number 127)
    ∷ row 127 is refused 5 0
    ∷ row 33 is refused 6 0
    ∷ speed_of 3 717 is taken (Value.Speed (Rate 17_000_000_000))
    ∷ speed_of 3 046 is taken (Value.Speed (Rate 4_600))
    ∷ speed_of 3 000 is taken (Value.Speed (Rate 0))
    ∷ speed_of 3 100 is refused 13 0
    ∷ code_of 4 (Rate 152_500_000) is taken (Number 5153)
    ∷ code_of 3 (Rate 99_600_000) is taken (Number 510)
    ∷ code_of 3 (Rate 995) is taken (Number 010)
    ∷ code_of 3 (Rate 994) is refused 20 0
    ∷ code_of 3 (Rate 9_949_999_999_999) is taken (Number 999)
    ∷ code_of 3 (Rate 9_950_000_000_000) is refused 20 0
    ∷ speed_of 2 46 is taken (Value.Speed (Rate 2_000_000_000))
    ∷ speed_of 2 01 is taken (Value.Speed (Rate 11_200_000))
    ∷ speed_of 2 98 is taken (Value.Speed (Rate 800_000_000_000))
    ∷ speed_of 2 00 is taken (Value.Speed Stop)
    ∷ speed_of 2 99 is taken (Value.Speed Rapid)
    ∷ speed_of 2 100 is refused 21 0
    ∷ code_of 2 (Rate 11_850_000) is taken (Number 02)
    ∷ code_of 2 (Rate 11_849_999) is taken (Number 01)
    ∷ code_of 2 (Rate 11_199_999) is refused 20 0
    ∷ code_of 3 Stop is refused 20 0
    ∷ word_of 2539 "N3X+042*" "%\nN001X+5\n" is taken (Value.Dimension (pos 5))
    ∷ word_of 2539 "N3X+420*" "%\nN001X+5\n" is taken (Value.Dimension (pos 500_000))
    ∷ shorthand 2539 "N3X+040*" is refused 2 2
    ∷ shorthand 1057 "N3.X+042*" is refused 3 2
    ∷ []

pub cases-hold : map (λ (c : Case). answered c.asked) cases ≡ map (λ (c : Case). c.answer) cases
unfolding answered ones entry lowest scan judged kept_from speed_for meaning rates climbed code_for rounded past past_within written rank due after digits_of after_digits seen stand stand_n items_from parsed_in parsed profiled agreed run figures data_at words_at start_at block_at head_at blocks_at program_at read read_under
cases-hold = refl
