-- What the private functions ask for and say: words within their widths, and where a word puts its axis.
use Rattle.std.specs.Prelude.{◌≤◌, cond, ◌&&◌, not, ℤ, nat_abs, Option, None, Some}
use Rattle.std.specs.Int.Signed.{lt_z}
use Rattle.rows.specs.Passes.{Every}
use Rattle.words.specs.declared.Value.{Value}
use Rattle.words.specs.declared.Value.TheVariants.{Number, Speed, Dimension}
use Rattle.reading.specs.declared.Block.{Block}
use Rattle.reading.specs.Record.{words_of}
use Rattle.slides.specs.Axes.{farthest}

-- a dimension has 18 digits at most
abbrev pub Near : Value → Type 0
Near (Number n) = Unit {0}
Near (Dimension z) = nat_abs z ≤ farthest
Near (Speed s) = Unit {0}

-- a block as it is read: no more than 22 words, each within its width
pub record Full (b : Block) : Type 0 where
  pub few : b.count ≤ 22
  pub near : Every (λ w. Near w.value) (words_of b)

-- a place within a travel, or none outside it
abbrev pub put_within : ℤ → ℤ → ℤ → Option ℤ
put_within low high z = cond (not (lt_z z low) && not (lt_z high z)) (Some z) None
