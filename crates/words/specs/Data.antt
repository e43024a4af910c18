-- A word's data, behind its address or its tab, by its item's kind (document 01, "Four stages" and the refusal table: 11, 12, 13).
use Rattle.std.specs.Prelude.{ℕ, Bool, true, false, List, ℤ, pos, neg_ℤ}
use Rattle.rows.specs.Answer.{Answer, taken, refused, ◌>>=◌}
use Rattle.rows.specs.Kept.{KeptRow}
use Rattle.speeds.specs.declared.Speed.{Speed}
use Rattle.speeds.specs.Meaning.{speed_for}
use Rattle.shorthand.specs.declared.Kind.{Kind}
use Rattle.shorthand.specs.declared.Kind.TheVariants.{Plain}
use Rattle.shorthand.specs.declared.Item.{Item}
use Rattle.shorthand.specs.Layout.{width, missing_of, sign_of}
use Rattle.words.specs.declared.Value.{Value}
use Rattle.words.specs.declared.Value.TheVariants.{Number}
use Rattle.words.specs.declared.Word.{Word}
use Rattle.words.specs.declared.Wanted.{Wanted}
use Rattle.words.specs.Figures.{Behind, taking, figures, signed}

-- minus zero is zero
abbrev pub signed_value : Bool → ℕ → ℤ
signed_value true m = neg_ℤ (pos m)
signed_value false m = pos m

-- 13 stands at the word's first row: its address, or without addresses its first digit
abbrev pub spoken : ℕ → Answer Speed → Answer Value
spoken a (taken s) = taken (Value.Speed s)
spoken a (refused n p) = refused n a

-- what the figures of a word mean that begins at row a
abbrev pub meant : ℕ → Kind → Bool → ℕ → Answer Value
meant a (Plain n) minus m = taken (Number m)
meant a (Kind.Speed k) minus m = spoken a (speed_for k m)
meant a (Kind.Dimension d) minus m = taken (Value.Dimension (signed_value minus m))

-- the data of a word that begins at row a: the sign (12), the digits (11), and then 13
unfoldable pub data_at : ℕ → ℕ → Kind → List KeptRow → Answer (Behind Value)
data_at len a k rs =
    signed len (sign_of k) rs >>= λ s. figures len Wanted.Digits (missing_of k) (width k) s.rest >>= λ m. meant a k s.value m.value >>= λ x. taking x m.rest

-- the word of an item that begins at row a, its data at the front
abbrev pub word_at : ℕ → Item → ℕ → List KeptRow → Answer (Behind Word)
word_at len it a rs = data_at len a it.kind rs >>= λ x. taking (record { letter = it.letter; value = x.value }) x.rest
