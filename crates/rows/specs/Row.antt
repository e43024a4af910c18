-- One row of the tape: its character, its parity, and what the table of all 256 rows must hold (document 01, "Rows and characters").
use Rattle.std.specs.Prelude.{ℕ, ◌+◌, ◌%◌, ◌<◌, ◌≡◌, Bool, false, ◌||◌, cond, List, [], ◌∷◌, eqb, length, get_or}
use Rattle.std.specs.Int.Count.{ones}

-- the lower seven bits are the character
abbrev pub character : ℕ → ℕ
character b = b % 128

-- the eighth makes the number of holes even
abbrev pub even : ℕ → Bool
even b = eqb (ones b % 2) 0

-- the 50 characters: NUL BS HT LF CR SP % ( ) + - /, the digits, :, A to Z, DEL
abbrev pub characters : List ℕ
characters =
    0 ∷ 8 ∷ 9 ∷ 10 ∷ 13 ∷ 32 ∷ 37 ∷ 40 ∷ 41 ∷ 43 ∷ 45 ∷ 47 ∷ 48 ∷ 49 ∷ 50 ∷ 51 ∷ 52 ∷ 53 ∷ 54 ∷ 55 ∷ 56 ∷ 57 ∷ 58 ∷ 65 ∷ 66 ∷ 67 ∷ 68 ∷ 69 ∷ 70 ∷ 71 ∷ 72 ∷ 73 ∷ 74 ∷ 75 ∷ 76 ∷ 77 ∷ 78 ∷ 79 ∷ 80 ∷ 81 ∷ 82 ∷ 83 ∷ 84 ∷ 85 ∷ 86 ∷ 87 ∷ 88 ∷ 89 ∷ 90 ∷ 127 ∷ []

-- one of a list of characters
abbrev pub among : ℕ → List ℕ → Bool
among c [] = false
among c (d ∷ ds) = eqb c d || among c ds

-- what the table holds of a row: its character, or 128 and the number of the refusal (5 odd, 6 not one of the 50)
unfoldable pub entry : ℕ → ℕ
entry b = cond (even b) (cond (among (character b) characters) (character b) (128 + 6)) (128 + 5)

-- the table: the entry of each of the 256 rows at its own place
pub record Tabulated (table : List ℕ) : Type 0 where
  pub long : 256 ≡ length table
  pub entries : (b : ℕ) → b < 256 → get_or table b 0 ≡ entry b
