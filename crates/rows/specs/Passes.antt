-- What the first three stages ask of a tape, and damage to its rows (document 01, "Four stages", demand 3).
use Rattle.std.specs.Prelude.{ℕ, ◌%◌, ◌≤◌, ◌<◌, ◌≡◌, ◌⊎◌, List, [], ◌∷◌, length, get_or, T}
use Rattle.std.specs.Int.Count.{ones}
use Rattle.std.specs.Int.Bits.{bit_xor}
use Rattle.rows.specs.Row.{character, even, characters, among}
use Rattle.rows.specs.Stages.{limit}
use Rattle.rows.specs.ControlOut.{WellFormed}

abbrev pub Every : {A : Type 0} → (A → Type 0) → List A → Type 0
Every P [] = Unit {0}
Every P (x ∷ xs) = P x × Every P xs

-- within the limit, every row even, every character one of the 50, and the control-outs well formed
pub record Passes (t : List ℕ) : Type 0 where
  pub short : length t ≤ limit
  pub even : Every (λ b. T (even b)) t
  pub known : Every (λ b. T (among (character b) characters)) t
  pub formed : WellFormed t

-- an odd number of holes is changed from the row a to the row b
abbrev pub Changed : ℕ → ℕ → Type 0
Changed a b = ones (bit_xor a b) % 2 ≡ 1

-- in each row either nothing is changed or an odd number of holes
pub record Damaged (s t : List ℕ) : Type 0 where
  pub length_kept : length t ≡ length s
  pub rows : (i : ℕ) → i < length s → (get_or t i 0 ≡ get_or s i 0) ⊎ Changed (get_or s i 0) (get_or t i 0)

-- k is the first changed row
pub record First (s t : List ℕ) (k : ℕ) : Type 0 where
  pub within : k < length s
  pub changed : Changed (get_or s k 0) (get_or t k 0)
  pub before : (i : ℕ) → i < k → get_or t i 0 ≡ get_or s i 0
