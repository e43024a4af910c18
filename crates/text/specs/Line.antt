-- A line in a lent buffer: what putting bytes leaves there.
use Rattle.std.specs.Prelude.{ℕ, ◌+◌, ◌≡◌, List, length}
use Rattle.std.proofs.lemmas.List.Edits.{sets}

-- the bytes cs are put into a line from the place at on, and n is the place behind them
pub record Put (l₀ : List ℕ) (at : ℕ) (cs l : List ℕ) (n : ℕ) : Type 0 where
  pub end : n ≡ at + length cs
  pub bytes : l ≡ sets l₀ at cs
