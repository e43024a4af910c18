-- Where a byte is found first.
use Rattle.std.specs.Prelude.{ℕ, List, ◌==◌}
use Rattle.std.specs.List.{position_or_len}

-- the first place of a byte in a list, or the list's length
abbrev pub index_of : ℕ → List ℕ → ℕ
index_of b xs = position_or_len (λ x. x == b) xs
