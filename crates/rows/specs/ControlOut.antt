-- Control-outs as a relation on rows, without a scanner (document 01, stage 3).
use Rattle.std.specs.Prelude.{ℕ, ◌≡◌, false, List, [], ◌∷◌, ◌++◌}
use Rattle.rows.specs.Row.{character, among}

-- what a control-out may hold: neither ")" nor ":" nor "%" (a second "(" and LF are ignored)
pub data Remark : List ℕ → Type 0 where
  empty : Remark []
  more : {b : ℕ} {r : List ℕ} → among (character b) (41 ∷ 58 ∷ 37 ∷ []) ≡ false → Remark r → Remark (b ∷ r)

-- rows outside, neither "(" nor ")", and closed control-outs
pub data WellFormed : List ℕ → Type 0 where
  end : WellFormed []
  row : {b : ℕ} {t : List ℕ} → among (character b) (40 ∷ 41 ∷ []) ≡ false → WellFormed t → WellFormed (b ∷ t)
  remark : {o : ℕ} {r t : List ℕ} (c : ℕ) → character o ≡ 40 → Remark r → character c ≡ 41 → WellFormed t → WellFormed (o ∷ (r ++ (c ∷ t)))
