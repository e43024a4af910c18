-- Tapes whose control-outs hold no LF row (document 02, 9/12).
use Rattle.std.specs.Prelude.{ℕ, ◌≡◌, false, List, [], ◌∷◌, ◌++◌}
use Rattle.rows.specs.Row.{character, among}
use Rattle.rows.specs.ControlOut.{Remark}
use Rattle.rows.specs.Passes.{Every}
use Rattle.salvage.specs.Pieces.{is_lf}

-- as `WellFormed`, and no LF row stands in a control-out
pub data Clear : List ℕ → Type 0 where
  end : Clear []
  row : {b : ℕ} {t : List ℕ} → among (character b) (40 ∷ 41 ∷ []) ≡ false → Clear t → Clear (b ∷ t)
  remark : {o : ℕ} {r t : List ℕ} (c : ℕ) → character o ≡ 40 → Remark r → Every (λ b. is_lf b ≡ false) r → character c ≡ 41 → Clear t → Clear (o ∷ (r ++ (c ∷ t)))
