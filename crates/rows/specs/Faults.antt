-- The refusals of the first three stages as a relation on rows, without a scanner (document 01, refusals 4 to 7).
use Rattle.std.specs.Prelude.{ℕ, suc, ◌+◌, ◌≤◌, ◌<◌, ◌≡◌, Bool, true, false, ◌||◌, List, ◌∷◌, ◌++◌, length, get_or, eqb}
use Rattle.rows.specs.Row.{character, even, characters, among}
use Rattle.rows.specs.Stages.{limit}
use Rattle.rows.specs.Passes.{Every}

-- "("
abbrev pub opens : ℕ → Bool
opens b = eqb (character b) 40

-- ")"
abbrev pub closes : ℕ → Bool
closes b = eqb (character b) 41

-- ":" or "%"
abbrev pub spoils : ℕ → Bool
spoils b = eqb (character b) 58 || eqb (character b) 37

-- rows among which no ")" stands
abbrev pub Open : List ℕ → Type 0
Open r = Every (λ b. closes b ≡ false) r

-- row p of rows that begin outside is at fault: ")" outside, "(" never closed, or ":" or "%" inside a closed control-out
pub data Fault : List ℕ → ℕ → Type 0 where
  stray : {c : ℕ} {t : List ℕ} → closes c ≡ true → Fault (c ∷ t) 0
  unclosed : {o : ℕ} {r : List ℕ} → opens o ≡ true → Open r → Fault (o ∷ r) 0
  inside : {o : ℕ} (r : List ℕ) (b : ℕ) (s : List ℕ) (c : ℕ) (t : List ℕ) → opens o ≡ true → Open r → spoils b ≡ true → Open s → closes c ≡ true → Fault (o ∷ (r ++ (b ∷ (s ++ (c ∷ t))))) (suc (length r))
  -- or it is so behind a row outside or a closed control-out
  behind_row : {b p : ℕ} {t : List ℕ} → opens b ≡ false → Fault t p → Fault (b ∷ t) (suc p)
  behind_remark : {o p : ℕ} (r : List ℕ) (c : ℕ) {t : List ℕ} → opens o ≡ true → Open r → closes c ≡ true → Fault t p → Fault (o ∷ (r ++ (c ∷ t))) (suc (length r + suc p))

-- a row with an odd number of holes
abbrev pub Odd : List ℕ → ℕ → Type 0
Odd t p = (p < length t) × (even (get_or t p 0) ≡ false)

-- a row that is not one of the 50
abbrev pub Foreign : List ℕ → ℕ → Type 0
Foreign t p = (p < length t) × (among (character (get_or t p 0)) characters ≡ false)

-- the lowest of some rows
pub record Lowest (P : ℕ → Type 0) (p : ℕ) : Type 0 where
  pub is : P p
  pub least : (q : ℕ) → P q → p ≤ q

abbrev pub None : (ℕ → Type 0) → Type 0
None P = (p : ℕ) → P p → ⊥

-- 4, 5, 6 and 7 with their places; each where nothing calls for the one before it
pub data RowRefusal (t : List ℕ) : ℕ → ℕ → Type 0 where
  long : limit < length t → RowRefusal t 4 limit
  odd : {p : ℕ} → length t ≤ limit → Lowest (Odd t) p → RowRefusal t 5 p
  foreign : {p : ℕ} → length t ≤ limit → None (Odd t) → Lowest (Foreign t) p → RowRefusal t 6 p
  fault : {p : ℕ} → length t ≤ limit → None (Odd t) → None (Foreign t) → Lowest (Fault t) p → RowRefusal t 7 p
