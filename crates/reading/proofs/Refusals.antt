-- Every refusal of the fourth stage is one of its table: 8 to 14, at a kept row or at the tape's length.
use Prim.Native.Nat.{ℕ, ◌≤◌, ◌<◌, ◌^◌}
use mathlib.Core.Path.{◌≡◌, refl}
use mathlib.Core.Logic.{◌⊎◌, inl, inr, ⊎_elim}
use mathlib.Core.List.{List, [], ◌∷◌, map, Memᴰ}
use native.Mathlib.Omega.{arith}
use lib.Dec.{lit≤}
use Rattle.rows.specs.Answer.{refused}
use Rattle.rows.specs.Kept.{KeptRow}
use Rattle.rows.specs.Passes.{Every}
use Rattle.rows.proofs.Outcomes.{Holds, refusal, value, of-refused}
use Rattle.speeds.specs.Meaning.{speed_for}
use Rattle.speeds.proofs.Answers.{code-judged}
use Rattle.shorthand.specs.declared.Kind.{Kind}
use Rattle.shorthand.specs.declared.Kind.TheVariants.{Plain}
use Rattle.shorthand.specs.declared.Item.{Item}
use Rattle.shorthand.specs.declared.Format.{Format}
use Rattle.shorthand.specs.Facts.{Widths, Fair, none, more, Facts}
use Rattle.reading.specs.Parse.{block_at}
use Rattle.reading.specs.Answers.{program_at}
use Rattle.reading.proofs.Outcomes.{Table, Placed, no_row, next_row}
use Rattle.reading.proofs.ReadData.{Sayable}
use Rattle.reading.proofs.ReadBlocks.{block_read, program-read}

-- ---- the table

-- the place of one of the rows
abbrev pub AtRow : List KeptRow → ℕ → Type 0
AtRow rs p = Memᴰ p (map (λ r. r.place) rs)

-- the number and place of a refusal: 8 to 13 at a kept row, and 8 or 14 at the length of a tape that ends too soon
pub data Listed (len : ℕ) (rs : List KeptRow) : ℕ → ℕ → Type 0 where
  at_row : {n p : ℕ} → 8 ≤ n → n ≤ 13 → AtRow rs p → Listed len rs n p
  no_head : Listed len rs 8 len
  cut : Listed len rs 14 len

module _ {len : ℕ} {rs : List KeptRow} where
  pub listed-number : {n p : ℕ} → Listed len rs n p → (8 ≤ n) × (n ≤ 14)
  listed-number (at_row l h a) = (l, omega arith)
  listed-number no_head = (lit≤ tt, lit≤ tt)
  listed-number cut = (lit≤ tt, lit≤ tt)

  pub listed-place : {n p : ℕ} → Listed len rs n p → (p ≡ len) ⊎ AtRow rs p
  listed-place (at_row l h a) = inr a
  listed-place no_head = inl refl
  listed-place cut = inl refl

-- ---- every refusal is in it

-- a code of a speed item is refused only by 13
speed-sayable : {Q : ℕ → Type 0} (k c : ℕ) → Widths (Kind.Speed k) → c < 10 ^ k → Q 13 → Holds (λ n p. Q n) (λ v. Unit {0}) (speed_for k c)
speed-sayable k c w fits q = ⊎_elim (λ s. rw s.1 (value tt)) (λ e. rw e (refusal q)) (code-judged k c w.0 w.1 fits)

module _ (len : ℕ) (rs : List KeptRow) where
  kind-sayable : (k : Kind) → Widths k → Sayable (Listed len rs) (AtRow rs) k
  kind-sayable (Plain n) w = tt
  kind-sayable (Kind.Speed k) w = λ c a h p. speed-sayable {Q = λ n. Listed len rs n a} k c w h (at_row (lit≤ tt) (lit≤ tt) p)
  kind-sayable (Kind.Dimension d) w = tt

  fair-sayable : {its : List Item} → Fair its → Every (λ it. Sayable (Listed len rs) (AtRow rs) it.kind) its
  fair-sayable none = tt
  fair-sayable (more {it = it} a w b h) = (kind-sayable it.kind w, fair-sayable h)

own_rows : {P : ℕ → Type 0} (rs : List KeptRow) → ((p : ℕ) → AtRow rs p → P p) → Placed P rs
own_rows [] f = no_row
own_rows (r ∷ rs) f = next_row (f r.place (Memᴰ.head refl)) (own_rows rs (λ p m. f p (Memᴰ.tail m)))

table : (len : ℕ) (rs : List KeptRow) → Table (Listed len rs) (AtRow rs) len
table len rs = record { at_row = λ m l h q a. at_row l h a; no_head = no_head; cut = cut }

pub refusals : (f : Format) → Facts f → (len : ℕ) (rs : List KeptRow) (n p : ℕ) → program_at len f rs ≡ refused n p → Listed len rs n p
refusals f facts len rs n p e =
    of-refused (program-read (table len rs) f (fair-sayable len rs facts.fair) rs (own_rows rs (λ q m. m))) e

-- and so is every refusal of a single block
pub block-refusals : (f : Format) → Facts f → (len : ℕ) (rs : List KeptRow) (n p : ℕ) → block_at len f rs ≡ refused n p → Listed len rs n p
block-refusals f facts len rs n p e = of-refused (block_read (table len rs) f (fair-sayable len rs facts.fair) rs (own_rows rs (λ q m. m))) e
