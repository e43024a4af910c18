-- What no row of the table refuses is punched: the rows of a record exactly where it fits and they find room, else 16 to 18, or 19 at the rows needed.
use Prim.Native.Nat.{ℕ, ◌≤◌, ◌<◌}
use mathlib.Core.Path.{◌≡◌, refl}
use mathlib.Core.Logic.{◌↔◌, ◌⊎◌, inl, inr}
use mathlib.Core.List.{List}
use native.Mathlib.Omega.{arith}
use lib.Dec.{leb}
use lib.ListN.{length}
use borrow.Author.Tests.{leb-true, leb-false, le-leb}
use Rattle.rows.specs.Answer.{Answer, taken, refused, ◌>>=◌, ◌>>◌}
use Rattle.rows.proofs.Outcomes.{Holds, refusal, value, holds-cond, of-taken, of-refused}
use Rattle.shorthand.specs.declared.Format.{Format}
use Rattle.profile.specs.Answers.{agreed}
use Rattle.reading.specs.declared.Block.{Block}
use Rattle.punching.specs.Rows.{rows_of}
use Rattle.punching.specs.Fits.{Fit, record_fits}
use Rattle.punching.specs.Answers.{room_for, block_for, block_punched}
use Rattle.punching.proofs.Records.{Fault, record-refused}

-- what is punched: the record fits, and its rows, nothing else, find room
pub record Fitted (f : Format) (b : Block) (buffer r : List ℕ) : Type 0 where
  pub fits : record_fits f b ≡ taken tt
  pub rows : r ≡ rows_of f b
  pub room : length (rows_of f b) ≤ length buffer

-- what is refused: a fault of the record, or 19 at the rows needed
abbrev pub Barred : Format → Block → List ℕ → ℕ → ℕ → Type 0
Barred f b buffer n p = Fault f b n p ⊎ ((n ≡ 19) × (p ≡ length (rows_of f b)) × (length buffer < p))

module _ (f : Format) (b : Block) (buffer : List ℕ) where
  room-answers : (a : Fit) → record_fits f b ≡ a → Holds (Barred f b buffer) (Fitted f b buffer) (a >> room_for buffer (rows_of f b))
  room-answers (taken u) e =
      holds-cond (leb (length (rows_of f b)) (length buffer)) (λ t. value (record { fits = e; rows = refl; room = leb-true _ _ t }))
      (λ t. refusal (inr (refl, refl, leb-false _ _ t)))
  room-answers (refused n p) e = refusal (inl (record-refused f b n p e))

  block-answers : Holds (Barred f b buffer) (Fitted f b buffer) (block_for f b buffer)
  unfolding block_for
  block-answers = room-answers (record_fits f b) refl

  pub punched-only : (r : List ℕ) → block_for f b buffer ≡ taken r → Fitted f b buffer r
  punched-only r e = of-taken block-answers e

  pub refused-only : (n p : ℕ) → block_for f b buffer ≡ refused n p → Barred f b buffer n p
  refused-only n p e = of-refused block-answers e

  -- punched exactly where the record fits and its rows find room
  pub punched-exactly : (block_for f b buffer ≡ taken (rows_of f b)) ↔ ((record_fits f b ≡ taken tt) × (length (rows_of f b) ≤ length buffer))
  unfolding block_for
  punched-exactly = (λ e. let p = punched-only (rows_of f b) e in (p.fits, p.room), λ h. rw (h.0, le-leb _ _ h.1))

-- under an edition, a shorthand and a profile
pub record Written (e : ℕ) (s p : List ℕ) (b : Block) (buffer r : List ℕ) : Type 0 where
  pub format : Format
  pub agrees : agreed e s p ≡ taken format
  pub fitted : Fitted format b buffer r

pub block_written : (e : ℕ) (s p : List ℕ) (b : Block) (buffer r : List ℕ) → block_punched e s p b buffer ≡ taken r → Written e s p b buffer r
unfolding block_punched
block_written e s p b buffer r q = go (agreed e s p) refl q
  where
    go : (a : Answer Format) → agreed e s p ≡ a → (a >>= λ f. block_for f b buffer) ≡ taken r → Written e s p b buffer r
    go (taken f) k h = record { format = f; agrees = k; fitted = punched-only f b buffer r h }
    go (refused n k) i h = let z : ◌≡◌ {A = ℕ} 0 1 = cc in absurd (omega arith)
