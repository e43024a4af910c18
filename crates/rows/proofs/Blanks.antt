-- Rows without a character, NUL and DEL: they are passed by wherever they stand, and a tape of them alone passes.
use Prim.Native.Nat.{ℕ, zero, suc, ◌+◌, ◌≤◌}
use mathlib.Core.Path.{◌≡◌, refl, sym, ap, ◌∙◌}
use mathlib.Core.Logic.{◌⊎◌, inl, inr}
use mathlib.Core.Bool.{Bool, true, false}
use mathlib.Core.List.{List, [], ◌∷◌, ◌++◌, append-nil}
use native.Mathlib.Nat.{add-zero, add-suc, suc-add}
use lib.Dec.{T}
use lib.Count.{ones}
use lib.ListN.{length, replicate}
use Rattle.rows.specs.Row.{character, even, characters, among}
use Rattle.rows.specs.Kept.{within, stays, kept_from}
use Rattle.rows.specs.ControlOut.{WellFormed, end, row}
use Rattle.rows.specs.Passes.{Every, Passes}
use Rattle.rows.specs.Stages.{limit}
use Rattle.rows.proofs.Every.{every_map}

-- a row without holes, or with all eight
abbrev pub Blank : ℕ → Type 0
Blank b = (b ≡ 0) ⊎ (b ≡ 255)

-- what holds of NUL and of DEL
either : (P : ℕ → Type 0) → P 0 → P 255 → (b : ℕ) → Blank b → P b
either P p q b (inl e) = rw e p
either P p q b (inr e) = rw e q

-- they are passed by, and a control-out stays open or closed
passed : (w : Bool) (b : ℕ) → Blank b → (stays w (character b) ≡ false) × (within w (character b) ≡ w)
passed true b h = either (λ c. (stays true (character c) ≡ false) × (within true (character c) ≡ true)) (refl, refl) (refl, refl) b h
passed false b h = either (λ c. (stays false (character c) ≡ false) × (within false (character c) ≡ false)) (refl, refl) (refl, refl) b h

-- the kept rows of a tape behind blank ones are those of the tape alone, at their places, inside a control-out or not
pub past-blanks : (w : Bool) (i : ℕ) (z u : List ℕ) → Every Blank z → kept_from w i (z ++ u) ≡ kept_from w (i + length z) u
unfolding kept_from
past-blanks w i [] u h = rw add-zero
past-blanks w i (b ∷ z) u h =
    let p = passed w b h.0 in rw (p.0, p.1, add-suc, ← suc-add) (past-blanks w (suc i) z u h.1)

-- of blank rows none is kept
pub blanks-kept : (w : Bool) (i : ℕ) (z : List ℕ) → Every Blank z → kept_from w i z ≡ []
unfolding kept_from
blanks-kept w i z h = ap (kept_from w i) (sym (append-nil z)) ∙ past-blanks w i z [] h

module _ (z : List ℕ) (h : Every Blank z) where
  -- NUL and DEL have an even number of holes
  pub blanks-even : Every (λ b. T (even b)) z
  unfolding ones
  blanks-even = every_map (either (λ b. T (even b)) tt tt) z h

  -- and are two of the 50 characters
  pub blanks-known : Every (λ b. T (among (character b) characters)) z
  blanks-known = every_map (either (λ b. T (among (character b) characters)) tt tt) z h

-- they open no control-out and close none
pub blanks-formed : (z : List ℕ) → Every Blank z → WellFormed z
blanks-formed [] h = end
blanks-formed (b ∷ z) h = row (either (λ c. among (character c) (40 ∷ 41 ∷ []) ≡ false) refl refl b h.0) (blanks-formed z h.1)

-- within the limit they pass the first three stages
pub blanks-pass : (z : List ℕ) → Every Blank z → length z ≤ limit → Passes z
blanks-pass z h l = record { short = l; even = blanks-even z h; known = blanks-known z h; formed = blanks-formed z h }

-- rows overpunched to DEL are blank
pub dels-blank : (n : ℕ) → Every Blank (replicate n 255)
dels-blank zero = tt
dels-blank (suc n) = (inr refl, dels-blank n)
