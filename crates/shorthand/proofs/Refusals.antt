-- Every refusal is one of the table's: 1 at 0, else 2 or 3 at a place of the text or at its length.
use Prim.Native.Nat.{ℕ, ◌≤◌}
use native.Mathlib.Omega.{arith}
use mathlib.Core.Path.{◌≡◌, refl}
use mathlib.Core.Logic.{◌⊎◌, inl, inr}
use mathlib.Core.List.{List}
use lib.ListN.{length}
use Rattle.rows.specs.Answer.{refused}
use Rattle.shorthand.specs.declared.Edition.{Edition}
use Rattle.shorthand.specs.Parse.{parsed}
use Rattle.shorthand.specs.Mending.{Misspelt, out_of_form, beyond_edition, behind_star, lacking, Spelling, unknown, known}
use Rattle.shorthand.proofs.Mended.{spelling-exactly}

misspelt-row : {e : Edition} {t : List ℕ} {m p : ℕ} → Misspelt e t m p → ((m ≡ 2) ⊎ (m ≡ 3)) × (p ≤ length t)
misspelt-row (out_of_form l b n k) = (inl refl, omega (arith, l))
misspelt-row (beyond_edition l b n k) = (inr refl, omega (arith, l))
misspelt-row (behind_star l s) = (inl refl, omega (arith, l))
misspelt-row (lacking n u s) = (inl refl, omega arith)

pub spelling-row : {n : ℕ} {t : List ℕ} {m p : ℕ} → Spelling n t m p → ((m ≡ 1) × (p ≡ 0)) ⊎ (((m ≡ 2) ⊎ (m ≡ 3)) × (p ≤ length t))
spelling-row (unknown h) = inl (refl, refl)
spelling-row (known e q s) = inr (misspelt-row s)

pub refusals : (n : ℕ) (t : List ℕ) (m p : ℕ) → parsed n t ≡ refused m p → ((m ≡ 1) × (p ≡ 0)) ⊎ (((m ≡ 2) ⊎ (m ≡ 3)) × (p ≤ length t))
refusals n t m p q = spelling-row ((spelling-exactly n t m p).0 q)
