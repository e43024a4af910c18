-- One item to a letter: no letter stands twice among the items of a Format.
use Prim.Native.Nat.{ℕ, zero, suc, ◌<◌}
use native.Mathlib.Nat.{le_of_suc-le-suc, not-suc-le-zero}
use mathlib.Core.Path.{◌≡◌, refl, sym}
use mathlib.Core.Bool.{Bool, true, false, ◌||◌, not}
use mathlib.Core.List.{List, [], ◌∷◌, map}
use lib.Dec.{T, eqb}
use lib.ListN.{length, get_or}
use borrow.Author.Tests.{eqb-false}
use Rattle.rows.specs.Passes.{Every}
use Rattle.rows.proofs.Every.{every-at}
use Rattle.shorthand.specs.declared.Item.{Item}
use Rattle.shorthand.specs.Layout.{blank}
use Rattle.shorthand.specs.Edition.{any_of}
use Rattle.shorthand.specs.Facts.{Fair, none, more}

pub none_other : (x : ℕ) (its : List Item) → T (not (any_of (λ c. eqb c x) (map (λ i. i.letter) its))) → Every (λ i. i.letter ≡ x → ⊥) its
none_other x [] t = tt
none_other x (it ∷ its) t = go (eqb it.letter x) refl t (none_other x its)
  where
    go : (b : Bool) → eqb it.letter x ≡ b → T (not (b || any_of (λ c. eqb c x) (map (λ i. i.letter) its)))
        → (T (not (any_of (λ c. eqb c x) (map (λ i. i.letter) its))) → Every (λ i. i.letter ≡ x → ⊥) its) → Every (λ i. i.letter ≡ x → ⊥) (it ∷ its)
    go true e t rest = absurd t
    go false e t rest = (eqb-false it.letter x e, rest t)

pub letters-apart : {its : List Item} → Fair its → (i j : ℕ) → i < j → j < length its → (get_or its i blank).letter ≡ (get_or its j blank).letter → ⊥
letters-apart none i j l h e = not-suc-le-zero h
letters-apart (more {its = its} letter widths other rest) i zero l h e = not-suc-le-zero l
letters-apart (more {it = it} {its = its} letter widths other rest) zero (suc j) l h e =
    every-at (λ i. i.letter ≡ it.letter → ⊥) its j blank (le_of_suc-le-suc h) (none_other it.letter its other) (sym e)
letters-apart (more letter widths other rest) (suc i) (suc j) l h e = letters-apart rest i j (le_of_suc-le-suc l) (le_of_suc-le-suc h) e
