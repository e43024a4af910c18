-- A refusal answers nothing, so the row refused at the front is the same for a parser of anything.
use Prim.Native.Nat.{ℕ}
use mathlib.Core.Path.{◌≡◌, refl, ap, ◌∙◌}
use mathlib.Core.List.{List, [], ◌∷◌}
use Rattle.rows.specs.declared.refusals.Refusal.{Refusal}
use Rattle.rows.specs.Answer.{refusal, ◌>>◌}
use Rattle.rows.specs.Kept.{KeptRow}
use Rattle.words.specs.declared.Wanted.{Wanted}
use Rattle.words.specs.Figures.{wrong}

module _ (A : Type 0) (r : Refusal) (len : ℕ) (w : Wanted) where
  again : (rs : List KeptRow) → wrong {A = Unit {0}} len w rs >> refusal {A = A} r ≡ wrong len w rs
  again [] = refl
  again (x ∷ rs) = refl

  pub wrong-any : (rs : List KeptRow) → refusal {A = Unit {0}} r ≡ wrong len w rs → refusal {A = A} r ≡ wrong len w rs
  wrong-any rs q = ap (λ a. a >> refusal {A = A} r) q ∙ again rs
