-- Laws of what holds of every element of a list.
use mathlib.Core.List.{List, [], ◌∷◌, ◌++◌}
use Prim.Native.Nat.{ℕ, zero, suc, ◌<◌}
use native.Mathlib.Nat.{le_of_suc-le-suc, not-suc-le-zero}
use lib.ListN.{length, get_or}
use Rattle.rows.specs.Passes.{Every}

module _ {A : Type 0} where
  pub every_map : {P Q : A → Type 0} → ((a : A) → P a → Q a) → (xs : List A) → Every P xs → Every Q xs
  every_map f [] all = tt
  every_map f (x ∷ xs) all = (f x all.0, every_map f xs all.1)

  pub every-at : (P : A → Type 0) (xs : List A) (k : ℕ) (d : A) → k < length xs → Every P xs → P (get_or xs k d)
  every-at P [] k d h all = absurd (not-suc-le-zero h)
  every-at P (x ∷ xs) zero d h all = all.0
  every-at P (x ∷ xs) (suc k) d h all = every-at P xs k d (le_of_suc-le-suc h) all.1

  pub every-both : (P Q : A → Type 0) (xs : List A) → Every P xs → Every Q xs → Every (λ a. P a × Q a) xs
  every-both P Q [] p q = tt
  every-both P Q (x ∷ xs) p q = ((p.0, q.0), every-both P Q xs p.1 q.1)

  pub every_append : (P : A → Type 0) (xs ys : List A) → Every P xs → Every P ys → Every P (xs ++ ys)
  every_append P [] ys p q = q
  every_append P (x ∷ xs) ys p q = (p.0, every_append P xs ys p.1 q)

  pub every_front : (P : A → Type 0) (xs ys : List A) → Every P (xs ++ ys) → Every P xs
  every_front P [] ys q = tt
  every_front P (x ∷ xs) ys q = (q.0, every_front P xs ys q.1)

  pub every_back : (P : A → Type 0) (xs ys : List A) → Every P (xs ++ ys) → Every P ys
  every_back P [] ys q = q
  every_back P (x ∷ xs) ys q = every_back P xs ys q.1
