-- Rows of a tape that ends too soon are no program's.
use Prim.Native.Nat.{ℕ, ◌<◌}
use mathlib.Core.Path.{◌≡◌, sym, ap, ◌∙◌}
use mathlib.Core.List.{List, [], ◌∷◌, ◌++◌, append_assoc}
use native.Mathlib.Omega.{arith}
use lib.ListN.{length, length-append}
use Rattle.shorthand.specs.declared.Format.{Format}
use Rattle.reading.specs.declared.Block.{Block}
use Rattle.reading.specs.Relation.{End, lf, cr_lf, Program}
use Rattle.places.specs.Faults.{Cut, in_head, in_block}
use Rattle.places.proofs.Behind.{behind-none}
use Rattle.places.proofs.Stems.{program-lf}
use Rattle.places.proofs.Splits.{Split, same, sooner, later, compare}

-- the LF that ends a program's rows is not in the rest of a head
short-head : (y o w : List ℕ) → 0 < length o → ((u : List ℕ) → w ≡ y ++ (10 ∷ u) → ⊥) → y ++ (10 ∷ o) ≡ w ++ (10 ∷ []) → ⊥
short-head y o w some far e = go (compare y w 10 o 10 [] e)
  where
    go : Split y w 10 o 10 [] → ⊥
    go (same a b c) = let z = ap length c in omega arith
    go (sooner u a b) = far u a
    go (later u a b) = let z = ap length b in omega (arith, length-append u (10 ∷ o))

pub cut-none : {f : Format} {bs : List Block} {n : ℕ} {x : List ℕ} → Cut f n x → Program f bs x → ⊥
cut-none (in_head o end e some) p = let q = program-lf p in go q.0 end (sym (append_assoc q.0 (10 ∷ []) o) ∙ ap (λ l. l ++ o) (sym q.1) ∙ e)
  where
    go : (y : List ℕ) {e : List ℕ} → End e → y ++ (10 ∷ o) ≡ 37 ∷ e → ⊥
    go y lf h = short-head y o (37 ∷ []) some (λ u k. behind-none 10 (λ z. ⊥) (37 ∷ []) ((λ i. omega arith), tt) y u k) h
    go y cr_lf h = short-head y o (37 ∷ 13 ∷ []) some (λ u k. behind-none 10 (λ z. ⊥) (37 ∷ 13 ∷ []) ((λ i. omega arith), ((λ i. omega arith), tt)) y u k) h
cut-none (in_block s q some nay) p = nay _ p
