-- The digits of a refused speed and what stands behind them leave one number and one place.
use Prim.Native.Nat.{ℕ, zero, suc, ◌≤◌, ◌<◌}
use mathlib.Core.Path.{◌≡◌, refl, sym, ap, ◌∙◌}
use mathlib.Core.Logic.{◌⊎◌, inl, inr}
use mathlib.Core.Bool.{Bool, true, false, false≢true}
use mathlib.Core.List.{List, [], ◌∷◌, ◌++◌}
use native.Mathlib.Omega.{arith}
use lib.ListN.{length}
use Rattle.rows.specs.Kept.{KeptRow}
use Rattle.rows.specs.Passes.{Every}
use Rattle.reading.specs.Relation.{chars}
use Rattle.words.specs.Figures.{is_digit, digit_next}
use Rattle.reading.proofs.RowsAhead.{is_digit_lem}
use Rattle.places.specs.Begins.{Digit}
use Rattle.places.proofs.DigitLists.{digit-is}

-- ---- the digits of a speed, and what stands behind them

-- 13, at the place a of the word's first row, behind all digits and no further one; 11 at another row before there are enough, or at a digit too many; 14 where the tape ends
pub data Run (len k a : ℕ) (ds rest : List KeptRow) : ℕ → ℕ → Type 0 where
  whole : length ds ≡ k → digit_next rest ≡ false → Run len k a ds rest 13 a
  few : (r : KeptRow) (o : List KeptRow) → rest ≡ r ∷ o → length ds < k → (Digit r.char → ⊥) → Run len k a ds rest 11 r.place
  many : (r : KeptRow) (o : List KeptRow) → rest ≡ r ∷ o → length ds ≡ k → Digit r.char → Run len k a ds rest 11 r.place
  out : rest ≡ [] → length ds < k → Run len k a ds rest 14 len

module _ {rest : List KeptRow} where
  pub not-next : (r : KeptRow) (a : List KeptRow) → rest ≡ r ∷ a → (Digit r.char → ⊥) → digit_next rest ≡ false
  not-next r a e n = ap digit_next e ∙ go (is_digit r.char) refl
    where
      go : (b : Bool) → is_digit r.char ≡ b → b ≡ false
      go true h = absurd (n (digit-is r.char h))
      go false h = refl

  next-digit : (r : KeptRow) (a : List KeptRow) → rest ≡ r ∷ a → Digit r.char → digit_next rest ≡ false → ⊥
  next-digit r a e d h = false≢true (sym h ∙ ap digit_next e ∙ is_digit_lem r.char d)

  first-same : (r s : KeptRow) (a b : List KeptRow) → rest ≡ r ∷ a → rest ≡ s ∷ b → r ≡ s
  first-same r s a b e h = cc

module _ {len k a : ℕ} {ds rest : List KeptRow} where
  pub run-stop : {n p : ℕ} → Run len k a ds rest n p → (length ds ≡ k) ⊎ (digit_next rest ≡ false)
  run-stop (whole e h) = inl e
  run-stop (few r a e h n) = inr (not-next r a e n)
  run-stop (many r a e h d) = inl h
  run-stop (out e h) = inr (ap digit_next e)

  pub run-one : {n m p q : ℕ} → Run len k a ds rest n p → Run len k a ds rest m q → (n ≡ m) × (p ≡ q)
  run-one (whole e h) (whole g i) = (refl, refl)
  run-one (whole e h) (few r a g i n) = absurd (omega arith)
  run-one (whole e h) (many r a g i d) = absurd (next-digit r a g d h)
  run-one (whole e h) (out g i) = absurd (omega arith)
  run-one (few r a e h n) (whole g i) = absurd (omega arith)
  run-one (few r a e h n) (few s b g i o) = (refl, ap (λ x. x.place) (first-same r s a b e g))
  run-one (few r a e h n) (many s b g i d) = absurd (omega arith)
  run-one (few r a e h n) (out g i) = let z = ap length (sym e ∙ g) in absurd (omega arith)
  run-one (many r a e h d) (whole g i) = absurd (next-digit r a e d i)
  run-one (many r a e h d) (few s b g i o) = absurd (omega arith)
  run-one (many r a e h d) (many s b g i c) = (refl, ap (λ x. x.place) (first-same r s a b e g))
  run-one (many r a e h d) (out g i) = absurd (omega arith)
  run-one (out e h) (whole g i) = absurd (omega arith)
  run-one (out e h) (few s b g i o) = let z = ap length (sym e ∙ g) in absurd (omega arith)
  run-one (out e h) (many s b g i c) = absurd (omega arith)
  run-one (out e h) (out g i) = (refl, refl)

-- digits that go on as long as they may are the same ones
pub same-run : (k : ℕ) (ds es rest more : List KeptRow) → ds ++ rest ≡ es ++ more → Every Digit (chars ds) → Every Digit (chars es) → length ds ≤ k → length es ≤ k
    → (length ds ≡ k) ⊎ (digit_next rest ≡ false) → (length es ≡ k) ⊎ (digit_next more ≡ false) → (ds ≡ es) × (rest ≡ more)
same-run k [] [] rest more e p q h i s t = (refl, e)
same-run k [] (d ∷ es) rest more e p q h i (inl s) t = absurd (omega arith)
same-run k [] (d ∷ es) rest more e p q h i (inr s) t = absurd (false≢true (sym s ∙ ap digit_next e ∙ is_digit_lem d.char q.0))
same-run k (d ∷ ds) [] rest more e p q h i s (inl t) = absurd (omega arith)
same-run k (d ∷ ds) [] rest more e p q h i s (inr t) = absurd (false≢true (sym t ∙ ap digit_next (sym e) ∙ is_digit_lem d.char p.0))
same-run zero (d ∷ ds) (x ∷ es) rest more e p q h i s t = absurd (omega arith)
same-run (suc k) (d ∷ ds) (x ∷ es) rest more e p q h i s t =
    let o : d ≡ x = cc in
    let n : ds ++ rest ≡ es ++ more = cc in
    let w = same-run k ds es rest more n p.1 q.1 (omega arith) (omega arith) (less (length ds) s) (less (length es) t) in
    (ap (λ z. z ∷ ds) o ∙ ap (λ z. x ∷ z) w.0, w.1)
  where
    less : {b : Bool} (j : ℕ) → (suc j ≡ suc k) ⊎ (b ≡ false) → (j ≡ k) ⊎ (b ≡ false)
    less j (inl e) = inl (omega arith)
    less j (inr e) = inr e
