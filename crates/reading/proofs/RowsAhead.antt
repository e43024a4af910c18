-- Kept rows by their characters: what stands at the front, and what a parser takes and leaves.
use Prim.Native.Nat.{ℕ, zero, suc, ◌+◌, ◌-◌, ◌*◌, ◌≤◌}
use mathlib.Core.Path.{◌≡◌, refl}
use mathlib.Core.Bool.{Bool, true, false}
use mathlib.Core.List.{List, [], ◌∷◌, ◌++◌}
use native.Mathlib.Nat.{add-zero, add-suc, suc-add}
use native.Mathlib.Omega.{arith}
use lib.ListN.{length}
use lib.Dec.{eqb}
use borrow.Author.Tests.{le-leb, ne_eqb}
use Rattle.rows.specs.Answer.{Answer, taken}
use Rattle.rows.specs.Kept.{KeptRow}
use Rattle.rows.specs.Passes.{Every}
use Rattle.words.specs.Figures.{Behind, fronts, behind, is_digit, digit_next, is_sign, is_figure, figure_next, run}
use Rattle.reading.specs.Relation.{chars}
use Rattle.reading.proofs.DigitRows.{Digit, worth}

-- a test of the character at the front
abbrev pub heads : (ℕ → Bool) → List ℕ → Bool
heads p [] = false
heads p (c ∷ u) = p c

pub fronts-heads : (c : ℕ) (rs : List KeptRow) → fronts c rs ≡ heads (λ d. eqb d c) (chars rs)
fronts-heads c [] = refl
fronts-heads c (r ∷ rs) = refl

pub digit-heads : (rs : List KeptRow) → digit_next rs ≡ heads is_digit (chars rs)
digit-heads [] = refl
digit-heads (r ∷ rs) = refl

pub figure-heads : (rs : List KeptRow) → figure_next rs ≡ heads is_figure (chars rs)
figure-heads [] = refl
figure-heads (r ∷ rs) = refl

pub behind-chars : (c : ℕ) (u : List ℕ) (rs : List KeptRow) → chars rs ≡ c ∷ u → chars (behind rs) ≡ u
behind-chars c u [] e = cc
behind-chars c u (r ∷ rs) e = cc

pub is_digit_lem : (c : ℕ) → Digit c → is_digit c ≡ true
is_digit_lem c h = rw (le-leb 48 c h.0, le-leb c 57 h.1)

pub digit-no-sign : (c : ℕ) → Digit c → is_sign c ≡ false
digit-no-sign c h = rw (ne_eqb c 43 (λ e. omega arith), ne_eqb c 45 (λ e. omega arith))

-- a parser takes a and leaves rows with the characters u
pub record Takes {A : Type 0} (p : Answer (Behind A)) (a : A) (u : List ℕ) : Type 0 where
  pub rest : List KeptRow
  pub takes : p ≡ taken (record { value = a; rest = rest })
  pub leaves : chars rest ≡ u

-- digits at the front, at most n, and no other behind them
pub run-takes : (n v k : ℕ) (ds u : List ℕ) (rs : List KeptRow) → Every Digit ds → length ds ≤ n → chars rs ≡ ds ++ u → heads is_digit u ≡ false
    → (rest : List KeptRow) × (run n v k rs ≡ record { number = worth v ds; count = k + length ds; rest = rest }) × (chars rest ≡ u)
unfolding run
run-takes zero v k [] u rs all few e h = (rs, rw add-zero, e)
run-takes (suc n) v k [] u rs all few e h = (rs, rw (digit-heads rs, e, h, add-zero), e)
run-takes zero v k (d ∷ ds) u rs all few e h = absurd (omega arith)
run-takes (suc n) v k (d ∷ ds) u [] all few e h = let z : ◌≡◌ {A = ℕ} 0 1 = cc in absurd (omega arith)
run-takes (suc n) v k (d ∷ ds) u (r ∷ rs) all few e h =
    let c : r.char ≡ d = cc in
    let q = run-takes n (v * 10 + (d - 48)) (suc k) ds u rs all.1 (omega arith) (cc) h in
    (q.0, rw (c, is_digit_lem d all.0, add-suc, ← (suc-add k (length ds))) q.1, q.2)
