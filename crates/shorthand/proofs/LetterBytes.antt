-- Rules of every byte as a letter, each by one test that antt computes.
use Prim.Native.Nat.{ℕ, ◌+◌, ◌-◌, ◌≤◌, ◌<◌}
use mathlib.Core.Path.{◌≡◌, refl, sym, ◌∙◌, ap}
use mathlib.Core.Logic.{◌⊎◌, ⊎_elim}
use mathlib.Core.Bool.{true, false, ◌&&◌, ◌||◌, not, cond}
use native.Mathlib.Omega.{arith}
use lib.ListN.{get_or}
use lib.Dec.{eqb, ltb}
use borrow.Author.Tests.{ne_eqb}
use Rattle.shorthand.specs.declared.Order.{Order}
use Rattle.shorthand.specs.Edition.{any_of}
use Rattle.shorthand.specs.Lawful.{digit_in, axes}
use Rattle.shorthand.specs.Order.{rank, used, due_as_dimension}
use Rattle.rows.proofs.Tabulated.{tab, tab-at}

pub same-below : {A : Type 0} (f g : ℕ → A) (n : ℕ) → tab f 0 n ≡ tab g 0 n → {k : ℕ} → k < n → f k ≡ g k
same-below f g n e {k} h = sym (tab-at f n k (f 0) h) ∙ ap (λ l. get_or l k (f 0)) e ∙ tab-at g n k (f 0) h

pub rank-outside : {c : ℕ} → c < 256 → digit_in 65 90 c ≡ false → rank c ≡ 0
unfolding rank
rank-outside {c} h e = rw e at (same-below (λ k. cond (digit_in 65 90 k) 0 (rank k)) (λ k. 0) 256 refl h)

-- the dimensions have ranks 2 to 18
axis-ranks : {c : ℕ} → c < 256 → any_of (λ d. eqb d c) axes ≡ digit_in 2 18 (rank c)
unfolding rank
axis-ranks h = same-below (λ k. any_of (λ d. eqb d k) axes) (λ k. digit_in 2 18 (rank k)) 256 refl h

pub due-by-rank : (o : Order) {c : ℕ} → c < 256 → due_as_dimension o c ≡ digit_in 2 18 (rank c) && ltb o.last (rank c) && not (used o c)
due-by-rank o h = rw (axis-ranks h)

-- ---- the letters of feeds

pub feed-is : {c : ℕ} → 68 ≤ c → c ≤ 70 → eqb c 70 || eqb c 69 || eqb c 68 ≡ true
feed-is {c} l h =
    let k : 68 + (c - 68) ≡ c = omega arith in
    rw k at (same-below (λ n. eqb (68 + n) 70 || eqb (68 + n) 69 || eqb (68 + n) 68) (λ n. true) 3 refl {k = c - 68} (omega arith))

pub feed-not : {c : ℕ} → (c < 68) ⊎ (70 < c) → eqb c 70 || eqb c 69 || eqb c 68 ≡ false
feed-not {c} h =
    ⊎_elim (λ l. rw (ne_eqb c 70 (λ e. omega arith), ne_eqb c 69 (λ e. omega arith), ne_eqb c 68 (λ e. omega arith)))
    (λ l. rw (ne_eqb c 70 (λ e. omega arith), ne_eqb c 69 (λ e. omega arith), ne_eqb c 68 (λ e. omega arith))) h
