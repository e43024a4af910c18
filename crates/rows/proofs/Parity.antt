-- The parity half of demand 3: rows with an odd number of holes changed are refused 5 at the first of them.
use mathlib.Core.Path.{◌≡◌, refl, ap, ◌∙◌}
use mathlib.Core.Logic.{◌⊎◌, inl, inr, ⊎_elim}
use mathlib.Core.Bool.{Bool, true, false}
use mathlib.Core.List.{List}
use Prim.Native.Nat.{ℕ, zero, suc, ◌+◌, ◌/◌, ◌%◌, ◌≤◌, ◌<◌}
use native.Mathlib.Nat.{mod-lt, not-suc-le-zero}
use native.Mathlib.Numerals.{add-one}
use native.Mathlib.Omega.{arith}
use lib.Arith.{bin_ind}
use lib.Bits.{bit_xor, differ, xor_step, xor_zero_l, xor_self}
use lib.Count.{ones, ones_step, ones_cat}
use lib.Dec.{T, eqb, eqb→eq, lit<}
use lib.ListN.{length, get_or}
use borrow.Author.Count.{below_more}
use borrow.Author.Tests.{le-ltb}
use Rattle.rows.specs.Answer.{refused}
use Rattle.rows.specs.Row.{even, entry}
use Rattle.rows.specs.Stages.{limit, judged, barred}
use Rattle.rows.specs.Passes.{Every, Changed, Damaged, First}
use Rattle.std.specs.Prelude.{Some}
use Rattle.rows.proofs.Lowest.{lowest-first}
use Rattle.rows.proofs.Every.{every-at}
use Rattle.rows.proofs.Entry.{even-entry}

-- two digits differ in as many holes as they have, but for a pair
digits : (x y : ℕ) → x < 2 → y < 2 → ones (differ x y) % 2 ≡ (x + y) % 2
unfolding ones
digits zero zero p q = refl
digits zero (suc zero) p q = refl
digits (suc zero) zero p q = refl
digits (suc zero) (suc zero) p q = refl
digits zero (suc (suc y)) p q = absurd (omega arith)
digits (suc zero) (suc (suc y)) p q = absurd (omega arith)
digits (suc (suc x)) y p q = absurd (omega arith)

differ-lt : (x y : ℕ) → x < 2 → y < 2 → differ x y < 2
differ-lt zero y p q = q
differ-lt (suc zero) zero p q = p
differ-lt (suc zero) (suc zero) p q = lit< tt
differ-lt (suc zero) (suc (suc y)) p q = absurd (omega arith)
differ-lt (suc (suc x)) y p q = absurd (omega arith)

none : (b : ℕ) → ones (bit_xor 0 b) % 2 ≡ (ones 0 + ones b) % 2
unfolding ones
none b = rw (xor_zero_l b) (omega arith)

parities : (r d u v x y : ℕ) → r % 2 ≡ (u + v) % 2 → d % 2 ≡ (x + y) % 2 → (r + d) % 2 ≡ (x + u + (y + v)) % 2
parities r d u v x y p q = omega arith

-- the exclusive or has an odd count of ones exactly where one of the two has
pub xor-parity : (a b : ℕ) → ones (bit_xor a b) % 2 ≡ (ones a + ones b) % 2
xor-parity =
    bin_ind (λ (a : ℕ). (b : ℕ) → ones (bit_xor a b) % 2 ≡ (ones a + ones b) % 2) none
    (λ a ih b.
    let lx : a % 2 < 2 = mod-lt a (lit< tt) in
    let ly : b % 2 < 2 = mod-lt b (lit< tt) in
    let cat : ones (bit_xor a b) ≡ ones (bit_xor (a / 2) (b / 2)) + ones (differ (a % 2) (b % 2)) =
    ap ones (xor_step a b) ∙ ones_cat 1 (bit_xor (a / 2) (b / 2)) (differ (a % 2) (b % 2)) (differ-lt (a % 2) (b % 2) lx ly) in
    rw (cat, ones_step a, ones_step b) (parities _ _ _ _ _ _ (ih (b / 2)) (digits (a % 2) (b % 2) lx ly)))

-- an even row with an odd number of holes changed is odd
changed-odd : (a b : ℕ) → T (even a) → Changed a b → T (even b) → ⊥
changed-odd a b ea h eb =
    let p = xor-parity a b in
    let x : ones a % 2 ≡ 0 = eqb→eq _ _ ea in
    let y : ones b % 2 ≡ 0 = eqb→eq _ _ eb in
    omega arith

odd-entry : (b : ℕ) → (T (even b) → ⊥) → eqb (entry b) 133 ≡ true
odd-entry b h = go (eqb (entry b) 133) refl
  where
    go : (x : Bool) → eqb (entry b) 133 ≡ x → x ≡ true
    go true q = refl
    go false q = absurd (h ((even-entry b).0 q))

module _ (s t : List ℕ) (all : Every (λ b. T (even b)) s) (d : Damaged s t) where
  even-at : (k : ℕ) → k < length s → T (even (get_or s k 0))
  even-at k h = every-at (λ b. T (even b)) s k 0 h all

  -- damage is refused 5 at the first changed row
  pub damaged : length s ≤ limit → (k : ℕ) → First s t k → judged t ≡ refused 5 k
  unfolding judged
  damaged h k f =
      let same = d.length_kept in
      let first : barred 5 0 t ≡ Some k =
      lowest-first (λ b. eqb (entry b) 133) t k (omega (arith, f.within)) (odd-entry _ (changed-odd _ _ (even-at k f.within) f.changed))
      (λ j g. rw (f.before j g) ((even-entry _).1 (even-at j (omega (arith, f.within))))) in
      rw (le-ltb limit (length t) (omega arith), first)

  unchanged : (a : ℕ) → Changed a a → ⊥
  unfolding ones
  unchanged a h = let e : ones (bit_xor a a) % 2 ≡ 0 = rw xor_self in omega arith

  -- of the rows below n none is changed, or there is a first
  search-first : (n : ℕ) → n ≤ length s → ((i : ℕ) → i < n → get_or t i 0 ≡ get_or s i 0) ⊎ ((k : ℕ) × First s t k)
  search-first zero h = inl (λ i g. absurd (not-suc-le-zero g))
  search-first (suc n) h = ⊎_elim (λ same. ⊎_elim (λ e. inl (more same e)) (λ c. inr (n, record { within = h; changed = c; before = same })) (d.rows n h)) inr (search-first n (omega arith))
    where
      more : ((i : ℕ) → i < n → get_or t i 0 ≡ get_or s i 0) → get_or t n 0 ≡ get_or s n 0 → (i : ℕ) → i < suc n → get_or t i 0 ≡ get_or s i 0
      more same e = rw add-one at (below_more (λ i. get_or t i 0 ≡ get_or s i 0) n same e)

  -- where some row is changed there is a first
  pub some_first : (i : ℕ) → i < length s → Changed (get_or s i 0) (get_or t i 0) → (k : ℕ) × First s t k
  some_first i h c =
      ⊎_elim (λ same. absurd (unchanged (get_or s i 0) (rw (same i (omega arith)) at c))) (λ f. f) (search-first (suc i) h)
