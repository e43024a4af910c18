-- Laws of a run of digits: one step of it, the number that it makes with missing zeros restored, and the bound of that number.
use Prim.Native.Nat.{ℕ, zero, suc, ◌+◌, ◌-◌, ◌*◌, ◌^◌, ◌≤◌, ◌<◌}
use mathlib.Core.Path.{◌≡◌, refl, ◌∙◌, subst}
use mathlib.Core.Bool.{true, false, ◌&&◌, not}
use mathlib.Core.List.{List, [], ◌∷◌}
use native.Mathlib.Nat.{pow-suc, mul_comm, mul-lt-mul_of_pos_right, lt_of_lt_of_le}
use native.Mathlib.Numerals.{add-one}
use native.Mathlib.Omega.{arith}
use borrow.Author.Tests.{le-leb, lt-leb}
use lib.Arith.{digits_lt}
use lib.Dec.{T, leb, leb→le, lit<}
use Rattle.rows.specs.declared.refusals.Refusal.{Refusal}
use Rattle.rows.specs.Answer.{Answer, taken, refused, refusal}
use Rattle.rows.specs.Kept.{KeptRow}
use Rattle.shorthand.specs.declared.Missing.{Missing}
use Rattle.shorthand.specs.declared.Missing.TheVariants.{Nothing, Leading, Trailing}
use Rattle.shorthand.specs.Layout.{fewest}
use Rattle.shorthand.proofs.Tests.{second, by-test}
use Rattle.speeds.proofs.Tens.{ten-positive, ten-grows, ten-split}
use Rattle.words.specs.declared.Wanted.{Wanted}
use Rattle.words.specs.Figures.{Behind, taking, wrong, behind, is_digit, digit_next, front_digit, Run, run, restored, figures}
use Rattle.words.proofs.Wrong.{wrong-any}

-- ---- one step

pub run-stops : (m v k : ℕ) (rs : List KeptRow) → digit_next rs ≡ false → run m v k rs ≡ record { number = v; count = k; rest = rs }
unfolding run
run-stops zero v k rs e = refl
run-stops (suc m) v k rs e = rw e

module _ (most v k : ℕ) where
  pub run-full : (rs : List KeptRow) → most ≤ k → run (most - k) v k rs ≡ record { number = v; count = k; rest = rs }
  unfolding run
  run-full rs h = let none : most - k ≡ zero = omega arith in rw none

  pub run_on : (c p : ℕ) (rs : List KeptRow) → k < most → is_digit c ≡ true
      → run (most - k) v k (record { place = p; char = c } ∷ rs) ≡ run (most - (k + 1)) (v * 10 + (c - 48)) (k + 1) rs
  unfolding run
  run_on c p rs h d = let more : most - k ≡ suc (most - suc k) = omega arith in rw (add-one, more, d)

-- ---- the number is below the power of ten of its digits

pub one_more : (v d k : ℕ) → v < 10 ^ k → d < 10 → v * 10 + d < 10 ^ suc k
one_more v d k h l = rw pow-suc (digits_lt h l)

-- one digit more behind fewer than 18 stays below ten to the 18th
pub one-more-fits : (v d k : ℕ) → v < 10 ^ k → d < 10 → k < 18 → v * 10 + d < 10 ^ 18
one-more-fits v d k h l m = lt_of_lt_of_le (one_more v d k h l) (ten-grows m)

digit-small : (rs : List KeptRow) → T (digit_next rs) → front_digit rs < 10
digit-small [] h = absurd h
digit-small (r ∷ rs) h = let le = leb→le r.char 57 (second (leb 48 r.char) (leb r.char 57) h) in omega arith

pub record Bounded (most : ℕ) (q : Run) : Type 0 where
  pub few : q.count ≤ most
  pub small : q.number < 10 ^ q.count

run-bounded : (n v k most : ℕ) (rs : List KeptRow) → k + n ≤ most → v < 10 ^ k → Bounded most (run n v k rs)
unfolding run
run-bounded zero v k most rs m h = record { few = omega arith; small = h }
run-bounded (suc n) v k most rs m h =
    by-test (Bounded most) (digit_next rs)
    (λ d. run-bounded n (v * 10 + front_digit rs) (suc k) most (behind rs) (omega arith) (one_more v (front_digit rs) k h (digit-small rs d)))
    (λ d. record { few = omega arith; small = h })

pub read-bounded : (n : ℕ) (rs : List KeptRow) (q : Run) → q ≡ run n 0 0 rs → Bounded n q
read-bounded n rs q e = rw e (run-bounded n 0 0 n rs (omega arith) (lit< tt))

pub restored-below : (z : Missing) (n : ℕ) (q : Run) → Bounded n q → restored z n q < 10 ^ n
restored-below Nothing n q b = lt_of_lt_of_le b.small (ten-grows b.few)
restored-below Leading n q b = lt_of_lt_of_le b.small (ten-grows b.few)
restored-below Trailing n q b =
    rw (ten-split b.few, mul_comm (10 ^ (n - q.count)) (10 ^ q.count)) (mul-lt-mul_of_pos_right b.small (ten-positive (n - q.count)))

-- ---- the digits of a number, by the run that was read

-- restoring looks at the number and its digits alone
restored-alone : (z : Missing) (n v k : ℕ) (rs : List KeptRow)
    → restored z n (record { number = v; count = k; rest = [] }) ≡ restored z n (record { number = v; count = k; rest = rs })
restored-alone Nothing n v k rs = refl
restored-alone Leading n v k rs = refl
restored-alone Trailing n v k rs = refl

module _ (len : ℕ) (x : Wanted) (z : Missing) (n : ℕ) (rs : List KeptRow) (q : Run) (e : q ≡ run n 0 0 rs) where
  pub figures-few : (r : Refusal) → refusal {A = Unit {0}} r ≡ wrong len x q.rest → q.count < fewest z n → refusal r ≡ figures len x z n rs
  unfolding figures
  figures-few r w h = rw (← e, lt-leb (fewest z n) q.count h) (wrong-any (Behind ℕ) r len x q.rest w)

  module _ (enough : fewest z n ≤ q.count) where
    pub figures-many : (r : Refusal) → refusal {A = Unit {0}} r ≡ wrong len x q.rest → digit_next q.rest ≡ true → refusal r ≡ figures len x z n rs
    unfolding figures
    figures-many r w d = rw (← e, le-leb (fewest z n) q.count enough, d) (wrong-any (Behind ℕ) r len x q.rest w)

    pub figures-fit : (v : ℕ) → v ≡ restored z n (record { number = q.number; count = q.count; rest = [] }) → digit_next q.rest ≡ false
        → taking v q.rest ≡ figures len x z n rs
    unfolding figures
    figures-fit v p d = rw (← e, le-leb (fewest z n) q.count enough, d, p ∙ restored-alone z n q.number q.count q.rest)

-- a number that is taken is below ten to the nth
abbrev Below : ℕ → Answer (Behind ℕ) → Type 0
Below n (taken b) = b.value < 10 ^ n
Below n (refused m p) = Unit

wrong-below : (n len : ℕ) (x : Wanted) (rs : List KeptRow) → Below n (wrong len x rs)
wrong-below n len x [] = tt
wrong-below n len x (r ∷ rs) = tt

pub figures-below : (len : ℕ) (x : Wanted) (z : Missing) (n : ℕ) (rs : List KeptRow) (v : ℕ) (rest : List KeptRow) → figures len x z n rs ≡ taking v rest → v < 10 ^ n
unfolding figures
figures-below len x z n rs v rest e =
    let q = run n 0 0 rs in
    subst (Below n) e
    (by-test (Below n) (leb (fewest z n) q.count && not (digit_next q.rest)) (λ t. restored-below z n q (read-bounded n rs q refl)) (λ t. wrong-below n len x q.rest))
