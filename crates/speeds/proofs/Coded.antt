-- A code and the speed that it means, by magic three digit by digit: what reading a code and coding a speed have in common.
use Prim.Native.Nat.{ℕ, ◌+◌, ◌-◌, ◌*◌, ◌/◌, ◌%◌, ◌^◌, ◌≤◌, ◌<◌}
use mathlib.Core.Path.{◌≡◌, refl, sym, ap, ◌∙◌, subst}
use mathlib.Core.Logic.{⊎_elim}
use mathlib.Core.Bool.{Bool, true, false, cond}
use borrow.Author.Tests.{eqb-true, eqb-false}
use native.Mathlib.Nat.{pow-succ', mul-le-mul_right, mul-lt-mul_of_pos_right, lt_of_mul-lt-mul_right, le_of_mul-le-mul_right, mul-div_cancel, mod-lt, div-add-mod', div-lt_iff_lt-mul}
use native.Mathlib.Omega.{arith}
use lib.Dec.{eqb, lit<}
use lib.Arith.{digits_div, digits_mod, digits_lt}
use lib.Pow.{pow-add}
use Rattle.rows.specs.Answer.{taken}
use Rattle.speeds.specs.Meaning.{meaning, speed_for}
use Rattle.speeds.specs.Rounding.{Significant, past, rounded}
use Rattle.speeds.specs.Coding.{written, code_for}
use Rattle.speeds.specs.Preferred.{rate_of, stop_code, rapid_code, preferred_speed}
use Rattle.speeds.specs.declared.Speed.{Speed}
use Rattle.speeds.specs.declared.Speed.TheVariants.{Stop, Rapid, Rate}
use Rattle.speeds.proofs.Tens.{ten-positive, ten-grows, ten-below}
use Rattle.speeds.proofs.Past.{past-law, past_is, past-over}
use Rattle.speeds.proofs.Answers.{speed-taken, speed-zeros, speed-preferred, code-taken, code-zeros, rate-taken, code-preferred, system, read_length, read_short, magic-read, preferred-read, code-length, Within, magic-given}
use Rattle.speeds.proofs.PreferredRates.{rate-least, rate-most, nearest-again}
use Rattle.speeds.proofs.Rounded.{multiple, rounded-same, rounded-zero, rounded-significant}

-- a code c that is not all zeros: its first digit d, and the other k - 1 as the number m, whose own first is not zero
pub record Figures (k c v : ℕ) : Type 0 where
  pub d : ℕ
  pub m : ℕ
  pub digit : d < 10
  pub high : 10 ^ (k - 2) ≤ m
  pub low : m < 10 ^ (k - 1)
  pub code : c ≡ d * 10 ^ (k - 1) + m
  pub speed : v ≡ m * 10 ^ (d + 5 - k)

-- the code c of k digits means the speed s
pub data Coded (k : ℕ) : ℕ → Speed → Type 0 where
  all_zeros : 3 ≤ k → k ≤ 5 → Coded k 0 (Rate 0)
  figures : {c v : ℕ} → 3 ≤ k → k ≤ 5 → Figures k c v → Coded k c (Rate v)
  preferred : {c : ℕ} → k ≡ 2 → c < 100 → Coded k c (preferred_speed c)

whole : (k : ℕ) → 0 < k → 10 ^ k ≡ 10 * 10 ^ (k - 1)
whole k h = ap (λ (n : ℕ). 10 ^ n) (omega arith) ∙ pow-succ' 10 (k - 1)

pub first_under : (k c : ℕ) → 3 ≤ k → c < 10 ^ k → c / 10 ^ (k - 1) < 10
first_under k c three short = (div-lt_iff_lt-mul (ten-positive (k - 1))).1 (rw (whole k (omega arith)) at short)

module _ (k : ℕ) (three : 3 ≤ k) (five : k ≤ 5) where
  -- k - 1 digits, and the zeros that the first digit d asks for, make d digits past four
  top : (d : ℕ) → 10 ^ (4 + d) ≡ 10 ^ (k - 1) * 10 ^ (d + 5 - k)
  top d = ap (λ (n : ℕ). 10 ^ n) (omega arith) ∙ pow-add 10 (k - 1) (d + 5 - k)

  tenth : (d : ℕ) → 10 ^ (4 + d) ≡ 10 * (10 ^ (k - 2) * 10 ^ (d + 5 - k))
  tenth d =
      ap (λ (n : ℕ). 10 ^ n) (omega arith)
      ∙ pow-succ' 10 (k - 2 + (d + 5 - k))
      ∙ ap (λ (n : ℕ). 10 * n) (pow-add 10 (k - 2) (d + 5 - k))

  module _ {c v : ℕ} (h : Figures k c v) where
    figures-under : v < 10 ^ (4 + h.d)
    figures-under = rw (h.speed, top h.d) (mul-lt-mul_of_pos_right h.low (ten-positive (h.d + 5 - k)))

    figures-over : 10 ^ (4 + h.d) ≤ 10 * v
    figures-over = rw (h.speed, tenth h.d) (omega (arith, mul-le-mul_right (10 ^ (h.d + 5 - k)) h.high))

    figures-past : past 4 v ≡ h.d
    figures-past = past_is 4 v h.d (record { under = figures-under; over = λ _. figures-over })

    figures-least : 1_000 ≤ v
    figures-least = omega (arith, figures-over, ten-grows {i = 4} {j = 4 + h.d} (omega arith))

    figures-most : v < 10 ^ 13
    figures-most = omega (arith, figures-under, ten-grows {i = 4 + h.d} {j = 13} (omega (arith, h.digit)))

    figures-short : c < 10 ^ k
    figures-short = rw (h.code, whole k (omega arith)) (digits_lt h.digit h.low)

    figures-first : c / 10 ^ (k - 1) ≡ h.d
    figures-first = rw h.code (digits_div h.d h.low)

    figures-others : c % 10 ^ (k - 1) ≡ h.m
    figures-others = rw h.code (digits_mod h.d h.low)

    figures-reads : speed_for k c ≡ taken (Rate v)
    unfolding meaning
    figures-reads =
        speed-taken k c three five figures-short (rw figures-others h.high)
        ∙ ap (λ n. taken (Rate n)) (rw (figures-others, figures-first) (sym h.speed))

    figures-same : rounded (k - 1) v ≡ v
    figures-same =
        rounded-same (k - 1) v (omega arith)
        (record { figures = h.m; zeros = h.d + 5 - k; few = h.low; is = h.speed })

    figures-codes : code_for k (Rate v) ≡ taken c
    unfolding written
    figures-codes =
        code-taken k v three five (omega (arith, figures-least)) (rw figures-same figures-least) (rw figures-same figures-most)
        ∙ ap taken (rw (figures-same, figures-past, h.speed, mul-div_cancel h.m (ten-positive (h.d + 5 - k))) (sym h.code))

  -- the figures of a code that is not all zeros
  figures-at : (c : ℕ) → c < 10 ^ k → 10 ^ (k - 2) ≤ c % 10 ^ (k - 1) → Figures k c (meaning k c)
  unfolding meaning
  figures-at c short second =
      record {
        d = c / 10 ^ (k - 1);
        m = c % 10 ^ (k - 1);
        digit = first_under k c three short;
        high = second;
        low = mod-lt c (ten-positive (k - 1));
        code = sym (div-add-mod' c (10 ^ (k - 1)));
        speed = refl;
      }

  -- the figures of a speed of at most k - 1 significant digits within the limits
  figures-of : (r : ℕ) → Significant (k - 1) r → 1_000 ≤ r → r < 10 ^ 13 → Figures k (written k r) r
  unfolding written
  figures-of r sig least most =
      let d : ℕ = past 4 r in
      let e : ℕ = d + 5 - k in
      let over : 10 ^ (4 + d) ≤ 10 * r = past-over 4 r (omega arith) in
      let j : (n : ℕ) × (r ≡ n * 10 ^ e) = multiple e sig (omega (arith, pow-add 10 (k - 1) e, top d)) in
      record {
        d = d;
        m = j.0;
        digit = omega (arith, ten-below {i = 4 + d} {j = 14} (omega arith));
        high = le_of_mul-le-mul_right {k = 10 ^ e} (omega (arith, tenth d, j.1)) (ten-positive e);
        low = lt_of_mul-lt-mul_right (10 ^ e) (omega (arith, top d, (past-law 4 r).under, j.1));
        code = ap (λ (n : ℕ). d * 10 ^ (k - 1) + n) (ap (λ (n : ℕ). n / 10 ^ e) j.1 ∙ mul-div_cancel j.0 (ten-positive e));
        speed = j.1;
      }

-- a preferred number's speed has that number
preferred-codes : (c : ℕ) → c < 100 → code_for 2 (preferred_speed c) ≡ taken c
preferred-codes c l = go (eqb c stop_code) (eqb c rapid_code) refl refl
  where
    go : (stop rapid : Bool) → eqb c stop_code ≡ stop → eqb c rapid_code ≡ rapid → code_for 2 (cond stop Stop (cond rapid Rapid (Rate (rate_of c)))) ≡ taken c
    go true rapid e f = code-preferred Stop ∙ ap taken (sym (eqb-true c stop_code e))
    go false true e f = code-preferred Rapid ∙ ap taken (sym (eqb-true c rapid_code f))
    go false false e f =
        let n = eqb-false c stop_code e in
        let m = eqb-false c rapid_code f in
        let some : 1 ≤ c = omega arith in
        let last : c ≤ 98 = omega arith in
        rate-taken (rate_of c) (rate-least c some last) (rate-most c some last) ∙ ap taken (nearest-again c some last)

-- a rate of magic three is under ten to the power 13
abbrev Under : Speed → Type 0
Under Stop = Unit {0}
Under Rapid = Unit {0}
Under (Rate v) = v < 10 ^ 13

-- reading a code and coding a speed answer by this relation
module _ {k : ℕ} where
  pub coded-reads : {c : ℕ} {s : Speed} → Coded k c s → speed_for k c ≡ taken s
  coded-reads (all_zeros three five) = speed-zeros k three five
  coded-reads (figures three five h) = figures-reads k three five h
  coded-reads (preferred {c} two l) = rw two (speed-preferred c l)

  pub coded-codes : {c : ℕ} {s : Speed} → Coded k c s → code_for k s ≡ taken c
  coded-codes (all_zeros three five) = code-zeros k three five
  coded-codes (figures three five h) = figures-codes k three five h
  coded-codes (preferred {c} two l) = rw two (preferred-codes c l)

  pub coded-rate-under : {c : ℕ} {s : Speed} → 3 ≤ k → Coded k c s → Under s
  coded-rate-under t (all_zeros three five) = lit< tt
  coded-rate-under t (figures three five h) = figures-most k three five h
  coded-rate-under t (preferred two l) = absurd (omega arith)

  pub coded-code-under : {c : ℕ} {s : Speed} → Coded k c s → c < 10 ^ k
  coded-code-under (all_zeros three five) = ten-positive k
  coded-code-under (figures three five h) = figures-short k three five h
  coded-code-under (preferred two l) = rw two l

pub read-coded : (k c : ℕ) {s : Speed} → speed_for k c ≡ taken s → Coded k c s
read-coded k c {s} e = ⊎_elim two magic (system k (read_length k c e))
  where
    two : k ≡ 2 → Coded k c s
    two q = let f = rw q at e in rw (← preferred-read c f) (preferred q (rw q at (read_short k c e)))

    magic : 3 ≤ k → Coded k c s
    magic three =
        let five : k ≤ 5 = (read_length k c e).five in
        let t = magic-read k c e three in
        ⊎_elim (λ h. rw (← t.1) (figures three five (figures-at k three five c (read_short k c e) h)))
        (λ z. let still : s ≡ Rate 0 = (let q = speed-zeros k three five in cc) in subst (λ n. Coded k n s) (sym z) (subst (Coded k 0) (sym still) (all_zeros three five))) t.0

-- by magic three the code of a rate is that of the rate rounded
pub magic-coded : (k v c : ℕ) → 3 ≤ k → code_for k (Rate v) ≡ taken c → Coded k c (Rate (rounded (k - 1) v))
magic-coded k v c three e = ⊎_elim none some (magic-given k v c three e)
  where
    five : k ≤ 5
    five = (code-length k (Rate v) e).five

    none : (v ≡ 0) × (c ≡ 0) → Coded k c (Rate (rounded (k - 1) v))
    none z = rw (z.0, z.1, rounded-zero) (all_zeros three five)

    some : Within k (rounded (k - 1) v) c → Coded k c (Rate (rounded (k - 1) v))
    some w =
        rw (← w.same) (figures three five
        (figures-of k three five (rounded (k - 1) v) (rounded-significant (k - 1) v (omega (arith, three))) w.least w.most))
