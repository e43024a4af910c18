-- Which answer is given when: 21, then 13 or 20, else a value (document 01, "Refusal numbers", and 02, 4/12).
use Prim.Native.Nat.{ℕ, ◌-◌, ◌%◌, ◌^◌, ◌≤◌, ◌<◌}
use mathlib.Core.Path.{◌≡◌, refl, sym, ap, ◌∙◌}
use mathlib.Core.Bool.{Bool, true, false, ◌&&◌, not, cond, and-false}
use mathlib.Core.Logic.{◌⊎◌, inl, inr, ⊎_elim}
use native.Mathlib.Nat.{zero-mod, zero-mul, ne_of_gt}
use native.Mathlib.Decide.{dec_lt}
use native.Mathlib.Omega.{arith}
use borrow.Author.Tests.{ltb-true, ltb-false, leb-true, eqb-true, lt-ltb, le-ltb, le-leb, lt-leb, ne_eqb}
use lib.Dec.{eqb, leb, ltb, lit<}
use Rattle.rows.specs.Answer.{Answer, taken, refused, number_of}
use Rattle.speeds.specs.declared.Speed.{Speed}
use Rattle.speeds.specs.declared.Speed.TheVariants.{Stop, Rapid, Rate}
use Rattle.speeds.specs.Meaning.{code_length, is_preferred, other_digits, is_second_zero, meaning, magic_speed, speed_for}
use Rattle.speeds.specs.Rounding.{rounded}
use Rattle.speeds.specs.Preferred.{last_code, rate_of, stop_code, rapid_code, preferred_speed, nearest_code, least_rate, most_rate, preferred_code}
use Rattle.speeds.specs.Coding.{codable, written, magic_code, code_for}
use Rattle.speeds.proofs.Tens.{ten-positive}
use Rattle.speeds.proofs.Rounded.{ten-significant, rounded-above}

length-is : (k : ℕ) → 2 ≤ k → k ≤ 5 → code_length k ≡ true
length-is k two five = rw (le-leb 2 k two, le-leb k 5 five)

too_short : (k : ℕ) → k < 2 → code_length k ≡ false
too_short k h = rw (lt-leb 2 k h)

too_long : (k : ℕ) → 5 < k → code_length k ≡ false
too_long k h = rw (lt-leb k 5 h, and-false (leb 2 k))

magic : (k : ℕ) → 3 ≤ k → is_preferred k ≡ false
magic k three = ne_eqb k 2 (omega arith)

-- reading a code: each answer, from what calls for it
module _ (k code : ℕ) where
  pub speed-length-short : k < 2 → speed_for k code ≡ refused 21 0
  unfolding speed_for
  speed-length-short h = rw (too_short k h)

  pub speed-length-long : 5 < k → speed_for k code ≡ refused 21 0
  unfolding speed_for
  speed-length-long h = rw (too_long k h)

  pub speed-more-digits : 10 ^ k ≤ code → speed_for k code ≡ refused 21 0
  unfolding speed_for
  speed-more-digits h = rw (le-ltb code (10 ^ k) h, and-false (code_length k))

  module _ (three : 3 ≤ k) (five : k ≤ 5) (l : code < 10 ^ k) where
    speed-magic : speed_for k code ≡ magic_speed k code
    unfolding speed_for
    speed-magic = rw (length-is k (omega arith) five, lt-ltb code (10 ^ k) l, magic k three)

    pub speed-second-zero : other_digits k code < 10 ^ (k - 2) → 0 < code → speed_for k code ≡ refused 13 0
    speed-second-zero z n = speed-magic ∙ rw (lt-ltb (other_digits k code) (10 ^ (k - 2)) z, ne_eqb code 0 (ne_of_gt n))

    pub speed-taken : 10 ^ (k - 2) ≤ other_digits k code → speed_for k code ≡ taken (Rate (meaning k code))
    speed-taken z = speed-magic ∙ rw (le-ltb (other_digits k code) (10 ^ (k - 2)) z)

pub speed-zeros : (k : ℕ) → 3 ≤ k → k ≤ 5 → speed_for k 0 ≡ taken (Rate 0)
unfolding meaning
speed-zeros k three five =
    speed-magic k 0 three five (ten-positive k) ∙ rw (and-false (ltb (0 % 10 ^ (k - 1)) (10 ^ (k - 2))), zero-mod, zero-mul)

pub speed-preferred : (c : ℕ) → c < 100 → speed_for 2 c ≡ taken (preferred_speed c)
unfolding speed_for
speed-preferred c l = rw (lt-ltb c 100 l)

pub speed-rate : (c : ℕ) → 1 ≤ c → c ≤ last_code → speed_for 2 c ≡ taken (Rate (rate_of c))
speed-rate c l m = speed-preferred c (omega arith) ∙ rw (ne_eqb c stop_code (omega arith), ne_eqb c rapid_code (omega arith))

-- coding a speed
module _ (k : ℕ) (s : Speed) where
  pub code-length-short : k < 2 → code_for k s ≡ refused 21 0
  unfolding code_for
  code-length-short h = rw (too_short k h)

  pub code-length-long : 5 < k → code_for k s ≡ refused 21 0
  unfolding code_for
  code-length-long h = rw (too_long k h)

  pub code-magic : 3 ≤ k → k ≤ 5 → code_for k s ≡ magic_code k s
  unfolding code_for
  code-magic three five = rw (length-is k (omega arith) five, magic k three)

pub code-preferred : (s : Speed) → code_for 2 s ≡ preferred_code s
unfolding code_for
code-preferred s = refl

module _ (k v : ℕ) (three : 3 ≤ k) (five : k ≤ 5) (n : 0 < v) where
  pub code-too-slow : rounded (k - 1) v < 1_000 → code_for k (Rate v) ≡ refused 20 0
  code-too-slow l = code-magic k (Rate v) three five ∙ rw (ne_eqb v 0 (ne_of_gt n), lt-leb 1_000 (rounded (k - 1) v) l)

  pub code-too-fast : 10 ^ 13 ≤ rounded (k - 1) v → code_for k (Rate v) ≡ refused 20 0
  code-too-fast l =
      code-magic k (Rate v) three five ∙ rw (ne_eqb v 0 (ne_of_gt n), le-ltb (rounded (k - 1) v) (10 ^ 13) l, and-false (leb 1_000 (rounded (k - 1) v)))

  -- rounding brings no rate below a power of ten that it has reached
  pub code-fast : 10 ^ 13 ≤ v → code_for k (Rate v) ≡ refused 20 0
  code-fast h =
      let some : 0 < k - 1 = omega arith in
      code-too-fast (rounded-above (k - 1) v some (10 ^ 13) (ten-significant (k - 1) 13 some) h)

  pub code-taken : 1_000 ≤ rounded (k - 1) v → rounded (k - 1) v < 10 ^ 13 → code_for k (Rate v) ≡ taken (written k (rounded (k - 1) v))
  code-taken l m =
      code-magic k (Rate v) three five ∙ rw (ne_eqb v 0 (ne_of_gt n), le-leb 1_000 (rounded (k - 1) v) l, lt-ltb (rounded (k - 1) v) (10 ^ 13) m)

pub code-zeros : (k : ℕ) → 3 ≤ k → k ≤ 5 → code_for k (Rate 0) ≡ taken 0
code-zeros k three five = code-magic k (Rate 0) three five

module _ (v : ℕ) where
  pub rate-too-slow : v < least_rate → code_for 2 (Rate v) ≡ refused 20 0
  rate-too-slow l = code-preferred (Rate v) ∙ rw (lt-leb least_rate v l)

  pub rate-too-fast : most_rate < v → code_for 2 (Rate v) ≡ refused 20 0
  rate-too-fast l = code-preferred (Rate v) ∙ rw (lt-leb v most_rate l, and-false (leb least_rate v))

  pub rate-taken : least_rate ≤ v → v ≤ most_rate → code_for 2 (Rate v) ≡ taken (nearest_code v)
  rate-taken l m = code-preferred (Rate v) ∙ rw (le-leb least_rate v l, le-leb v most_rate m)

-- a rate of ten to the power 13 or more has no code
pub code-beyond : (k v : ℕ) → 2 ≤ k → k ≤ 5 → 10 ^ 13 ≤ v → code_for k (Rate v) ≡ refused 20 0
code-beyond k v two five h =
    elim (dec_lt k 3) [
      | yes l ↦ let e : k ≡ 2 = omega arith in rw e (rate-too-fast v (omega arith))
      | no l ↦ code-fast k v (omega arith) five (omega arith) h
    ]

-- the other way: what a value says of the tests before it
both_true : (a b : Bool) → (a && b) ≡ true → (a ≡ true) × (b ≡ true)
both_true true b e = (refl, e)
both_true false b e = (e, cc)

not-both : (a b : Bool) → (a && not b) ≡ false → (a ≡ false) ⊎ (b ≡ true)
not-both false b e = inl refl
not-both true true e = inr refl
not-both true false e = inl e

pub passed : {A : Type 0} (a : Bool) (x : Answer A) (n : ℕ) {v : A} → cond a x (refused n 0) ≡ taken v → (a ≡ true) × (x ≡ taken v)
passed true x n e = (refl, e)
passed false x n e = (cc, cc)

unrefused : (z : Bool) (x : Speed) {v : Speed} → cond z (refused 13 0) (taken x) ≡ taken v → (z ≡ false) × (x ≡ v)
unrefused true x e = (cc, cc)
unrefused false x e = (refl, cc)

-- a code of two to five digits
pub record Length (k : ℕ) : Type 0 where
  pub two : 2 ≤ k
  pub five : k ≤ 5

length-of : (k : ℕ) → code_length k ≡ true → Length k
length-of k e = let t = both_true (leb 2 k) (leb k 5) e in record { two = leb-true 2 k t.0; five = leb-true k 5 t.1 }

-- and of which system it is
pub system : (k : ℕ) → Length k → (k ≡ 2) ⊎ (3 ≤ k)
system k h = elim (dec_lt k 3) [ yes l ↦ inl (omega (arith, h.two)) | no l ↦ inr (omega arith) ]

-- the code was read
module _ (k code : ℕ) {s : Speed} (e : speed_for k code ≡ taken s) where
  tests : (code_length k && ltb code (10 ^ k) ≡ true) × (cond (is_preferred k) (taken (preferred_speed code)) (magic_speed k code) ≡ taken s)
  unfolding speed_for
  tests = passed (code_length k && ltb code (10 ^ k)) (cond (is_preferred k) (taken (preferred_speed code)) (magic_speed k code)) 21 e

  pub read_length : Length k
  read_length = length-of k (both_true (code_length k) (ltb code (10 ^ k)) tests.0).0

  pub read_short : code < 10 ^ k
  read_short = ltb-true code (10 ^ k) (both_true (code_length k) (ltb code (10 ^ k)) tests.0).1

  -- by magic three: the second digit is not zero or all are, and the rate is what they mean
  pub magic-read : 3 ≤ k → ((10 ^ (k - 2) ≤ other_digits k code) ⊎ (code ≡ 0)) × (Rate (meaning k code) ≡ s)
  magic-read three =
      let t = unrefused (is_second_zero k code) (Rate (meaning k code)) (rw (magic k three) at tests.1) in (
        ⊎_elim (λ f. inl (ltb-false (other_digits k code) (10 ^ (k - 2)) f)) (λ f. inr (eqb-true code 0 f)) (not-both (ltb (other_digits k code) (10 ^ (k - 2))) (eqb code 0) t.0),
        t.1,
      )

pub preferred-read : (c : ℕ) {s : Speed} → speed_for 2 c ≡ taken s → preferred_speed c ≡ s
preferred-read c e = let t = (tests 2 c e).1 in cc

-- the speed was coded
pub code-length : (k : ℕ) (s : Speed) {c : ℕ} → code_for k s ≡ taken c → Length k
unfolding code_for
code-length k s e = length-of k (passed (code_length k) (cond (is_preferred k) (preferred_code s) (magic_code k s)) 21 e).0

-- the code of the rounded rate r
pub record Within (k r code : ℕ) : Type 0 where
  pub least : 1_000 ≤ r
  pub most : r < 10 ^ 13
  pub same : written k r ≡ code

pub magic-given : (k v code : ℕ) → 3 ≤ k → code_for k (Rate v) ≡ taken code → ((v ≡ 0) × (code ≡ 0)) ⊎ Within k (rounded (k - 1) v) code
magic-given k v code three e = go (eqb v 0) refl (sym (code-magic k (Rate v) three (code-length k (Rate v) e).five) ∙ e)
  where
    r : ℕ
    r = rounded (k - 1) v

    within : codable r ≡ true → written k r ≡ code → Within k r code
    within f e =
        let t = both_true (leb 1_000 r) (ltb r (10 ^ 13)) f in
        record { least = leb-true 1_000 r t.0; most = ltb-true r (10 ^ 13) t.1; same = e }

    go : (z : Bool) → eqb v 0 ≡ z → cond z (taken 0) (cond (codable r) (taken (written k r)) (refused 20 0)) ≡ taken code → ((v ≡ 0) × (code ≡ 0)) ⊎ Within k r code
    go true f e = inl (eqb-true v 0 f, cc)
    go false f e = let t = passed (codable r) (taken (written k r)) 20 e in inr (within t.0 (let q = t.1 in cc))

-- of a code that fits its digits: a speed, or 13
judged : (p z : Bool) (x y : Speed) →
    let a : Answer Speed = cond p (taken x) (cond z (refused 13 0) (taken y)) in
    ((s : Speed) × (a ≡ taken s)) ⊎ (a ≡ refused 13 0)
judged true z x y = inl (x, refl)
judged false true x y = inr refl
judged false false x y = inl (y, refl)

pub code-judged : (k code : ℕ) → 2 ≤ k → k ≤ 5 → code < 10 ^ k → ((s : Speed) × (speed_for k code ≡ taken s)) ⊎ (speed_for k code ≡ refused 13 0)
unfolding speed_for
code-judged k code two five l =
    rw (length-is k two five, lt-ltb code (10 ^ k) l) (judged (is_preferred k) (is_second_zero k code) (preferred_speed code) (Rate (meaning k code)))

-- all zeros mean a speed
pub zero-code : (k : ℕ) → 2 ≤ k → k ≤ 5 → (s : Speed) × (speed_for k 0 ≡ taken s)
zero-code k two five =
    elim (dec_lt k 3) [
      | yes l ↦ let e : k ≡ 2 = omega arith in rw e (_, speed-preferred 0 (lit< tt))
      | no l ↦ (_, speed-zeros k (omega arith) five)
    ]

-- no code of two digits is refused for its second
pub preferred-judged : (code : ℕ) → speed_for 2 code ≡ refused 13 0 → ⊥
preferred-judged code e =
    elim (dec_lt code 100) [
      | yes l ↦ let n : ◌≡◌ {A = ℕ} 0 13 = ap number_of (sym (speed-preferred code l) ∙ e) in omega arith
      | no l ↦ let n : ◌≡◌ {A = ℕ} 21 13 = ap number_of (sym (speed-more-digits 2 code (omega arith)) ∙ e) in omega arith
    ]

-- no other answer is given, and every refusal has place 0: reading a code gives a speed, 13 in three to five digits, or 21
pub data Spoken (k code : ℕ) : Type 0 where
  means : (s : Speed) → speed_for k code ≡ taken s → Spoken k code
  second_zero : 3 ≤ k → k ≤ 5 → code < 10 ^ k → speed_for k code ≡ refused 13 0 → Spoken k code
  wrong_length : (2 ≤ k → k ≤ 5 → code < 10 ^ k → ⊥) → speed_for k code ≡ refused 21 0 → Spoken k code

pub speed-answers : (k code : ℕ) → Spoken k code
speed-answers k code =
    elim (dec_lt k 2) [
      | yes l ↦ wrong_length (λ t f c. omega arith) (speed-length-short k code l)
      | no l ↦ elim (dec_lt 5 k) [
        | yes m ↦ wrong_length (λ t f c. omega arith) (speed-length-long k code m)
        | no m ↦ elim (dec_lt code (10 ^ k)) [
          | yes n ↦ ⊎_elim (λ s. means s.0 s.1) (λ e. second_zero (three e) (omega arith) n e) (code-judged k code (omega arith) (omega arith) n)
          | no n ↦ wrong_length (λ t f c. n c) (speed-more-digits k code (omega arith))
        ]
      ]
    ]
  where
    three : speed_for k code ≡ refused 13 0 → 3 ≤ k
    three e =
        elim (dec_lt k 2) [
          | yes l ↦ absurd (let n : ◌≡◌ {A = ℕ} 21 13 = ap number_of (sym (speed-length-short k code l) ∙ e) in omega arith)
          | no l ↦ elim (dec_lt k 3) [
            | yes m ↦ let q : k ≡ 2 = omega arith in absurd (preferred-judged code (rw q at e))
            | no m ↦ omega arith
          ]
        ]

-- coding a speed gives a code, 20, or 21
pub data Given (k : ℕ) (s : Speed) : Type 0 where
  has : (code : ℕ) → code_for k s ≡ taken code → Given k s
  beyond : 2 ≤ k → k ≤ 5 → code_for k s ≡ refused 20 0 → Given k s
  wrong_length : (2 ≤ k → k ≤ 5 → ⊥) → code_for k s ≡ refused 21 0 → Given k s

pub code-answers : (k : ℕ) (s : Speed) → Given k s
code-answers k s =
    elim (dec_lt k 2) [
      | yes l ↦ wrong_length (λ t f. omega arith) (code-length-short k s l)
      | no l ↦ elim (dec_lt 5 k) [
        | yes m ↦ wrong_length (λ t f. omega arith) (code-length-long k s m)
        | no m ↦ ⊎_elim (λ c. has c.0 c.1) (beyond (omega arith) (omega arith)) (within (omega arith) (omega arith))
      ]
    ]
  where
    -- a code, or 20
    Coding : Answer ℕ → Type 0
    Coding a = ((code : ℕ) × (a ≡ taken code)) ⊎ (a ≡ refused 20 0)

    if-coded : (w : Bool) (x : ℕ) → Coding (cond w (taken x) (refused 20 0))
    if-coded true x = inl (x, refl)
    if-coded false x = inr refl

    preferred-coded : (s : Speed) → Coding (preferred_code s)
    preferred-coded Stop = inl (_, refl)
    preferred-coded Rapid = inl (_, refl)
    preferred-coded (Rate v) = if-coded (leb least_rate v && leb v most_rate) (nearest_code v)

    zero-coded : (z : Bool) (a : Answer ℕ) → Coding a → Coding (cond z (taken 0) a)
    zero-coded true a h = inl (0, refl)
    zero-coded false a h = h

    magic-coded : (s : Speed) → Coding (magic_code k s)
    magic-coded Stop = inr refl
    magic-coded Rapid = inr refl
    magic-coded (Rate v) = zero-coded (eqb v 0) _ (if-coded (codable (rounded (k - 1) v)) (written k (rounded (k - 1) v)))

    within : 2 ≤ k → k ≤ 5 → Coding (code_for k s)
    within two five =
        elim (dec_lt k 3) [
          | yes l ↦ let e : k ≡ 2 = omega arith in rw (e, code-preferred s) (preferred-coded s)
          | no l ↦ rw (code-magic k s (omega arith) five) (magic-coded s)
        ]
