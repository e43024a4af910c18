-- Digits as rows: what a run of them amounts to, and the figures of a number, all punched or with zeros missing at one end.
use Prim.Native.Nat.{ℕ, zero, suc, ◌+◌, ◌-◌, ◌*◌, ◌/◌, ◌%◌, ◌^◌, ◌≤◌, ◌<◌, zero-le, suc-le-suc}
use mathlib.Core.Path.{◌≡◌, refl, sym, ap, ◌∙◌, subst}
use mathlib.Core.Bool.{Bool, true, false, ◌&&◌, not, cond, and-eq-true_iff}
use mathlib.Core.List.{List, [], ◌∷◌, ◌++◌, append-nil}
use native.Mathlib.Nat.{suc-add, zero-add, add-zero, zero-mul, mul_assoc, add-mul, add_assoc, pow-succ', one-le-pow, pow-le-pow_right, le_of_eq, le-add_left, lt_of_lt_of_le, div-eq_of_lt, mod-eq_of_lt, mod-lt, div-add-mod', mul-lt-mul_of_pos_right, zero-lt-suc}
use native.Mathlib.Omega.{arith}
use lib.Arith.{digits_div, digits_mod, digits_lt, lt-one}
use lib.Pow.{pow-add}
use lib.ListN.{length, length-map}
use lib.Dec.{leb}
use borrow.Author.Tests.{leb-true}
use Rattle.rows.specs.Kept.{KeptRow}
use Rattle.shorthand.specs.declared.Missing.{Missing}
use Rattle.shorthand.specs.declared.Missing.TheVariants.{Nothing, Leading, Trailing}
use Rattle.shorthand.specs.Layout.{fewest}
use Rattle.reading.specs.Relation.{digits, zeros, Punched, in_full, front, back, chars}
use Rattle.words.specs.declared.Wanted.{Wanted}
use Rattle.words.specs.Figures.{Run, run, is_digit, digit_next, restored, figures}
use Rattle.rows.proofs.Outcomes.{Holds, value, holds-cond}
use Rattle.reading.proofs.Outcomes.{Reads, Table, Placed, placed-behind, wrong-told}

abbrev tens : (n : ℕ) → 0 < 10 ^ n
tens n = one-le-pow n 10 (zero-lt-suc 9)

-- ---- digits with zeros at an end

-- one digit d before the number u of n more
pub digits-front : (n d u : ℕ) → u < 10 ^ n → digits (suc n) (d * 10 ^ n + u) ≡ (48 + d) ∷ digits n u
digits-front n d u h = rw (digits_div d h, digits_mod d h)

-- more digits than a number needs are zeros in front
pub digits-leading : (j n u : ℕ) → u < 10 ^ n → digits (j + n) u ≡ zeros j ++ digits n u
digits-leading zero n u h = rw (zero-add n)
digits-leading (suc j) n u h =
    let l : u < 10 ^ (j + n) = lt_of_lt_of_le h (pow-le-pow_right (zero-lt-suc 9) (le-add_left n j)) in
    rw (suc-add j n, div-eq_of_lt l, mod-eq_of_lt l, digits-leading j n u h)

-- a number times ten to the power j ends in j zeros
pub digits-trailing : (j n u : ℕ) → u < 10 ^ n → digits (n + j) (u * 10 ^ j) ≡ digits n u ++ zeros j
digits-trailing j zero u h =
    let e : u ≡ 0 = lt-one h in
    rw (e, zero-mul, zero-add) (ap (λ n. digits n 0) (sym (add-zero j)) ∙ digits-leading j 0 0 (tens 0) ∙ append-nil (zeros j))
digits-trailing j (suc n) u h =
    let q = u / 10 ^ n in
    let r = u % 10 ^ n in
    let l : r < 10 ^ n = mod-lt u (tens n) in
    let m : r * 10 ^ j < 10 ^ (n + j) = rw (pow-add 10 n j) (mul-lt-mul_of_pos_right l (tens j)) in
    let e : u * 10 ^ j ≡ q * 10 ^ (n + j) + r * 10 ^ j = rw (pow-add 10 n j, ← mul_assoc, ← add-mul, div-add-mod') in
    rw (suc-add n j, e, digits-front (n + j) q (r * 10 ^ j) m, digits-trailing j n r l)

-- ---- what a run of digits amounts to

-- of the rows rs the run q took at most n digits, which put their amount behind the number v, of which k stood before
pub record Ran (n v k : ℕ) (rs : List KeptRow) (q : Run) : Type 0 where
  pub took : List KeptRow
  pub amount : ℕ
  pub split : rs ≡ took ++ q.rest
  pub counted : q.count ≡ k + length took
  pub few : length took ≤ n
  pub below : amount < 10 ^ length took
  pub added : q.number ≡ v * 10 ^ length took + amount
  pub spelt : chars took ≡ digits (length took) amount

digit-below : (c : ℕ) → is_digit c ≡ true → (c - 48 < 10) × (48 + (c - 48) ≡ c)
digit-below c e =
    let p = (and-eq-true_iff (leb 48 c) (leb c 57)).0 e in
    let a : 48 ≤ c = leb-true 48 c p.0 in
    let b : c ≤ 57 = leb-true c 57 p.1 in
    (omega arith, omega arith)

ran-none : (n v k : ℕ) (rs : List KeptRow) → Ran n v k rs (record { number = v; count = k; rest = rs })
ran-none n v k rs =
    record {
      took = [];
      amount = 0;
      split = refl;
      counted = sym (add-zero k);
      few = zero-le;
      below = tens 0;
      added = omega arith;
      spelt = refl;
    }

ran-one : {n v k : ℕ} (r : KeptRow) (rs : List KeptRow) {q : Run} → is_digit r.char ≡ true → Ran n (v * 10 + (r.char - 48)) (suc k) rs q → Ran (suc n) v k (r ∷ rs) q
ran-one r rs e h =
    let d = digit-below r.char e in
    record {
      took = r ∷ h.took;
      amount = (r.char - 48) * 10 ^ length h.took + h.amount;
      split = ap (λ l. r ∷ l) h.split;
      counted = omega arith;
      few = suc-le-suc h.few;
      below = rw (pow-succ' 10 (length h.took)) (digits_lt d.0 h.below);
      added = rw (pow-succ' 10 (length h.took), ← mul_assoc, ← add_assoc, ← add-mul) h.added;
      spelt = rw (digits-front (length h.took) (r.char - 48) h.amount h.below, d.1) (ap (λ l. r.char ∷ l) h.spelt);
    }

pub run_ran : (n v k : ℕ) (rs : List KeptRow) → Ran n v k rs (run n v k rs)
unfolding run
run_ran zero v k rs = ran-none zero v k rs
run_ran (suc n) v k [] = ran-none (suc n) v k []
run_ran (suc n) v k (r ∷ rs) = go (is_digit r.char) refl (run_ran n (v * 10 + (r.char - 48)) (suc k) rs)
  where
    go : (b : Bool) → is_digit r.char ≡ b → Ran n (v * 10 + (r.char - 48)) (suc k) rs (run n (v * 10 + (r.char - 48)) (suc k) rs)
        → Ran (suc n) v k (r ∷ rs) (cond b (run n (v * 10 + (r.char - 48)) (suc k) rs) (record { number = v; count = k; rest = r ∷ rs }))
    go true e h = ran-one r rs e h
    go false e h = ran-none (suc n) v k (r ∷ rs)

-- ---- the figures of a number

module _ {n : ℕ} {rs : List KeptRow} {q : Run} (h : Ran n 0 0 rs q) where
  number_is : q.number ≡ h.amount
  number_is = omega (arith, h.added)

  fits : q.number < 10 ^ n
  fits = rw number_is (lt_of_lt_of_le h.below (pow-le-pow_right (zero-lt-suc 9) h.few))

  stand : 1 ≤ q.count → 0 < length (chars h.took)
  stand l = rw (length-map h.took (λ r. r.char)) (omega (arith, h.counted))

  -- the missing zeros in front
  in-front : digits n q.number ≡ zeros (n - q.count) ++ chars h.took
  in-front =
      let m = length h.took in
      let e : n ≡ n - q.count + m = omega (arith, h.counted, h.few) in
      ap (λ k. digits k q.number) e ∙ rw (number_is, h.spelt) (digits-leading (n - q.count) m h.amount h.below)

  -- the missing zeros at the end
  behind-it : digits n (q.number * 10 ^ (n - q.count)) ≡ chars h.took ++ zeros (n - q.count)
  behind-it =
      let m = length h.took in
      let e : n ≡ m + (n - q.count) = omega (arith, h.counted, h.few) in
      ap (λ k. digits k (q.number * 10 ^ (n - q.count))) e ∙ rw (number_is, h.spelt) (digits-trailing (n - q.count) m h.amount h.below)

  fits-behind : q.number * 10 ^ (n - q.count) < 10 ^ n
  fits-behind =
      let m = length h.took in
      let e : m + (n - q.count) ≡ n = omega (arith, h.counted, h.few) in
      rw number_is (lt_of_lt_of_le (mul-lt-mul_of_pos_right h.below (tens (n - q.count))) (le_of_eq (sym (pow-add 10 m (n - q.count)) ∙ ap (λ k. 10 ^ k) e)))

  ran-punched : (z : Missing) → fewest z n ≤ q.count → Punched n (restored z n q) z (chars h.took)
  ran-punched Nothing l =
      let e : n - q.count ≡ 0 = omega arith in
      subst (λ ds. Punched n q.number Nothing ds) (in-front ∙ ap (λ j. zeros j ++ chars h.took) e) (in_full fits)
  ran-punched Leading l = front (n - q.count) fits in-front (stand l)
  ran-punched Trailing l = back (n - q.count) fits-behind behind-it (stand l)

module _ {Q : ℕ → ℕ → Type 0} {P : ℕ → Type 0} {len : ℕ} (t : Table Q P len) where
  pub figures-read : (w : Wanted) (z : Missing) (n : ℕ) (rs : List KeptRow) → Placed P rs
      → Holds Q (Reads (λ v s. Punched n v z (chars s)) rs) (figures len w z n rs)
  unfolding figures
  figures-read w z n rs all =
      let q = run n 0 0 rs in
      let h = run_ran n 0 0 rs in
      let enough = leb (fewest z n) q.count in
      let no_more = not (digit_next q.rest) in
      holds-cond (enough && no_more)
      (λ e. value (record { took = h.took; split = h.split; stands = ran-punched h z (leb-true (fewest z n) q.count ((and-eq-true_iff enough no_more).0 e).0) }))
      (λ e. wrong-told t w q.rest (placed-behind h.took h.split all))
