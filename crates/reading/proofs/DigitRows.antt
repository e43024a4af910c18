-- Laws of a number's digits as characters: each is a digit, there are n of them, and what they are worth with zeros missing at either end.
use Prim.Native.Nat.{ℕ, zero, suc, ◌+◌, ◌-◌, ◌*◌, ◌/◌, ◌%◌, ◌^◌, ◌≤◌, ◌<◌}
use mathlib.Core.Path.{◌≡◌, refl, sym, ap, ◌∙◌}
use mathlib.Core.List.{List, [], ◌∷◌, ◌++◌}
use native.Mathlib.Nat.{pow-zero, pow-succ', one-le-pow, zero-mul, mul-one, mul_assoc, add-mul, add-zero, add-sub_cancel_left, div-add-mod', mod-lt, div-lt_iff_lt-mul}
use native.Mathlib.Omega.{arith}
use lib.ListN.{length, length-append, length-replicate}
use lib.Dec.{lit<}
use Rattle.rows.specs.Passes.{Every}
use Rattle.rows.proofs.Every.{every_front, every_back}
use Rattle.reading.specs.Relation.{digits, zeros}

abbrev pub Digit : ℕ → Type 0
Digit c = (48 ≤ c) × (c ≤ 57)

-- the number a and behind it the digits ds
abbrev pub worth : ℕ → List ℕ → ℕ
worth a [] = a
worth a (d ∷ ds) = worth (a * 10 + (d - 48)) ds

ten-pow : (n : ℕ) → 0 < 10 ^ n
ten-pow n = one-le-pow n 10 (lit< tt)

pub digits-length : (n v : ℕ) → length (digits n v) ≡ n
digits-length zero v = refl
digits-length (suc n) v = ap suc (digits-length n (v % 10 ^ n))

pub digits-digit : (n v : ℕ) → v < 10 ^ n → Every Digit (digits n v)
digits-digit zero v h = tt
digits-digit (suc n) v h =
    let q : v / 10 ^ n < 10 = (div-lt_iff_lt-mul (ten-pow n)).1 (rw pow-succ' at h) in
    (omega arith, digits-digit n (v % 10 ^ n) (mod-lt v (ten-pow n)))

pub digits-worth : (n v a : ℕ) → v < 10 ^ n → worth a (digits n v) ≡ a * 10 ^ n + v
digits-worth zero v a h = let z = rw pow-zero at h in rw (pow-zero, mul-one) (omega arith)
digits-worth (suc n) v a h =
    rw (digits-worth n (v % 10 ^ n) (a * 10 + (48 + v / 10 ^ n - 48)) (mod-lt v (ten-pow n)), add-sub_cancel_left 48 (v / 10 ^ n), add-mul, mul_assoc, ← (pow-succ' 10 n))
    (omega (arith, div-add-mod' v (10 ^ n)))

worth-append : (xs ys : List ℕ) (a : ℕ) → worth a (xs ++ ys) ≡ worth (worth a xs) ys
worth-append [] ys a = refl
worth-append (x ∷ xs) ys a = worth-append xs ys (a * 10 + (x - 48))

worth-zeros : (j a : ℕ) → worth a (zeros j) ≡ a * 10 ^ j
worth-zeros zero a = rw (pow-zero, mul-one)
worth-zeros (suc j) a = worth-zeros j (a * 10 + 0) ∙ rw (add-zero, mul_assoc, ← (pow-succ' 10 j))

-- ---- digits with zeros missing

module _ (n v j : ℕ) (ds : List ℕ) (small : v < 10 ^ n) where
  pub leading-worth : digits n v ≡ zeros j ++ ds → worth 0 ds ≡ v
  leading-worth e =
      let w : worth 0 (zeros j ++ ds) ≡ 0 * 10 ^ n + v = ap (worth 0) (sym e) ∙ digits-worth n v 0 small in
      let z : worth 0 (zeros j) ≡ 0 = worth-zeros j 0 ∙ zero-mul (10 ^ j) in
      sym (ap (λ a. worth a ds) z) ∙ sym (worth-append (zeros j) ds 0) ∙ w ∙ omega (arith, zero-mul (10 ^ n))

  pub leading_length : digits n v ≡ zeros j ++ ds → length ds ≤ n
  leading_length e = omega (arith, digits-length n v, simp length-append at (ap length e))

  pub leading-digit : digits n v ≡ zeros j ++ ds → Every Digit ds
  leading-digit e = every_back Digit (zeros j) ds (rw e at (digits-digit n v small))

  pub trailing-length : digits n v ≡ ds ++ zeros j → length ds + j ≡ n
  trailing-length e = omega (arith, digits-length n v, simp (length-append, length-replicate) at (ap length e))

  pub trailing-worth : digits n v ≡ ds ++ zeros j → worth 0 ds * 10 ^ (n - length ds) ≡ v
  trailing-worth e =
      let w : worth 0 (ds ++ zeros j) ≡ 0 * 10 ^ n + v = ap (worth 0) (sym e) ∙ digits-worth n v 0 small in
      let k : n - length ds ≡ j = omega (arith, trailing-length e) in
      rw (k, ← (worth-zeros j (worth 0 ds)), ← (worth-append ds (zeros j) 0), w) (omega (arith, zero-mul (10 ^ n)))

  pub trailing-digit : digits n v ≡ ds ++ zeros j → Every Digit ds
  trailing-digit e = every_front Digit ds (zeros j) (rw e at (digits-digit n v small))
