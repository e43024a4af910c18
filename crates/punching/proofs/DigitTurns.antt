-- One turn of putting digits, from the last to the first.
use Prim.Native.Nat.{ℕ, zero, suc, ◌+◌, ◌-◌, ◌*◌, ◌/◌, ◌%◌, ◌^◌, ◌<◌}
use mathlib.Core.Path.{◌≡◌, sym, ap, ◌∙◌}
use mathlib.Core.List.{List, [], ◌∷◌, ◌++◌, map, map-append}
use native.Mathlib.Nat.{add-zero, mul_comm, pow-succ', mod-lt, div-div-eq-div-mul, not-suc-le-zero}
use native.Mathlib.Omega.{arith}
use lib.Arith.{mod-mul}
use lib.ListN.{length, set, length-map}
use lib.Seq.{sets, set_comm}
use Rattle.speeds.proofs.Tens.{ten-positive}
use Rattle.reading.specs.Relation.{digits}
use Rattle.reading.proofs.DigitRows.{digits-length}
use Rattle.punching.specs.Rows.{row_of}

-- a number below a power of ten, by its last digit and the others
low : (m v : ℕ) → v % 10 ^ suc m ≡ v / 10 % 10 ^ m * 10 + v % 10
low m v = rw (pow-succ' 10 m, mul_comm 10 (10 ^ m)) (mod-mul v (ten-positive m) (omega arith))

-- the digits of a number are those of its tenth, and the last
pub digits_last : (n v : ℕ) → v < 10 ^ suc n → digits (suc n) v ≡ digits n (v / 10) ++ ((48 + v % 10) ∷ [])
digits_last zero v h = let e : v / 1 ≡ v % 10 = omega arith in rw e
digits_last (suc m) v h =
    let high : v / 10 ^ suc m ≡ v / 10 / 10 ^ m = rw (pow-succ' 10 m) (sym (div-div-eq-div-mul v 10 (10 ^ m))) in
    let tenth : v % 10 ^ suc m / 10 ≡ v / 10 % 10 ^ m = omega (arith, low m v) in
    let last : v % 10 ^ suc m % 10 ≡ v % 10 = omega (arith, low m v) in
    rw (high, digits_last m (v % 10 ^ suc m) (mod-lt v (ten-positive (suc m))), tenth, last)

-- the last row may be put before the others
pub sets_last : (xs l : List ℕ) (i d : ℕ) → sets l i (xs ++ (d ∷ [])) ≡ sets (set l (i + length xs) d) i xs
sets_last [] l i d = rw (add-zero i)
sets_last (x ∷ xs) l i d =
    let e : suc i + length xs ≡ i + suc (length xs) = omega arith in
    sets_last xs (set l i x) (suc i) d ∙ ap (λ k. sets k (suc i) xs) (rw e (set_comm l i (i + suc (length xs)) x d (λ g. omega arith)))

-- with the last digit put, what is to come are the digits of the rest
pub digit-put : (l : List ℕ) (at n v : ℕ) → 0 < n → v < 10 ^ n
    → sets l at (map row_of (digits n v)) ≡ sets (set l (at + (n - 1)) (row_of (48 + v % 10))) at (map row_of (digits (n - 1) (v / 10)))
digit-put l at zero v h s = absurd (not-suc-le-zero h)
digit-put l at (suc n) v h s =
    let e : suc n - 1 ≡ n = omega arith in
    let ds = map row_of (digits n (v / 10)) in
    let k : length ds ≡ n = length-map (digits n (v / 10)) row_of ∙ digits-length n (v / 10) in
    let last : map row_of (digits (suc n) v) ≡ ds ++ (row_of (48 + v % 10) ∷ []) = ap (map row_of) (digits_last n v s) ∙ map-append row_of (digits n (v / 10)) ((48 + v % 10) ∷ []) in
    rw e (ap (sets l at) last ∙ rw k at (sets_last ds l at (row_of (48 + v % 10))))

-- and they are as many as it needs
pub tenth-small : (n v : ℕ) → 0 < n → v < 10 ^ n → v / 10 < 10 ^ (n - 1)
tenth-small zero v h s = absurd (not-suc-le-zero h)
tenth-small (suc n) v h s = let e : suc n - 1 ≡ n = omega arith in rw e (omega (arith, rw (pow-succ' 10 n) at s))
