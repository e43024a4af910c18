-- Digits within their bounds, those of a coded speed too; the digits that stand together at the front of a text, and what further bytes change of them.
use Prim.Native.Nat.{ℕ, ◌+◌, ◌-◌, ◌≤◌}
use native.Mathlib.Nat.{add-sub_cancel_left}
use native.Mathlib.Omega.{arith}
use mathlib.Core.Path.{◌≡◌, refl, ap, ◌∙◌}
use mathlib.Core.Bool.{Bool, true, false, ◌&&◌, ◌||◌, cond}
use mathlib.Core.List.{List, [], ◌∷◌, ◌++◌, map, append_assoc}
use lib.Dec.{T, eqb, leb, leb→le, le→leb}
use Rattle.shorthand.specs.declared.Edition.{Edition}
use Rattle.shorthand.specs.declared.Edition.TheVariants.{Iso2539}
use Rattle.shorthand.specs.Spell.{digit, is_digit}
use Rattle.shorthand.specs.Edition.{later, speed_least, speed_most}
use Rattle.shorthand.specs.Lawful.{digit_in}
use Rattle.shorthand.specs.Stand.{digits_of, after_digits}
use Rattle.shorthand.specs.Mending.{apart}
use Rattle.shorthand.proofs.Tests.{both, first, second, holds, fails, by-test}

abbrev pub Small : List ℕ → Type 0
Small [] = Unit {0}
Small (d ∷ ds) = (d ≤ 9) × Small ds

pub within : (lo hi d : ℕ) → T (digit_in lo hi d) → (lo ≤ d) × (d ≤ hi)
within lo hi d h = (leb→le lo d (first (leb lo d) (leb d hi) h), leb→le d hi (second (leb lo d) (leb d hi) h))

pub inside : (lo hi d : ℕ) → lo ≤ d → d ≤ hi → T (digit_in lo hi d)
inside lo hi d l h = both (leb lo d) (leb d hi) (le→leb lo d l) (le→leb d hi h)

pub digit-is : (d : ℕ) → d ≤ 9 → is_digit (digit d) ≡ true
digit-is d h = holds (is_digit (digit d)) (inside 48 57 (48 + d) (omega arith) (omega arith))

-- ---- the digit of a coded speed

module _ (e : Edition) (c : ℕ) where
  pub least_fits : T (digit_in (speed_least e c) speed_most (speed_least e c))
  least_fits = by-test (λ (n : ℕ). T (digit_in n speed_most n)) (later e && (eqb c 70 || eqb c 83)) (λ h. tt) (λ h. tt)

  pub speed-within : (d : ℕ) → T (digit_in (speed_least e c) speed_most d) → (2 ≤ d) × (d ≤ 5)
  speed-within d h =
      let w = within (speed_least e c) speed_most d h in
      let least : 2 ≤ speed_least e c = by-test (λ (n : ℕ). 2 ≤ n) (later e && (eqb c 70 || eqb c 83)) (λ h. omega arith) (λ h. omega arith) in
      (omega arith, w.1)

  -- the later edition takes it too
  pub speed-wider : (d : ℕ) → T (digit_in (speed_least e c) speed_most d) → T (digit_in (speed_least Iso2539 c) speed_most d)
  speed-wider d h = go (later e) (eqb c 70 || eqb c 83) (within (speed_least e c) speed_most d h)
    where
      go : (l s : Bool) → (cond (l && s) 2 3 ≤ d) × (d ≤ 5) → T (digit_in (cond s 2 3) speed_most d)
      go l true w = inside 2 5 d (speed-within d h).0 w.1
      go true false w = inside 3 5 d w.0 w.1
      go false false w = inside 3 5 d w.0 w.1

-- ---- the digits of a text that begins with given digits

pub digits-on : (ds u : List ℕ) → Small ds → digits_of (map digit ds ++ u) ≡ ds ++ digits_of u
unfolding digits_of
digits-on [] u h = refl
digits-on (d ∷ ds) u h = rw (digit-is d h.0, add-sub_cancel_left 48 d, digits-on ds u h.1)

pub after_on : (ds u : List ℕ) → Small ds → after_digits (map digit ds ++ u) ≡ after_digits u
unfolding after_digits
after_on [] u h = refl
after_on (d ∷ ds) u h = rw (digit-is d h.0, after_on ds u h.1)

pub digits-apart : (rest : List ℕ) → T (apart rest) → digits_of rest ≡ []
unfolding digits_of
digits-apart [] h = refl
digits-apart (b ∷ t) h = rw (fails (is_digit b) h)

pub after-apart : (rest : List ℕ) → T (apart rest) → after_digits rest ≡ rest
unfolding after_digits
after-apart [] h = refl
after-apart (b ∷ t) h = rw (fails (is_digit b) h)

-- ---- a text is its digits and what comes after them

digit-of : (b : ℕ) → T (is_digit b) → (b ≡ digit (b - 48)) × (b - 48 ≤ 9)
digit-of b h = let w = within 48 57 b h in (omega arith, omega arith)

pub record Parted (s ds rest : List ℕ) : Type 0 where
  pub splits : s ≡ map digit ds ++ rest
  pub small : Small ds
  pub stops : T (apart rest)

pub parted : (s : List ℕ) → Parted s (digits_of s) (after_digits s)
unfolding digits_of after_digits
parted [] = record { splits = refl; small = tt; stops = tt }
parted (b ∷ t) = go (is_digit b) refl (parted t)
  where
    go : (x : Bool) → is_digit b ≡ x → Parted t (digits_of t) (after_digits t)
        → Parted (b ∷ t) (cond x ((b - 48) ∷ digits_of t) []) (cond x (after_digits t) (b ∷ t))
    go true e h =
        let d = digit-of b (rw e tt) in
        record { splits = rw (← d.0) (ap (λ (l : List ℕ). b ∷ l) h.splits); small = (d.1, h.small); stops = h.stops }
    go false e h = record { splits = refl; small = tt; stops = rw e tt }

-- further bytes behind a text
pub digits-further : (s u : List ℕ) → digits_of (s ++ u) ≡ digits_of s ++ digits_of (after_digits s ++ u)
digits-further s u =
    let p = parted s in
    ap (λ (l : List ℕ). digits_of (l ++ u)) p.splits
    ∙ rw (append_assoc (map digit (digits_of s)) (after_digits s) u, digits-on (digits_of s) (after_digits s ++ u) p.small)

pub after-further : (s u : List ℕ) → after_digits (s ++ u) ≡ after_digits (after_digits s ++ u)
after-further s u =
    let p = parted s in
    ap (λ (l : List ℕ). after_digits (l ++ u)) p.splits
    ∙ rw (append_assoc (map digit (digits_of s)) (after_digits s) u, after_on (digits_of s) (after_digits s ++ u) p.small)
