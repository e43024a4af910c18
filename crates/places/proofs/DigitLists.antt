-- Lists of digits as numbers: which number they are, and how they stand as the figures of an item.
use Prim.Native.Nat.{ℕ, zero, suc, ◌+◌, ◌-◌, ◌*◌, ◌^◌, ◌≤◌, ◌<◌}
use mathlib.Core.Path.{◌≡◌, refl, sym, ap, ◌∙◌, subst}
use mathlib.Core.Bool.{true, false, and-eq-true_iff, false≢true}
use mathlib.Core.List.{List, [], ◌∷◌, ◌++◌}
use native.Mathlib.Nat.{pow-succ', zero-lt-suc}
use native.Mathlib.Omega.{arith}
use lib.Arith.{digits_lt}
use lib.ListN.{length, length-append, length-replicate}
use lib.Dec.{leb, lit<, lit≤}
use borrow.Author.Tests.{leb-true}
use Rattle.rows.specs.Passes.{Every}
use Rattle.rows.proofs.Every.{every_append}
use Rattle.shorthand.specs.declared.Missing.{Missing}
use Rattle.shorthand.specs.declared.Missing.TheVariants.{Nothing, Leading, Trailing}
use Rattle.shorthand.specs.declared.Kind.{Kind}
use Rattle.shorthand.specs.Layout.{width, fewest}
use Rattle.shorthand.specs.Facts.{Widths}
use Rattle.reading.specs.Relation.{digits, zeros, Punched, in_full, front, back}
use Rattle.words.specs.Figures.{is_digit}
use Rattle.reading.proofs.Runs.{digits-front}
use Rattle.reading.proofs.RowsAhead.{is_digit_lem}
use Rattle.places.specs.Begins.{Digit}
use Rattle.places.specs.Faults.{last_of}

-- ---- digits

pub digit-is : (c : ℕ) → is_digit c ≡ true → Digit c
digit-is c e = let p = (and-eq-true_iff (leb 48 c) (leb c 57)).0 e in (leb-true 48 c p.0, leb-true c 57 p.1)

pub no_digit : (c : ℕ) → is_digit c ≡ false → Digit c → ⊥
no_digit c e h = false≢true (sym e ∙ is_digit_lem c h)

pub zeros-digit : (j : ℕ) → Every Digit (zeros j)
zeros-digit zero = tt
zeros-digit (suc j) = ((lit≤ tt, lit≤ tt), zeros-digit j)

-- ---- the last of some rows

last-append : (x : List ℕ) (c : ℕ) (y : List ℕ) → last_of (x ++ (c ∷ y)) ≡ last_of (c ∷ y)
last-append [] c y = refl
last-append (d ∷ []) c y = refl
last-append (d ∷ (e ∷ x)) c y = last-append (e ∷ x) c y

pub last-behind : (x y : List ℕ) → 0 < length y → last_of (x ++ y) ≡ last_of y
last-behind x [] some = absurd (omega arith)
last-behind x (c ∷ y) some = last-append x c y

pub last-every : (P : ℕ → Type 0) (x : List ℕ) → Every P x → 0 < length x → P (last_of x)
last-every P [] all l = absurd (omega arith)
last-every P (c ∷ []) all l = all.0
last-every P (c ∷ (d ∷ x)) all l = last-every P (d ∷ x) all.1 (zero-lt-suc _)

pub last-digit : (ds : List ℕ) → Every Digit ds → 0 < length ds → Digit (last_of ds)
last-digit ds all l = last-every Digit ds all l

-- ---- the number that they are

-- n digits are those of a number
abbrev pub Coded : ℕ → List ℕ → Type 0
Coded n ds = (v : ℕ) × (v < 10 ^ n) × (ds ≡ digits n v)

coded-all : (ds : List ℕ) → Every Digit ds → Coded (length ds) ds
coded-all [] all = (0, lit< tt, refl)
coded-all (d ∷ ds) all =
    let q = coded-all ds all.1 in
    let small : d - 48 < 10 = omega arith in
    let e : 48 + (d - 48) ≡ d = omega arith in
    ((d - 48) * 10 ^ length ds + q.0, rw (pow-succ' 10 (length ds)) (digits_lt small q.1), rw (digits-front (length ds) (d - 48) q.0 q.1, e) (ap (λ l. d ∷ l) q.2))

pub coded : (n : ℕ) (ds : List ℕ) → Every Digit ds → length ds ≡ n → Coded n ds
coded n ds all e = subst (λ k. Coded k ds) e (coded-all ds all)

-- ---- figures

-- enough digits and not too many are the figures of some number
pub some-punched : (z : Missing) (n : ℕ) (ds : List ℕ) → Every Digit ds → fewest z n ≤ length ds → length ds ≤ n → (v : ℕ) × Punched n v z ds
some-punched Nothing n ds all least most =
    let c = coded n ds all (omega arith) in
    (c.0, subst (λ l. Punched n c.0 Nothing l) (sym c.2) (in_full c.1))
some-punched Leading n ds all least most =
    let j = n - length ds in
    let c = coded n (zeros j ++ ds) (every_append Digit (zeros j) ds (zeros-digit j) all) (simp (length-append, length-replicate) (omega arith)) in
    (c.0, front j c.1 (sym c.2) least)
some-punched Trailing n ds all least most =
    let j = n - length ds in
    let c = coded n (ds ++ zeros j) (every_append Digit ds (zeros j) all (zeros-digit j)) (simp (length-append, length-replicate) (omega arith)) in
    (c.0, back j c.1 (sym c.2) least)

pub some-width : (k : Kind) → Widths k → 1 ≤ width k
some-width (Kind.Plain n) w = w.0
some-width (Kind.Speed n) w = omega arith
some-width (Kind.Dimension d) w = w.2

pub fewest-most : (z : Missing) (n : ℕ) → 1 ≤ n → fewest z n ≤ n
fewest-most Nothing n h = omega arith
fewest-most Leading n h = h
fewest-most Trailing n h = h

pub fewest-some : (z : Missing) (n : ℕ) → 1 ≤ n → 1 ≤ fewest z n
fewest-some Nothing n h = h
fewest-some Leading n h = omega arith
fewest-some Trailing n h = omega arith

-- and so are fewer, with zeros behind them
pub padded-length : (n : ℕ) (ds : List ℕ) → length ds ≤ n → length (ds ++ zeros (n - length ds)) ≡ n
padded-length n ds most = simp (length-append, length-replicate) (omega arith)

pub padded : (z : Missing) (n : ℕ) (ds : List ℕ) → Every Digit ds → 1 ≤ n → length ds ≤ n → (v : ℕ) × Punched n v z (ds ++ zeros (n - length ds))
padded z n ds all some most =
    let e = padded-length n ds most in
    some-punched z n (ds ++ zeros (n - length ds)) (every_append Digit ds _ all (zeros-digit (n - length ds))) (omega (arith, fewest-most z n some)) (omega arith)
