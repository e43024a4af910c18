-- What the parsers of a word read: its sign, its figures, and its data by the item's kind.
use Prim.Native.Nat.{ℕ, ◌<◌, ◌^◌}
use mathlib.Core.Path.{◌≡◌, refl}
use mathlib.Core.Logic.{◌⊎◌, inl, inr}
use mathlib.Core.Bool.{Bool, true, false, ◌||◌, false≢true}
use mathlib.Core.List.{List, [], ◌∷◌, ◌++◌, append-nil}
use lib.Dec.{eqb, lit≤}
use lib.IntN.{ℤ}
use borrow.Author.Tests.{eqb-true}
use Rattle.rows.specs.Answer.{Answer, taken, refused}
use Rattle.rows.specs.Kept.{KeptRow}
use Rattle.speeds.specs.declared.Speed.{Speed}
use Rattle.speeds.specs.Meaning.{speed_for}
use Rattle.shorthand.specs.declared.Missing.TheVariants.{Nothing}
use Rattle.shorthand.specs.declared.Kind.{Kind}
use Rattle.shorthand.specs.declared.Kind.TheVariants.{Plain}
use Rattle.shorthand.specs.Layout.{width, missing_of, Sign, barred, required, optional, sign_of}
use Rattle.reading.specs.Relation.{digits, Punched, in_full, Signed, never, plus, minus, plus_stands, minus_stands, plus_missing, Data, number, speed, dimension, chars}
use Rattle.words.specs.Figures.{is_sign, may_stand, may_miss, signed}
use Rattle.words.specs.declared.Wanted.{Wanted}
use Rattle.words.specs.Data.{signed_value, spoken, meant, data_at}
use Rattle.rows.proofs.Outcomes.{Holds, refusal, value, holds-bind, holds-cond}
use Rattle.reading.proofs.Outcomes.{Reads, Table, Placed, next_row, chars-append, reads-done, reads_then}
use Rattle.reading.proofs.Runs.{figures-read}

pub either : (a b : Bool) → (a || b) ≡ true → (a ≡ true) ⊎ (b ≡ true)
either true b e = inl refl
either false b e = inr e

-- ---- the sign

-- the rows of a sign that says minus or not, for every magnitude
abbrev pub SignRows : Sign → Bool → List ℕ → Type 0
SignRows s negative r = (m : ℕ) → Signed m s (signed_value negative m) r

pub sign-stands : (s : Sign) (c : ℕ) → may_stand s ≡ true → (c ≡ 43) ⊎ (c ≡ 45) → SignRows s (eqb c 45) (c ∷ [])
sign-stands barred c may e m = absurd (false≢true may)
sign-stands required c may (inl e) m = rw e plus
sign-stands required c may (inr e) m = rw e minus
sign-stands optional c may (inl e) m = rw e plus_stands
sign-stands optional c may (inr e) m = rw e minus_stands

pub sign-missing : (s : Sign) → may_miss s ≡ true → SignRows s false []
sign-missing barred may m = never
sign-missing required may m = absurd (false≢true may)
sign-missing optional may m = plus_missing

pub barred-none : {m : ℕ} {z : ℤ} {r : List ℕ} → Signed m barred z r → r ≡ []
barred-none never = refl

pub sign-is : (c : ℕ) → is_sign c ≡ true → (c ≡ 43) ⊎ (c ≡ 45)
sign-is c e = go (either (eqb c 43) (eqb c 45) e)
  where
    go : (eqb c 43 ≡ true) ⊎ (eqb c 45 ≡ true) → (c ≡ 43) ⊎ (c ≡ 45)
    go (inl h) = inl (eqb-true c 43 h)
    go (inr h) = inr (eqb-true c 45 h)

-- ---- figures

pub punched-full : {n v : ℕ} {ds : List ℕ} → Punched n v Nothing ds → (v < 10 ^ n) × (ds ≡ digits n v)
punched-full (in_full h) = (h, refl)

-- ---- data

-- a code of the item's length is refused, at the place of its address, only as Q says
abbrev pub Sayable : (Q : ℕ → ℕ → Type 0) (P : ℕ → Type 0) → Kind → Type 0
Sayable Q P (Plain n) = Unit {0}
Sayable Q P (Kind.Speed k) = (c a : ℕ) → c < 10 ^ k → P a → Holds (λ n p. Q n a) (λ v. Unit {0}) (speed_for k c)
Sayable Q P (Kind.Dimension d) = Unit {0}

module _ {Q : ℕ → ℕ → Type 0} {P : ℕ → Type 0} {len : ℕ} (t : Table Q P len) where
  signed-read : (s : Sign) (rs : List KeptRow) → Placed P rs → Holds Q (Reads (λ negative r. SignRows s negative (chars r)) rs) (signed len s rs)
  signed-read s [] all = refusal t.cut
  signed-read s (r ∷ rs) (next_row h all) =
      let told = t.at_row 12 (lit≤ tt) (lit≤ tt) r.place h in
      holds-cond (is_sign r.char)
      (λ e. holds-cond (may_stand s) (λ may. value (record { took = r ∷ []; split = refl; stands = sign-stands s r.char may (sign-is r.char e) })) (λ bars. refusal told))
      (λ e. holds-cond (may_miss s) (λ may. reads-done (sign-missing s may)) (λ asks. refusal told))

  speed-told : (a k c : ℕ) (x : Answer Speed) → speed_for k c ≡ x → Holds (λ n p. Q n a) (λ v. Unit {0}) x → Holds Q (λ v. Data (Kind.Speed k) v (digits k c)) (spoken a x)
  speed-told a k c (taken v) e h = value (speed c e)
  speed-told a k c (refused n p) e (refusal h) = refusal h

  meant-told : (a : ℕ) → P a → (k : Kind) → Sayable Q P k → (negative : Bool) (m : ℕ) {r ds : List ℕ} → SignRows (sign_of k) negative r → Punched (width k) m (missing_of k) ds
      → Holds Q (λ v. Data k v (r ++ ds)) (meant a k negative m)
  meant-told a ha (Plain n) says negative m s p = rw (barred-none (s m)) (value (number p))
  meant-told a ha (Kind.Speed k) says negative m s p =
      let full = punched-full p in
      rw (barred-none (s m), full.1) (speed-told a k m (speed_for k m) refl (says m a full.0 ha))
  meant-told a ha (Kind.Dimension d) says negative m s p = value (dimension (s m) p)

  pub data-read : (a : ℕ) → P a → (k : Kind) → Sayable Q P k → (rs : List KeptRow) → Placed P rs → Holds Q (Reads (λ v s. Data k v (chars s)) rs) (data_at len a k rs)
  unfolding data_at
  data-read a ha k says rs all =
      reads_then all (signed-read (sign_of k) rs all) λ s r all₁ h.
      reads_then all₁ (figures-read t Wanted.Digits (missing_of k) (width k) s.rest all₁) λ m ds all₂ p.
      holds-bind (meant-told a ha k says s.value m.value h p) λ x d. reads-done (rw (append-nil, chars-append) d)
