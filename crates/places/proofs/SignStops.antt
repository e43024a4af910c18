-- How the sign where a word's data begin goes, and with the figures behind it.
use Prim.Native.Nat.{ℕ}
use mathlib.Core.Path.{◌≡◌, refl, sym, ap, ◌∙◌}
use mathlib.Core.Logic.{inl, inr}
use mathlib.Core.Bool.{Bool, true, false, cond, false≢true}
use mathlib.Core.List.{List, [], ◌∷◌, append-nil, ◌++◌}
use native.Mathlib.Nat.{zero-lt-suc}
use native.Mathlib.Omega.{arith}
use lib.ListN.{length}
use lib.IntN.{ℤ}
use lib.Dec.{eqb}
use Rattle.rows.specs.Answer.{Answer, refused, ◌>>=◌}
use Rattle.rows.specs.Kept.{KeptRow}
use Rattle.shorthand.specs.declared.Kind.{Kind}
use Rattle.shorthand.specs.Layout.{Way, width, missing_of, Sign, barred, required, optional, sign_of}
use Rattle.reading.specs.Relation.{Signed, chars}
use Rattle.words.specs.declared.Wanted.{Wanted}
use Rattle.words.specs.Figures.{Behind, taking, is_sign, may_stand, may_miss, figures, signed}
use Rattle.reading.proofs.ReadData.{SignRows, sign-stands, sign-missing, sign-is}
use Rattle.reading.proofs.RowsAhead.{digit-no-sign}
use Rattle.words.proofs.Signs.{sign}
use Rattle.places.specs.Faults.{SignRow, Enters, SignFault, barred_sign, missing_sign}
use Rattle.places.proofs.Steady.{Like, first_row, Next, next-any, at_end, Goes, took, held, goes-alone, goes_map, goes_bind}
use Rattle.places.proofs.FigureStops.{Figured, FigureStop, figures-go}

-- ---- the sign

not-sign : (c : ℕ) → is_sign c ≡ false → SignRow c → ⊥
not-sign c e h = false≢true (sym e ∙ sign c h)

module _ (y : Way) where
  sign-barred : (s : Sign) (c : ℕ) → may_stand s ≡ false → is_sign c ≡ true → SignFault y s c
  sign-barred barred c n e = barred_sign (sign-is c e)
  sign-barred required c n e = absurd (false≢true (sym n))
  sign-barred optional c n e = absurd (false≢true (sym n))

  sign-asked : (s : Sign) (c : ℕ) → may_miss s ≡ false → is_sign c ≡ false → Enters y c → SignFault y s c
  sign-asked barred c n e h = absurd (false≢true (sym n))
  sign-asked required c n e h = missing_sign (not-sign c e) h
  sign-asked optional c n e h = absurd (false≢true (sym n))

pub data SignStop (y : Way) (s : Sign) : ℕ → List ℕ → List ℕ → List ℕ → Type 0 where
  fault : {c : ℕ} → SignFault y s c → SignStop y s 12 [] [] (c ∷ [])
  cut_sign : SignStop y s 14 [] [] []

-- rows that begin alike, with no sign
no-sign-like : (len : ℕ) (s : Sign) (r : KeptRow) (rs : List KeptRow) → is_sign r.char ≡ false → may_miss s ≡ true → (l : List KeptRow) → Like (r ∷ rs) l → signed len s l ≡ taking false l
no-sign-like len s r rs n m l (first_row (inl e)) = rw (← e, n, m)
no-sign-like len s r rs n m l (first_row {s = q} (inr h)) = rw (digit-no-sign q.char h.1, m)

-- where no sign s stands, the character is none, and may begin the data
abbrev pub Unsigned : Way → List ℕ → ℕ → Type 0
Unsigned y s c = s ≡ [] → (SignRow c → ⊥) × Enters y c

-- a sign, or none and none at the front
abbrev SignTaken : Way → Sign → Bool → List ℕ → List KeptRow → Type 0
SignTaken y s neg u rest = SignRows s neg u × Next (Unsigned y u) rest

module _ (len : ℕ) (y : Way) (s : Sign) where
  signed-go : (rs : List KeptRow) → Next (Enters y) rs → Goes (signed len s) len (SignTaken y s) (SignStop y s) rs (signed len s rs)
  signed-go [] enters = held (at_end [] [] refl tt cut_sign)
  signed-go (r ∷ rs) enters = go (is_sign r.char) refl (may_stand s) refl (may_miss s) refl
    where
      stops : (f : SignFault y s r.char) → ((l : List KeptRow) → signed len s (r ∷ l) ≡ refused 12 r.place) → Goes (signed len s) len (SignTaken y s) (SignStop y s) (r ∷ rs) (refused 12 r.place)
      stops f e = goes-alone 12 (r ∷ []) rs (zero-lt-suc 0) refl (fault f) (λ n. absurd (omega arith)) (λ l. rw (e l) tt)

      go : (b : Bool) → is_sign r.char ≡ b → (c : Bool) → may_stand s ≡ c → (d : Bool) → may_miss s ≡ d
          → Goes (signed len s) len (SignTaken y s) (SignStop y s) (r ∷ rs) (cond b (cond c (taking (eqb r.char 45) rs) (refused 12 r.place)) (cond d (taking false (r ∷ rs)) (refused 12 r.place)))
      go true e true f d g =
          took {a = eqb r.char 45} (r ∷ []) refl (sign-stands s r.char f (sign-is r.char e), next-any (λ c n. let z = ap length n in absurd (omega arith)) rs) (λ l h. rw (e, f))
      go true e false f d g = stops (sign-barred y s r.char f e) (λ l. rw (e, f))
      go false e c f true g = took [] refl (sign-missing s g, λ n. (not-sign r.char e, enters)) (λ l h. no-sign-like len s r rs e g l h)
      go false e c f false g = stops (sign-asked y s r.char g e enters) (λ l. rw (e, g))

-- ---- the sign and the figures

-- a sign that the item allows, and enough digits
pub record Given (k : Kind) (g : Bool × ℕ) (u : List ℕ) (rest : List KeptRow) : Type 0 where
  pub sgn : List ℕ
  pub ds : List ℕ
  pub split : u ≡ sgn ++ ds
  pub signs : SignRows (sign_of k) g.0 sgn
  pub figured : Figured (missing_of k) (width k) g.1 ds rest

pub data DataStop (y : Way) (k : Kind) : ℕ → List ℕ → List ℕ → List ℕ → Type 0 where
  in_sign : {n : ℕ} {b ds w : List ℕ} → SignStop y (sign_of k) n b ds w → DataStop y k n b ds w
  in_figures : {n m : ℕ} {z : ℤ} {s b ds w : List ℕ} → Signed m (sign_of k) z s → FigureStop (Unsigned y s) Wanted.Digits (missing_of k) (width k) n b ds w → DataStop y k n (s ++ b) ds w

-- the sign and the figures of a word's data
abbrev pub given : ℕ → Kind → List KeptRow → Answer (Behind (Bool × ℕ))
given len k rs = signed len (sign_of k) rs >>= λ s. figures len Wanted.Digits (missing_of k) (width k) s.rest >>= λ m. taking (s.value, m.value) m.rest

pub given-goes : (len : ℕ) (y : Way) (k : Kind) (rs : List KeptRow) → Next (Enters y) rs → Goes (given len k) len (Given k) (DataStop y k) rs (given len k rs)
given-goes len y k rs enters =
    goes_bind (goes_map (λ a u l h. h) (λ n b ds w h. in_sign h) (signed-go len y (sign_of k) rs enters)) λ neg s rest e g.
    goes_bind (goes_map (λ a u l h. h) (λ n b ds w h. in_figures (g.0 0) h) (figures-go len Wanted.Digits (missing_of k) (width k) (Unsigned y (chars s)) rest g.1)) λ m ds rest₂ e h.
    took [] refl (record { sgn = chars s; ds = chars ds; split = rw append-nil; signs = g.0; figured = h }) (λ l e. refl)
