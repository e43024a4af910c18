-- Too few figures and then LF are not the beginning of enough figures.
use Prim.Native.Nat.{ℕ, ◌≤◌, ◌<◌}
use mathlib.Core.Path.{◌≡◌, refl, sym, ap, ◌∙◌}
use mathlib.Core.Logic.{◌⊎◌, inl, inr}
use mathlib.Core.List.{List, [], ◌∷◌, ◌++◌}
use native.Mathlib.Omega.{arith}
use lib.ListN.{length}
use lib.IntN.{ℤ, pos}
use Rattle.rows.specs.Passes.{Every}
use Rattle.shorthand.specs.declared.Kind.{Kind}
use Rattle.shorthand.specs.Layout.{width, missing_of, fewest, Sign, sign_of}
use Rattle.words.specs.declared.Value.{Value}
use Rattle.reading.specs.Relation.{digits, Signed, never, plus, minus, Data, speed, dimension}
use Rattle.reading.proofs.DigitRows.{digits-length, digits-digit}
use Rattle.speeds.proofs.Answers.{read_short}
use Rattle.reading.proofs.WordTakes.{reads}
use Rattle.places.specs.Begins.{Digit}
use Rattle.places.specs.Faults.{SignRow}

-- ---- data and their parts

pub record Parts (k : Kind) (d : List ℕ) : Type 0 where
  pub m : ℕ
  pub z : ℤ
  pub s : List ℕ
  pub ds : List ℕ
  pub split : d ≡ s ++ ds
  pub signs : Signed m (sign_of k) z s
  pub all : Every Digit ds
  pub least : fewest (missing_of k) (width k) ≤ length ds

pub parts : {k : Kind} {v : Value} {d : List ℕ} → Data k v d → Parts k d
parts (Data.number {v = v} {ds = ds} p) = record { m = v; z = pos v; s = []; ds = ds; split = refl; signs = never; all = (reads p).digit; least = (reads p).least }
parts (speed {k = k} c e) =
    record { m = c; z = pos c; s = []; ds = digits k c; split = refl; signs = never; all = digits-digit k c (read_short k c e); least = omega (arith, digits-length k c) }
parts (dimension {m = m} {z = z} {s = s} {ds = ds} g p) = record { m = m; z = z; s = s; ds = ds; split = refl; signs = g; all = (reads p).digit; least = (reads p).least }

-- fewer digits and then LF are not the beginning of more digits
pub few-digits : (ds d o : List ℕ) → Every Digit d → length ds < length d → ds ++ (10 ∷ []) ≡ d ++ o → ⊥
few-digits ds [] o all l e = absurd (omega arith)
few-digits [] (c ∷ d) o all l e = let h : 10 ≡ c = cc in absurd (omega (arith, all.0.0))
few-digits (x ∷ ds) (c ∷ d) o all l e = let t : ds ++ (10 ∷ []) ≡ d ++ o = cc in few-digits ds d o all.1 (omega arith) t

-- none, or one sign
pub sign-shape : {m : ℕ} {g : Sign} {z : ℤ} {s : List ℕ} → Signed m g z s → (s ≡ []) ⊎ ((c : ℕ) × SignRow c × (s ≡ c ∷ []))
sign-shape never = inl refl
sign-shape plus = inr (43, inl refl, refl)
sign-shape minus = inr (45, inr refl, refl)
sign-shape Signed.plus_stands = inr (43, inl refl, refl)
sign-shape Signed.minus_stands = inr (45, inr refl, refl)
sign-shape Signed.plus_missing = inl refl

sign-far : (c d : ℕ) → SignRow c → c ≡ d → (Digit d) ⊎ (d ≡ 10) → ⊥
sign-far c d (inl h) e (inl k) = omega arith
sign-far c d (inr h) e (inl k) = omega arith
sign-far c d (inl h) e (inr k) = omega arith
sign-far c d (inr h) e (inr k) = omega arith

pub few-figures : (s ds t d o : List ℕ) → (s ≡ []) ⊎ ((c : ℕ) × SignRow c × (s ≡ c ∷ [])) → (t ≡ []) ⊎ ((c : ℕ) × SignRow c × (t ≡ c ∷ [])) → Every Digit ds → Every Digit d → length ds < length d
    → s ++ (ds ++ (10 ∷ [])) ≡ t ++ d ++ o → ⊥
few-figures s ds t d o (inl a) (inl b) p q l e = few-digits ds d o q l (sym (ap (λ x. x ++ (ds ++ (10 ∷ []))) a) ∙ e ∙ ap (λ x. x ++ d ++ o) b)
few-figures s ds t d o (inr a) (inr b) p q l e =
    let h : a.0 ∷ (ds ++ (10 ∷ [])) ≡ b.0 ∷ (d ++ o) = sym (ap (λ x. x ++ (ds ++ (10 ∷ []))) a.2) ∙ e ∙ ap (λ x. x ++ d ++ o) b.2 in
    let k : ds ++ (10 ∷ []) ≡ d ++ o = cc in
    few-digits ds d o q l k
few-figures s [] t d o (inl a) (inr b) p q l e =
    let h : 10 ∷ [] ≡ b.0 ∷ (d ++ o) = sym (ap (λ x. x ++ (10 ∷ [])) a) ∙ e ∙ ap (λ x. x ++ d ++ o) b.2 in
    let k : b.0 ≡ 10 = cc in
    sign-far b.0 10 b.1 k (inr refl)
few-figures s (x ∷ ds) t d o (inl a) (inr b) p q l e =
    let h : x ∷ (ds ++ (10 ∷ [])) ≡ b.0 ∷ (d ++ o) = sym (ap (λ y. y ++ (x ∷ (ds ++ (10 ∷ [])))) a) ∙ e ∙ ap (λ y. y ++ d ++ o) b.2 in
    let k : b.0 ≡ x = cc in
    sign-far b.0 x b.1 k (inl p.0)
few-figures s ds t [] o (inr a) (inl b) p q l e = absurd (omega arith)
few-figures s ds t (x ∷ d) o (inr a) (inl b) p q l e =
    let h : a.0 ∷ (ds ++ (10 ∷ [])) ≡ x ∷ (d ++ o) = sym (ap (λ y. y ++ (ds ++ (10 ∷ []))) a.2) ∙ e ∙ ap (λ y. y ++ (x ∷ d) ++ o) b in
    let k : a.0 ≡ x = cc in
    sign-far a.0 x a.1 k (inl q.0)
