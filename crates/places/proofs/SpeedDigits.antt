-- Digits of a speed: further digits make a code that means one, or none do.
use Prim.Native.Nat.{ℕ, zero, suc, ◌+◌, ◌-◌, ◌^◌, ◌≤◌, ◌<◌}
use mathlib.Core.Path.{◌≡◌, refl, sym, ap, ◌∙◌, subst}
use mathlib.Core.Logic.{◌⊎◌, inl, inr, ⊎_elim}
use mathlib.Core.Bool.{Bool, true, false}
use mathlib.Core.List.{List, [], ◌∷◌, ◌++◌, append-nil}
use native.Mathlib.Nat.{add-zero, one-le-pow, zero-lt-suc}
use native.Mathlib.Decide.{dec_lt}
use native.Mathlib.Omega.{arith}
use lib.ListN.{length, length-replicate, replicate-append-replicate}
use lib.Dec.{eqb, lit≤}
use borrow.Author.Tests.{eqb-true, eqb-false}
use Rattle.rows.specs.Answer.{taken, refused, number_of}
use Rattle.speeds.specs.declared.Speed.{Speed}
use Rattle.speeds.specs.Meaning.{speed_for}
use Rattle.speeds.proofs.Answers.{code-judged, zero-code, read_short}
use Rattle.shorthand.specs.declared.Kind.{Kind}
use Rattle.shorthand.specs.Facts.{Widths}
use Rattle.words.specs.declared.Value.{Value}
use Rattle.reading.specs.Relation.{digits, zeros, Data, speed}
use Rattle.reading.proofs.Runs.{digits-leading}
use Rattle.places.specs.Faults.{Spoilt}

-- ---- a search

-- some number under n is one of them, or none is
found : (P : ℕ → Type 0) → ((c : ℕ) → P c ⊎ (P c → ⊥)) → (n : ℕ) → ((c : ℕ) × P c) ⊎ ((c : ℕ) → c < n → P c → ⊥)
found P d zero = inr (λ c l h. omega arith)
found P d (suc n) = ⊎_elim (λ h. inl (n, h)) (λ nay. ⊎_elim inl (λ none. inr (below nay none)) (found P d n)) (d n)
  where
    below : (P n → ⊥) → ((c : ℕ) → c < n → P c → ⊥) → (c : ℕ) → c < suc n → P c → ⊥
    below nay none c l h = elim (dec_lt c n) [ yes m ↦ none c m h | no m ↦ let e : c ≡ n = omega arith in nay (rw e at h) ]

-- what stands behind ds in a list that begins with them
abbrev Behind : List ℕ → List ℕ → Type 0
Behind ds l = (more : List ℕ) × (ds ++ more ≡ l)

behind : (ds l : List ℕ) → Behind ds l ⊎ (Behind ds l → ⊥)
behind [] l = inl (l, refl)
behind (d ∷ ds) [] = inr (λ h. let z = ap length h.1 in omega arith)
behind (d ∷ ds) (e ∷ l) = go (eqb d e) refl (behind ds l)
  where
    go : (b : Bool) → eqb d e ≡ b → Behind ds l ⊎ (Behind ds l → ⊥) → Behind (d ∷ ds) (e ∷ l) ⊎ (Behind (d ∷ ds) (e ∷ l) → ⊥)
    go true q (inl h) = inl (h.0, rw (eqb-true d e q, h.1))
    go true q (inr n) = inr (λ h. n (h.0, (let g = h.1 in cc)))
    go false q h = inr (λ h. eqb-false d e q (let g = h.1 in cc))

-- ---- whether digits can be saved

never_both : {a : Speed} (x : ℕ) (k : ℕ) → speed_for k x ≡ taken a → speed_for k x ≡ refused 13 0 → ⊥
never_both x k e f = let n : ◌≡◌ {A = ℕ} 0 13 = ap number_of (sym e ∙ f) in omega arith

-- a code of k digits that begins with ds and means a speed
abbrev pub Saves : ℕ → List ℕ → ℕ → Type 0
Saves k ds c = Behind ds (digits k c) × ((s : Speed) × (speed_for k c ≡ taken s))

module _ (k : ℕ) (w : Widths (Kind.Speed k)) where
  -- some digits behind them make a code that means a speed, or they are spoilt
  pub saved : (ds : List ℕ) → length ds ≤ k → ((c : ℕ) × Saves k ds c) ⊎ Spoilt k ds
  saved ds few = ⊎_elim (λ h. inl (h.0, h.1.1)) (λ none. inr (record { fits = few; lost = lost none })) (found Saving saving (10 ^ k))
    where
      Saving : ℕ → Type 0
      Saving c = (c < 10 ^ k) × Saves k ds c

      saving : (c : ℕ) → Saving c ⊎ (Saving c → ⊥)
      saving c =
          elim (dec_lt c (10 ^ k)) [
            | yes l ↦ ⊎_elim
                (λ b. ⊎_elim (λ s. inl (l, (b, s))) (λ n. inr (λ h. never_both c k h.1.1.1 n)) (code-judged k c w.0 w.1 l))
                (λ n. inr (λ h. n h.1.0))
                (behind ds (digits k c))
            | no l ↦ inr (λ h. l h.0)
          ]

      lost : ((c : ℕ) → c < 10 ^ k → Saving c → ⊥) → (c : ℕ) (more : List ℕ) → c < 10 ^ k → ds ++ more ≡ digits k c → speed_for k c ≡ refused 13 0
      lost none c more l e = ⊎_elim (λ s. absurd (none c l (l, ((more, e), s)))) (λ n. n) (code-judged k c w.0 w.1 l)

  -- zeros are never spoilt, none of them least of all
  pub zeros-saved : (j : ℕ) → Spoilt k (zeros j) → ⊥
  zeros-saved j s =
      let z = zero-code k w.0 w.1 in
      let few : j ≤ k = rw (length-replicate {A = ℕ}) at s.fits in
      let all : j + (k - j) ≡ k = omega arith in
      let are : zeros j ++ zeros (k - j) ≡ digits k 0 = replicate-append-replicate j (k - j) 48 ∙ ap zeros all ∙ sym (zero-digits k) in
      never_both 0 k z.1 (s.lost 0 (zeros (k - j)) (one-le-pow k 10 (zero-lt-suc 9)) are)
    where
      zero-digits : (k : ℕ) → digits k 0 ≡ zeros k
      zero-digits k = ap (λ n. digits n 0) (sym (add-zero k)) ∙ digits-leading k 0 0 (lit≤ tt) ∙ append-nil (zeros k)

  pub spoilt-some : (ds : List ℕ) → Spoilt k ds → 0 < length ds
  spoilt-some [] s = absurd (zeros-saved 0 s)
  spoilt-some (d ∷ ds) s = zero-lt-suc _

-- no word of a speed item begins with spoilt digits
pub spoilt-never : {k : ℕ} {v : Value} {d : List ℕ} → Data (Kind.Speed k) v d → (ds o : List ℕ) → Spoilt k ds → d ≡ ds ++ o → ⊥
spoilt-never {k} (speed c e) ds o s are = never_both c k e (s.lost c o (read_short k c e) (sym are))
