-- The scan finds the lowest row at fault, and nothing where no row is.
use mathlib.Core.Path.{◌≡◌, refl, sym, ap, ◌∙◌}
use mathlib.Core.Bool.{Bool, true, false, cond}
use mathlib.Core.Logic.{◌⊎◌, inl, inr, ⊎_elim}
use mathlib.Core.List.{List, [], ◌∷◌, ◌++◌, append_assoc}
use Prim.Native.Nat.{ℕ, zero, suc, ◌+◌, ◌≤◌, ◌<◌, zero-le}
use native.Mathlib.Nat.{add-zero, add-suc, suc-add}
use native.Mathlib.Omega.{arith}
use lib.ListN.{length, length-append}
use lib.Dec.{eqb}
use borrow.Author.Tests.{eqb-true}
use Rattle.rows.specs.Row.{character}
use Rattle.rows.specs.Stages.{go_on, scan}
use Rattle.rows.specs.Faults.{opens, closes, spoils, Open, Fault, stray, unclosed as never-closed, inside, behind_row, behind_remark, Lowest}
use Rattle.std.specs.Prelude.{Some}
use Rattle.rows.specs.declared.Side.TheVariants.{Outside, Inside, Spoilt}
use Rattle.std.specs.Prelude.{Ok, Err as Faulty}
use Rattle.rows.proofs.Every.{every_append, every_front, every_back}
use Rattle.rows.proofs.LowestRows.{Finds, nothing, lowest_one, finds-further}
use Rattle.rows.proofs.FirstRows.{Missed, Splits, nowhere, first, splits, missed-none, one-first, first-least}

-- a control-out that is not closed is at fault at its own row, whatever stands in it
spoilt-open : (r : List ℕ) (o p i : ℕ) → Open r → scan (Spoilt o p) i r ≡ Some o
unfolding scan
spoilt-open [] o p i h = refl
spoilt-open (b ∷ r) o p i h = rw h.0 (spoilt-open r o p (suc i) h.1)

inside-open : (r : List ℕ) (o i : ℕ) → Open r → scan (Inside o) i r ≡ Some o
unfolding scan
inside-open [] o i h = refl
inside-open (b ∷ r) o i h = rw h.0 (by (spoils b) (inside-open r o (suc i) h.1))
  where
    by : (x : Bool) → scan (Inside o) (suc i) r ≡ Some o → go_on (cond x (Ok (Spoilt o i)) (Ok (Inside o))) (λ n. scan n (suc i) r) ≡ Some o
    by true e = spoilt-open r o i (suc i) h.1
    by false e = e

-- one that is spoilt and closed is at fault where it was spoilt
spoilt-closed : (s : List ℕ) (c : ℕ) (u : List ℕ) (o p i : ℕ) → Open s → closes c ≡ true → scan (Spoilt o p) i (s ++ (c ∷ u)) ≡ Some p
unfolding scan
spoilt-closed [] c u o p i h e = rw e
spoilt-closed (b ∷ s) c u o p i h e = rw h.0 (spoilt-closed s c u o p (suc i) h.1 e)

inside-spoilt : (a : List ℕ) (b : ℕ) (s : List ℕ) (c : ℕ) (u : List ℕ) (o i : ℕ) → Open (a ++ (b ∷ s)) → Missed spoils a → spoils b ≡ true → closes c ≡ true
    → scan (Inside o) i ((a ++ (b ∷ s)) ++ (c ∷ u)) ≡ Some (i + length a)
unfolding scan
inside-spoilt [] b s c u o i h m q e = rw (h.0, q, add-zero) (spoilt-closed s c u o i (suc i) h.1 e)
inside-spoilt (x ∷ a) b s c u o i h m q e = rw (h.0, m.0, add-suc, ← suc-add) (inside-spoilt a b s c u o (suc i) h.1 m.1 q e)

-- one that is not spoilt leads outside again
inside-clean : (r : List ℕ) (c : ℕ) (u : List ℕ) (o i : ℕ) → Open r → Missed spoils r → closes c ≡ true → scan (Inside o) i (r ++ (c ∷ u)) ≡ scan Outside (suc (i + length r)) u
unfolding scan
inside-clean [] c u o i h m e = rw (e, add-zero)
inside-clean (b ∷ r) c u o i h m e = rw (h.0, m.0, add-suc, ← suc-add) (inside-clean r c u o (suc i) h.1 m.1 e)

-- ---- rows that begin with a control-out r, opened by o and closed by c

opened-not-closed : (o : ℕ) → opens o ≡ true → closes o ≡ true → ⊥
opened-not-closed o p q = let a = eqb-true (character o) 40 p in let b = eqb-true (character o) 41 q in omega (arith, a, b)

clash : {x : Bool} → x ≡ true → x ≡ false → ⊥
clash p q = let z : ◌≡◌ {A = ℕ} 0 1 = cc in omega arith

-- what spoils a control-out does not close it
spoils-open : (b : ℕ) → spoils b ≡ true → closes b ≡ false
spoils-open b q = by (eqb (character b) 41) refl
  where
    by : (x : Bool) → eqb (character b) 41 ≡ x → x ≡ false
    by true e = let c = eqb-true (character b) 41 e in let n : spoils b ≡ false = rw c in absurd (clash q n)
    by false e = refl

-- where its rows are at fault: inside it, or behind it
abbrev Where : List ℕ → List ℕ → ℕ → Type 0
Where r u p =
    ((a : List ℕ) × (b : ℕ) × (s : List ℕ) × (r ≡ a ++ (b ∷ s)) × (spoils b ≡ true) × (p ≡ suc (length a))) ⊎ ((q : ℕ) × (p ≡ suc (length r + suc q)) × Fault u q)

module _ (o : ℕ) (r : List ℕ) (c : ℕ) (u : List ℕ) (op : opens o ≡ true) (h : Open r) (cl : closes c ≡ true) where
  closed-where : (t : List ℕ) (p : ℕ) → t ≡ o ∷ (r ++ (c ∷ u)) → Fault t p → Where r u p
  closed-where _ _ e (stray {c = d} k) = let same : d ≡ o = cc in absurd (opened-not-closed o op (rw same at k))
  closed-where _ _ e (never-closed {r = x} k n) = let same : x ≡ r ++ (c ∷ u) = cc in absurd (missed-none closes r u c cl (rw same at n))
  closed-where _ _ e (inside x b s d v k m q n f) =
      let same : (x ++ (b ∷ s)) ++ (d ∷ v) ≡ r ++ (c ∷ u) = append_assoc x (b ∷ s) (d ∷ v) ∙ cc in
      let one = one-first closes (x ++ (b ∷ s)) r v u d c (every_append (λ y. closes y ≡ false) x (b ∷ s) m (spoils-open b q, n)) h f cl same in
      inl (x, b, s, sym one.0, q, refl)
  closed-where _ _ e (behind_row {b = b} k f) = let same : b ≡ o = cc in absurd (clash op (rw same at k))
  closed-where _ _ e (behind_remark {p = p} x d {t = v} k m n f) =
      let same : x ++ (d ∷ v) ≡ r ++ (c ∷ u) = cc in
      let one = one-first closes x r v u d c m h n cl same in
      inr (p, rw one.0, rw (sym one.1) f)

  -- spoilt: the first row that spoils it is the lowest
  lowest-inside : (a : List ℕ) (b : ℕ) (s : List ℕ) → r ≡ a ++ (b ∷ s) → Missed spoils a → spoils b ≡ true → Lowest (Fault (o ∷ (r ++ (c ∷ u)))) (suc (length a))
  lowest-inside a b s e m q = record {
    is =
        let all : Open (a ++ (b ∷ s)) = rw e at h in
        let f : Fault (o ∷ (a ++ (b ∷ (s ++ (c ∷ u))))) (suc (length a)) =
        inside a b s c u op (every_front (λ y. closes y ≡ false) a (b ∷ s) all) q (every_back (λ y. closes y ≡ false) a (b ∷ s) all).1 cl in
        rw (e, append_assoc a (b ∷ s) (c ∷ u)) f;
    least = λ p f. ⊎_elim
        (λ w. let l = first-least spoils a w.0 s w.2 b w.1 m w.4 (sym e ∙ w.3) in omega (arith, l, w.5))
        (λ w. let l = length-append a (b ∷ s) in let k = ap length e in omega (arith, w.1, l, k)) (closed-where _ p refl f);
  }

  -- not spoilt: what is at fault stands behind it
  behind-clean : Missed spoils r → (p : ℕ) → Fault (o ∷ (r ++ (c ∷ u))) p → (q : ℕ) × (p ≡ (length r + 2) + q) × Fault u q
  behind-clean m p f = ⊎_elim
      (λ w. absurd (missed-none spoils w.0 w.2 w.1 w.4 (rw w.3 at m)))
      (λ w. (w.0, w.1 ∙ omega arith, w.2)) (closed-where _ p refl f)

  past-clean : (q : ℕ) → Fault u q → Fault (o ∷ (r ++ (c ∷ u))) ((length r + 2) + q)
  past-clean q f = let at : suc (length r + suc q) ≡ (length r + 2) + q = omega arith in rw at at (behind_remark {o = o} r c op h cl f)

-- ---- rows that begin with a row outside

module _ (b : ℕ) (t : List ℕ) (no : opens b ≡ false) where
  outside-where : (u : List ℕ) (p : ℕ) → u ≡ b ∷ t → Fault u p → ((closes b ≡ true) × (p ≡ 0)) ⊎ ((q : ℕ) × (p ≡ 1 + q) × Fault t q)
  outside-where _ _ e (stray {c = d} k) = let same : d ≡ b = cc in inl (rw same at k, refl)
  outside-where _ _ e (never-closed {o = o} k n) = let same : o ≡ b = cc in absurd (clash (rw same at k) no)
  outside-where _ _ e (inside {o = o} x y s d v k m q n f) = let same : o ≡ b = cc in absurd (clash (rw same at k) no)
  outside-where _ _ e (behind_row {p = p} {t = v} k f) = let same : v ≡ t = cc in inr (p, omega arith, rw same at f)
  outside-where _ _ e (behind_remark {o = o} x d k m n f) = let same : o ≡ b = cc in absurd (clash (rw same at k) no)

no_rows : (t : List ℕ) (p : ℕ) → t ≡ [] → Fault t p → ⊥
no_rows _ _ e (stray k) = let z : ◌≡◌ {A = ℕ} 0 1 = cc in omega arith
no_rows _ _ e (never-closed k n) = let z : ◌≡◌ {A = ℕ} 0 1 = cc in omega arith
no_rows _ _ e (inside x y s d v k m q n f) = let z : ◌≡◌ {A = ℕ} 0 1 = cc in omega arith
no_rows _ _ e (behind_row k f) = let z : ◌≡◌ {A = ℕ} 0 1 = cc in omega arith
no_rows _ _ e (behind_remark x d k m n f) = let z : ◌≡◌ {A = ℕ} 0 1 = cc in omega arith

lowest-first : {P : ℕ → Type 0} → P 0 → (i : ℕ) → Finds P i (Some i)
lowest-first {P} h i = let found : Finds P i (Some (i + 0)) = lowest_one 0 (record { is = h; least = λ q k. zero-le }) in rw add-zero at found

-- a row outside
from-outside : (b : ℕ) (t : List ℕ) (i : ℕ) (x : Bool) → opens b ≡ false → closes b ≡ x → Finds (Fault t) (suc i) (scan Outside (suc i) t)
    → Finds (Fault (b ∷ t)) i (go_on (cond x (Faulty i) (Ok Outside)) (λ n. scan n (suc i) t))
from-outside b t i true plain k s = lowest-first (stray k) i
from-outside b t i false plain k s =
    finds-further {P = Fault t} {Q = Fault (b ∷ t)} i 1 (λ q f. let next : 1 + q ≡ suc q = omega arith in rw next (behind_row plain f))
    (λ q f. ⊎_elim (λ w. absurd (clash w.0 k)) (λ w. w) (outside-where b t plain (b ∷ t) q refl f)) (rw (add-suc, add-zero) s)

-- a control-out
from-opened : (o : ℕ) (t : List ℕ) (i : ℕ) → opens o ≡ true → Splits closes t → ((u : List ℕ) → length u ≤ length t → (j : ℕ) → Finds (Fault u) j (scan Outside j u))
    → Finds (Fault (o ∷ t)) i (scan (Inside i) (suc i) t)
from-opened o t i op (nowhere m) rest = rw (inside-open t i (suc i) m) (lowest-first (never-closed op m) i)
from-opened o _ i op (first r c u m e) rest = by r refl (splits spoils r)
  where
    by : (x : List ℕ) → x ≡ r → Splits spoils x → Finds (Fault (o ∷ (r ++ (c ∷ u)))) i (scan (Inside i) (suc i) (r ++ (c ∷ u)))
    by x q (nowhere n) =
        let clean = rw q at n in
        let shorter : length u ≤ length (r ++ (c ∷ u)) = omega (arith, length-append r (c ∷ u)) in
        let at : suc (suc i + length r) ≡ i + (length r + 2) = omega arith in
        rw (inside-clean r c u i (suc i) m clean e, at)
        (finds-further {P = Fault u} {Q = Fault (o ∷ (r ++ (c ∷ u)))} i (length r + 2) (past-clean o r c u op m e) (behind-clean o r c u op m e clean) (rest u shorter (i + (length r + 2))))
    by _ q (first a b s n k) =
        let at : i + suc (length a) ≡ suc i + length a = omega arith in
        let found : Finds (Fault (o ∷ (r ++ (c ∷ u)))) i (Some (i + suc (length a))) = lowest_one (suc (length a)) (lowest-inside o r c u op m e a b s (sym q) n k) in
        let scanned = inside-spoilt a b s c u i (suc i) (rw (sym q) at m) n k e in
        rw (rw q at scanned) (rw at at found)

from-rows : (t : List ℕ) (i : ℕ) → ((u : List ℕ) → length u < length t → (j : ℕ) → Finds (Fault u) j (scan Outside j u)) → Finds (Fault t) i (scan Outside i t)
unfolding scan
from-rows [] i rest = nothing (λ p f. no_rows [] p refl f)
from-rows (b ∷ t) i rest = by (opens b) refl
  where
    by : (x : Bool) → opens b ≡ x → Finds (Fault (b ∷ t)) i (go_on (cond x (Ok (Inside i)) (cond (closes b) (Faulty i) (Ok Outside))) (λ m. scan m (suc i) t))
    by true q = from-opened b t i q (splits closes t) (λ u k j. rest u (omega (arith, k)) j)
    by false q = from-outside b t i (closes b) q refl (rest t (omega arith) (suc i))

scan-within : (n : ℕ) (t : List ℕ) → length t ≤ n → (i : ℕ) → Finds (Fault t) i (scan Outside i t)
scan-within zero t l i = from-rows t i (λ u k j. absurd (omega (arith, k, l)))
scan-within (suc n) t l i = from-rows t i (λ u k j. scan-within n u (omega (arith, k, l)) j)

-- the scan finds the lowest row at fault, and nothing where there is none
pub scan-finds : (t : List ℕ) → Finds (Fault t) 0 (scan Outside 0 t)
scan-finds t = scan-within (length t) t (omega arith) 0
