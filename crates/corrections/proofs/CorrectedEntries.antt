-- What stands in the corrected listing: for each of the master's blocks itself or the correction's, and then each number only on the correction, once, in its order.
use Prim.Native.Nat.{ℕ, zero, suc, ◌+◌, ◌≤◌, ◌<◌}
use mathlib.Core.Path.{◌≡◌, refl, sym, ap, ◌∙◌}
use mathlib.Core.Bool.{Bool, true, false, ◌&&◌, not, cond, false≢true}
use mathlib.Core.List.{List, [], ◌∷◌}
use native.Mathlib.Nat.{le_of_suc-le-suc, not-suc-le-zero}
use native.Mathlib.Decide.{dec_le}
use native.Mathlib.Omega.{arith}
use lib.Dec.{eqb}
use lib.ListN.{length, get_or}
use borrow.Author.Tests.{eqb-true, eqb-false, eq-eqb}
use Rattle.index.specs.Index.{mark}
use Rattle.index.specs.Finding.{number_found}
use Rattle.corrections.specs.declared.Named.{Named}
use Rattle.corrections.specs.Listing.{on_master, on_correction, number_at, is_found, entry_for, is_new, new_from}
use Rattle.corrections.proofs.FoundNumbers.{First, None, Found, look}

module _ (cs ms : List ℕ) where
  -- ---- in the master's order

  -- what stands for the master's block i, which has the number q: the correction's first block of q where i is the master's first of q, and else block i itself
  pub data Stands (i q : ℕ) : Named → Type 0 where
    itself : ((q ≡ mark → ⊥) → First q ms i → None q cs) → Stands i q (on_master i)
    replaced : {j : ℕ} → (q ≡ mark → ⊥) → First q ms i → First q cs j → Stands i q (on_correction j)

  -- of two firsts there is one
  pub one-first : {q i j : ℕ} {ns : List ℕ} → First q ns i → First q ns j → i ≡ j
  one-first {q} {i} {j} {ns} f g =
      elim (dec_le i j) [
        | yes l ↦ elim (dec_le j i) [ yes m ↦ omega (arith, l, m) | no m ↦ absurd (g.before i (omega (arith, m)) f.holds) ]
        | no l ↦ absurd (f.before j (omega (arith, l)) g.holds)
      ]

  pub entry-stands : (i : ℕ) → Stands i (number_at ms i) (entry_for cs ms i)
  entry-stands i = by (look q ms) (look q cs)
    where
      q : ℕ
      q = number_at ms i

      by : Found (number_at ms i) ms → Found (number_at ms i) cs → Stands i (number_at ms i) (entry_for cs ms i)
      by (Found.nowhere f r) g = rw r (itself (λ other h. absurd (f other i h.within h.holds)))
      by (Found.at k other f r) g = at_first (eqb k i) refl g
        where
          at_first : (b : Bool) → eqb k i ≡ b → Found (number_at ms i) cs → Stands i (number_at ms i) (entry_for cs ms i)
          at_first false e g = rw (r, e) (itself (λ o h. absurd (eqb-false k i e (one-first f h))))
          at_first true e (Found.at j o g s) = rw (r, e, s) (replaced other (rw (eqb-true k i e) at f) g)
          at_first true e (Found.nowhere g s) = rw (r, e, s) (itself (λ o h. g o))

  -- a block without a number stays
  pub unnumbered-stays : (i : ℕ) → number_at ms i ≡ mark → entry_for cs ms i ≡ on_master i
  unnumbered-stays i e = by (entry-stands i)
    where
      by : {x : Named} → Stands i (number_at ms i) x → x ≡ on_master i
      by (itself h) = refl
      by (replaced other f g) = absurd (other e)

  -- ---- only on the correction

  -- the correction's block j has a number, is the first of it, and the master has none of it
  pub record New (j : ℕ) : Type 0 where
    pub numbered : number_at cs j ≡ mark → ⊥
    pub first : First (number_at cs j) cs j
    pub none : None (number_at cs j) ms

  pub is-new : (j : ℕ) → is_new cs ms j ≡ true → New j
  is-new j e = by (look (number_at cs j) cs) (look (number_at cs j) ms)
    where
      at-it : (k : ℕ) → (number_at cs j ≡ mark → ⊥) → First (number_at cs j) cs k → Found (number_at cs j) ms → (b : Bool) → eqb k j ≡ b → (b && not (is_found (number_found ms (number_at cs j)))) ≡ true → New j
      at-it k other f g false q h = absurd (false≢true h)
      at-it k other f (Found.at i o g r) true q h = absurd (false≢true (rw r at h))
      at-it k other f (Found.nowhere g r) true q h = record { numbered = other; first = rw (eqb-true k j q) at f; none = g other }

      by : Found (number_at cs j) cs → Found (number_at cs j) ms → New j
      by (Found.nowhere f r) g = absurd (false≢true (rw r at e))
      by (Found.at k other f r) g = at-it k other f g (eqb k j) refl (rw r at e)

  pub new_is : (j : ℕ) → New j → is_new cs ms j ≡ true
  new_is j h = by (look (number_at cs j) cs) (look (number_at cs j) ms)
    where
      by : Found (number_at cs j) cs → Found (number_at cs j) ms → is_new cs ms j ≡ true
      by (Found.nowhere f r) g = absurd (f h.numbered j h.first.within h.first.holds)
      by (Found.at k other f r) (Found.at i o g s) = absurd (h.none i g.within g.holds)
      by (Found.at k other f r) (Found.nowhere g s) = rw (r, s, eq-eqb k j (one-first f h.first))

  -- entry n of some is the correction's block j, a new one
  pub record NewAt (es : List Named) (n j : ℕ) : Type 0 where
    pub within : n < length es
    pub is : get_or es n (on_master 0) ≡ on_correction j
    pub new : New j

  -- each entry past the master's names a new block, and these rise
  pub data Rise : ℕ → ℕ → List Named → Type 0 where
    none : {from to : ℕ} → Rise from to []
    more : {from to j : ℕ} {es : List Named} → from ≤ j → j < to → New j → Rise (suc j) to es → Rise from to (on_correction j ∷ es)

  lower : {from least to : ℕ} {es : List Named} → least ≤ from → Rise from to es → Rise least to es
  lower l none = none
  lower {least = least} l (more {j = j} a b h r) = let m : least ≤ j = omega (arith, l, a) in more m b h r

  pub new-rise : (k j : ℕ) → Rise j (j + k) (new_from cs ms k j)
  unfolding new_from
  new-rise zero j = none
  new-rise (suc k) j = by (is_new cs ms j) refl (new-rise k (suc j))
    where
      same : suc j + k ≡ j + suc k
      same = omega arith

      by : (b : Bool) → is_new cs ms j ≡ b → Rise (suc j) (suc j + k) (new_from cs ms k (suc j)) → Rise j (j + suc k) (cond b (on_correction j ∷ new_from cs ms k (suc j)) (new_from cs ms k (suc j)))
      by true e r = let m : j ≤ j = omega arith in let w : j < j + suc k = omega arith in more m w (is-new j e) (rw same at r)
      by false e r = lower (omega arith) (rw same at r)

  -- entry n of those
  pub rise-at : {from to : ℕ} {es : List Named} → Rise from to es → (n : ℕ) → n < length es → (j : ℕ) × NewAt es n j × (from ≤ j) × (j < to)
  rise-at none n l = absurd (not-suc-le-zero l)
  rise-at (more {j = j} a b h r) zero l = (j, record { within = l; is = refl; new = h }, a, b)
  rise-at (more {j = j} a b h r) (suc n) l =
      let k = rise-at r n (le_of_suc-le-suc l) in
      (k.0, record { within = l; is = k.1.is; new = k.1.new }, omega (arith, a, k.2), k.3)

  -- of two of them the later names a later block, with another number
  pub rise-later : {from to : ℕ} {es : List Named} → Rise from to es → {n m i j : ℕ} → n < m → NewAt es n i → NewAt es m j → (i < j) × (number_at cs i ≡ number_at cs j → ⊥)
  rise-later r {n} {m} {i} {j} l a b = let k = order r n m i j l a b in (k, λ e. b.new.first.before i k e)
    where
      same : {i j : ℕ} → on_correction i ≡ on_correction j → i ≡ j
      same e = ap (λ (x : Named). x.block) e

      order : {from to : ℕ} {es : List Named} → Rise from to es → (n m i j : ℕ) → n < m → NewAt es n i → NewAt es m j → i < j
      order none n m i j l a b = absurd (not-suc-le-zero a.within)
      order (more {j = h} p q w r) zero zero i j l a b = absurd (not-suc-le-zero l)
      order (more {j = h} p q w r) (suc n) zero i j l a b = absurd (not-suc-le-zero l)
      order (more {j = h} p q w r) zero (suc m) i j l a b =
          let k = rise-at r m (le_of_suc-le-suc b.within) in
          let first : h ≡ i = same a.is in
          let later : k.0 ≡ j = same (sym k.1.is ∙ b.is) in
          omega (arith, first, later, k.2)
      order (more {j = h} p q w r) (suc n) (suc m) i j l a b =
          order r n m i j (le_of_suc-le-suc l) (record { within = le_of_suc-le-suc a.within; is = a.is; new = a.new }) (record { within = le_of_suc-le-suc b.within; is = b.is; new = b.new })

  -- each new block is there
  pub all_new : (k j b : ℕ) → j ≤ b → b < j + k → New b → (n : ℕ) × NewAt (new_from cs ms k j) n b
  unfolding new_from
  all_new zero j b l h w = absurd (omega (arith, l, h))
  all_new (suc k) j b l h w = by (is_new cs ms j) refl (eqb b j) refl (λ q. all_new k (suc j) b q (omega (arith, h)) w)
    where
      by : (x : Bool) → is_new cs ms j ≡ x → (y : Bool) → eqb b j ≡ y → (suc j ≤ b → (n : ℕ) × NewAt (new_from cs ms k (suc j)) n b)
          → (n : ℕ) × NewAt (cond x (on_correction j ∷ new_from cs ms k (suc j)) (new_from cs ms k (suc j))) n b
      by true e true q turn = (0, record { within = omega arith; is = ap on_correction (sym (eqb-true b j q)); new = w })
      by true e false q turn = let r = turn (after q) in (suc r.0, record { within = omega (arith, r.1.within); is = r.1.is; new = w })
        where
          after : eqb b j ≡ false → suc j ≤ b
          after q = elim (dec_le (suc j) b) [ yes m ↦ m | no m ↦ absurd (eqb-false b j q (omega (arith, l, m))) ]
      by false e true q turn = absurd (false≢true (sym e ∙ ap (is_new cs ms) (sym (eqb-true b j q)) ∙ new_is b w))
      by false e false q turn = turn (after q)
        where
          after : eqb b j ≡ false → suc j ≤ b
          after q = elim (dec_le (suc j) b) [ yes m ↦ m | no m ↦ absurd (eqb-false b j q (omega (arith, l, m))) ]
