-- Letters that lead to their items, and the item that is due at a front.
use mathlib.Core.Path.{◌≡◌, refl, sym, ap, ◌∙◌}
use mathlib.Core.Bool.{Bool, true, false, cond}
use mathlib.Core.List.{List, [], ◌∷◌}
use mathlib.Core.Logic.{◌⊎◌, inl, inr}
use Prim.Native.Nat.{ℕ, zero, suc, ◌+◌, ◌≤◌, ◌<◌}
use native.Mathlib.Nat.{le_refl}
use native.Mathlib.Decide.{dec_lt}
use native.Mathlib.Omega.{arith}
use lib.Dec.{eqb, ltb}
use lib.ListN.{length, get_or, set, replicate, length-set, length-replicate}
use lib.Seq.{get_or-set_same, get_or-set_other, ext_get_or}
use borrow.Author.Tests.{eqb-true, eqb-false, ne_eqb, ltb-true, ltb-false}
use Rattle.rows.specs.Kept.{KeptRow}
use Rattle.shorthand.specs.declared.Format.{Format}
use Rattle.shorthand.specs.Facts.{Facts}
use Rattle.shorthand.proofs.FormatItems.{counted, item-is}
use Rattle.shorthand.proofs.OneItem.{letters-apart}
use Rattle.words.specs.Figures.{fronts}
use Rattle.parts.specs.Items.{lead_of, letter_at, Leads, due_at}

-- ---- letters that lead to their items

-- past its end too
all_alike : (n i a : ℕ) → get_or (replicate n a) i a ≡ a
all_alike zero i a = refl
all_alike (suc n) zero a = refl
all_alike (suc n) (suc i) a = all_alike n i a

module _ (f : Format) where
  -- the letters of the first k items lead to them, and all other characters nowhere
  pub record Led (leads : List ℕ) (k : ℕ) : Type 0 where
    pub all : 256 ≡ length leads
    pub own : (i : ℕ) → i < k → lead_of leads (letter_at f i) ≡ i
    pub others : (c : ℕ) → ((i : ℕ) → i < k → letter_at f i ≡ c → ⊥) → lead_of leads c ≡ 22

  pub led-none : (leads : List ℕ) → leads ≡ replicate 256 22 → Led leads 0
  led-none leads e =
      record {
        all = sym (ap length e ∙ length-replicate {A = ℕ} 256 22);
        own = λ i l. absurd (omega (arith, l));
        others = λ c n. ap (λ x. lead_of x c) e ∙ all_alike 256 c 22;
      }

  module _ (h : Facts f) where
    apart : (i k : ℕ) → i < k → k < f.count → letter_at f i ≡ letter_at f k → ⊥
    apart i k l m e =
        letters-apart h.fair i k l (omega (arith, m, counted f h))
        (ap (λ x. x.letter) (item-is f h i (omega (arith, l, m))) ∙ e ∙ ap (λ x. x.letter) (sym (item-is f h k m)))

    pub led-more : {leads : List ℕ} {k : ℕ} → Led leads k → k < f.count → letter_at f k < 256 → Led (set leads (letter_at f k) k) (k + 1)
    led-more {leads} {k} g m b =
        record {
          all = g.all ∙ sym (length-set leads (letter_at f k) k);
          own = own;
          others = λ c n. get_or-set_other leads (letter_at f k) c k 22 (λ e. n k (omega arith) (sym e)) ∙ g.others c (λ i j. n i (omega (arith, j)));
        }
      where
        own : (i : ℕ) → i < k + 1 → lead_of (set leads (letter_at f k) k) (letter_at f i) ≡ i
        own i l =
            elim (dec_lt i k) [
              | yes j ↦ get_or-set_other leads (letter_at f k) (letter_at f i) k 22 (apart i k j m) ∙ g.own i j
              | no j ↦ let e : i ≡ k = omega (arith, l, j) in rw e (get_or-set_same leads (letter_at f k) k 22 (omega (arith, b, g.all)))
            ]

-- one possible result: a Format's letters lead in one way
module _ (f : Format) where
  abbrev pub Sought : ℕ → ℕ → Type 0
  Sought c k = ((i : ℕ) × (i < k) × (letter_at f i ≡ c)) ⊎ ((i : ℕ) → i < k → letter_at f i ≡ c → ⊥)

  -- whether a character is the letter of one of the first k items
  pub sought : (c k : ℕ) → Sought c k
  sought c zero = inr (λ i l e. absurd (omega (arith, l)))
  sought c (suc k) = further k (eqb (letter_at f k) c) refl (sought c k)
    where
      further : (k : ℕ) (b : Bool) → eqb (letter_at f k) c ≡ b → Sought c k → Sought c (suc k)
      further k true q s = inl (k, omega arith, eqb-true (letter_at f k) c q)
      further k false q (inl s) = inl (s.0, omega (arith, s.1), s.2)
      further k false q (inr n) =
          inr (λ i l e. elim (dec_lt i k) [
            | yes j ↦ n i j e
            | no j ↦ (let z : i ≡ k = omega (arith, l, j) in eqb-false (letter_at f k) c q (rw z at e))
          ])

  module _ {a b : List ℕ} (g : Leads f a) (h : Leads f b) where
    lead-one : (c : ℕ) → Sought c f.count → lead_of a c ≡ lead_of b c
    lead-one c (inl s) = rw (← s.2) (g.own s.0 s.1 ∙ sym (h.own s.0 s.1))
    lead-one c (inr n) = g.others c n ∙ sym (h.others c n)

    pub one-leads : a ≡ b
    one-leads = ext_get_or 22 a b (sym g.all ∙ h.all) (λ c l. lead-one c (sought c f.count))

-- ---- the item that is due at a front

-- no letter that leads to an item from k up to r is at the front; with tabs no item is passed by
pub record LeftOut (leads : List ℕ) (dots : Bool) (k r : ℕ) (rs : List KeptRow) : Type 0 where
  pub on : k ≤ r
  pub tabs : dots ≡ true → r ≡ k
  pub other : (c : ℕ) → k ≤ lead_of leads c → lead_of leads c < r → fronts c rs ≡ false

module _ (leads : List ℕ) (k : ℕ) (h : k ≤ 22) where
  no-tabs : {A : Type 0} → false ≡ true → A
  no-tabs e = absurd (let z : ◌≡◌ {A = ℕ} 0 1 = cc in omega (arith, z))

  by_front : (r : KeptRow) (u : List KeptRow) (b : Bool) → ltb (lead_of leads r.char) k ≡ b → LeftOut leads false k (cond b 22 (lead_of leads r.char)) (r ∷ u)
  by_front r u b q = by b q
    where
      another : (c : ℕ) → (lead_of leads c ≡ lead_of leads r.char → ⊥) → fronts c (r ∷ u) ≡ false
      another c d = ne_eqb r.char c (λ e. d (ap (lead_of leads) (sym e)))

      by : (b : Bool) → ltb (lead_of leads r.char) k ≡ b → LeftOut leads false k (cond b 22 (lead_of leads r.char)) (r ∷ u)
      by true q = record { on = h; tabs = no-tabs; other = λ c l m. another c (λ e. omega (arith, e, l, ltb-true (lead_of leads r.char) k q)) }
      by false q = record { on = ltb-false (lead_of leads r.char) k q; tabs = no-tabs; other = λ c l m. another c (λ e. omega (arith, e, m)) }

  pub passed : (dots : Bool) (rs : List KeptRow) → LeftOut leads dots k (due_at leads dots k rs) rs
  unfolding due_at
  passed true rs = record { on = le_refl k; tabs = λ e. refl; other = λ c l m. absurd (omega (arith, l, m)) }
  passed false [] = record { on = h; tabs = no-tabs; other = λ c l m. refl }
  passed false (r ∷ u) = by_front r u (ltb (lead_of leads r.char) k) refl

  pub due-on : (dots : Bool) (rs : List KeptRow) (r : ℕ) → r ≡ due_at leads dots k rs → k ≤ r
  due-on dots rs r e = rw e (passed dots rs).on
