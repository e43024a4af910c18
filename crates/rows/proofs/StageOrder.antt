-- Stages 1 to 3 from a row on: what each row that the one walk meets leaves of them, whatever is held of the rows before it.
use mathlib.Core.Path.{◌≡◌, refl, sym, ap, ◌∙◌}
use mathlib.Core.Bool.{Bool, true, false, cond}
use mathlib.Core.List.{List}
use Prim.Native.Nat.{ℕ, ◌+◌, ◌≤◌, ◌<◌}
use native.Mathlib.Omega.{arith}
use lib.ListN.{length, get_or, drop}
use lib.Dec.{eqb, ltb}
use borrow.Author.Tests.{eqb-true, eqb-false, eq-eqb, ne_eqb}
use Rattle.rows.specs.Answer.{refused}
use Rattle.rows.specs.Row.{character, entry}
use Rattle.rows.specs.Stages.{limit, barred, step, judged}
use Rattle.rows.specs.Walk.{held_from, concluded, held_by, held_behind, is_foreign, inside}
use Rattle.std.specs.Prelude.{None, Some}
use Rattle.rows.specs.declared.Side.{Side}
use Rattle.rows.specs.declared.Side.TheVariants.{Outside, Inside, Spoilt}
use Rattle.std.specs.Prelude.{Result}
use Rattle.std.specs.Prelude.{Ok, Err}
use Rattle.rows.specs.declared.Held.{Held}
use Rattle.rows.specs.declared.Held.TheVariants.{Foreign, Sides}
use Rattle.rows.proofs.Entry.{entry-highest, entry-character}
use Rattle.rows.proofs.Walks.{lowest-hit, lowest-miss, lowest-end, scan-on, scan-fault, scan-end}

-- ---- row i, whose entry is c

module _ (t : List ℕ) (i : ℕ) (h : i < length t) (c : ℕ) (is : c ≡ entry (get_or t i 0)) where
  -- the lowest row of a refusal is this one, or stands behind it
  here : (n : ℕ) → c ≡ 128 + n → barred n i (drop i t) ≡ Some i
  here n e = lowest-hit t i (λ b. eqb (entry b) (128 + n)) h (eq-eqb _ _ (sym is ∙ e))

  later : (n : ℕ) → (c ≡ 128 + n → ⊥) → barred n i (drop i t) ≡ barred n (i + 1) (drop (i + 1) t)
  later n f = lowest-miss t i (λ b. eqb (entry b) (128 + n)) h (ne_eqb _ _ (λ q. f (is ∙ q)))

  -- neither odd nor foreign: the entry is the character
  character-step : (m : Side) → c < 133 → step m i (character (get_or t i 0)) ≡ step m i c
  character-step m l = ap (step m i) (sym (is ∙ entry-character (get_or t i 0) (omega (arith, l, is))))

  stepped : (m : Side) → c < 133 → (x : Result Side ℕ) → step m i c ≡ x → held_from (Sides m) i (drop i t) ≡ held_from (held_by x) (i + 1) (drop (i + 1) t)
  stepped m l (Ok n) e = rw (later 5 (λ q. omega (arith, l, q)), later 6 (λ q. omega (arith, l, q)), scan-on t i m n h (character-step m l ∙ e))
  stepped m l (Err p) e = rw (later 5 (λ q. omega (arith, l, q)), later 6 (λ q. omega (arith, l, q)), scan-fault t i m p h (character-step m l ∙ e))

  -- an odd row is the answer
  pub held-odd : c ≡ 133 → (g : Held) → held_from g i (drop i t) ≡ refused 5 i
  held-odd e g = rw (here 5 e)

  -- outside a control-out a row that is neither "(" nor ")" changes nothing
  pub held_plain : c < 133 → (c ≡ 40 → ⊥) → (c ≡ 41 → ⊥) → (g : Held) → inside g ≡ false → held_from g i (drop i t) ≡ held_from g (i + 1) (drop (i + 1) t)
  held_plain l m n (Foreign p) e = rw (later 5 (λ q. omega (arith, l, q)))
  held_plain l m n (Held.Fault p) e = rw (later 5 (λ q. omega (arith, l, q)), later 6 (λ q. omega (arith, l, q)))
  held_plain l m n (Sides Outside) e = stepped Outside l (Ok Outside) (rw (ne_eqb c 40 m, ne_eqb c 41 n))
  held_plain l m n (Sides (Inside o)) e = let z : ◌≡◌ {A = ℕ} 0 1 = cc in absurd (omega arith)
  held_plain l m n (Sides (Spoilt o p)) e = let z : ◌≡◌ {A = ℕ} 0 1 = cc in absurd (omega arith)

  -- any other leaves what is held behind it
  behind : (c ≡ 133 → ⊥) → (g : Held) → held_from g i (drop i t) ≡ held_from (held_behind g i c) (i + 1) (drop (i + 1) t)
  behind n (Foreign p) = rw (later 5 n)
  behind n (Held.Fault p) = go (is_foreign c) refl
    where
      go : (b : Bool) → is_foreign c ≡ b → held_from (Held.Fault p) i (drop i t) ≡ held_from (cond b (Foreign i) (Held.Fault p)) (i + 1) (drop (i + 1) t)
      go true q = rw (later 5 n, here 6 (eqb-true _ _ q))
      go false q = rw (later 5 n, later 6 (eqb-false _ _ q))
  behind n (Sides m) = go (is_foreign c) refl
    where
      go : (b : Bool) → is_foreign c ≡ b → held_from (Sides m) i (drop i t) ≡ held_from (cond b (Foreign i) (held_by (step m i c))) (i + 1) (drop (i + 1) t)
      go true q = rw (later 5 n, here 6 (eqb-true _ _ q))
      go false q = stepped m (omega (arith, n, eqb-false c 134 q, is, entry-highest (get_or t i 0))) (step m i c) refl

  pub held-behind : (c ≡ 133 → ⊥) → (g k : Held) → k ≡ held_behind g i c → held_from g i (drop i t) ≡ held_from k (i + 1) (drop (i + 1) t)
  held-behind n g k e = behind n g ∙ ap (λ x. held_from x (i + 1) (drop (i + 1) t)) (sym e)

-- ---- the end, and the whole tape

module _ (t : List ℕ) (i : ℕ) (h : length t ≤ i) where
  none : (n : ℕ) → barred n i (drop i t) ≡ None
  none n = lowest-end t i (λ b. eqb (entry b) (128 + n)) h

  pub held-end : (g : Held) → held_from g i (drop i t) ≡ concluded g
  held-end (Foreign p) = rw (none 5)
  held-end (Held.Fault p) = rw (none 5, none 6)
  held-end (Sides m) = rw (none 5, none 6, scan-end t i m h)

pub judged-whole : (t : List ℕ) → ltb limit (length t) ≡ false → judged t ≡ held_from (Sides Outside) 0 t
unfolding judged
judged-whole t l = rw l
