-- The scan finds no fault exactly where the control-outs are well formed.
use mathlib.Core.Path.{◌≡◌, refl, sym, ap, ◌∙◌}
use mathlib.Core.Bool.{Bool, true, false, ◌||◌, cond}
use mathlib.Core.List.{List, [], ◌∷◌, ◌++◌, append_assoc, append-nil}
use Prim.Native.Nat.{ℕ, suc, ◌+◌}
use native.Mathlib.Nat.{add-zero, add-suc, suc-add}
use native.Mathlib.Omega.{arith}
use lib.Dec.{eqb}
use lib.ListN.{length, length-append}
use borrow.Author.Tests.{eqb-true}
use Rattle.rows.specs.Row.{character, among}
use Rattle.rows.specs.Stages.{step, go_on, scan, unclosed}
use Rattle.rows.specs.ControlOut.{Remark, empty, more, WellFormed, end, row, remark}
use Rattle.std.specs.Prelude.{None, Some}
use Rattle.rows.specs.declared.Side.{Side}
use Rattle.rows.specs.declared.Side.TheVariants.{Outside, Inside, Spoilt}
use Rattle.std.specs.Prelude.{Ok, Err}

either : (a b : Bool) → (a || b) ≡ false → (a ≡ false) × (b ≡ false)
either true b e = let z : ◌≡◌ {A = ℕ} 0 1 = cc in absurd (omega arith)
either false b e = (refl, e)

-- not among the first and the others
pub not-among : (c d : ℕ) (ds : List ℕ) → among c (d ∷ ds) ≡ false → (eqb c d ≡ false) × (among c ds ≡ false)
not-among c d ds e = either (eqb c d) (among c ds) e

never : (p : ℕ) → Some p ≡ None → ⊥
never p e = let z : ◌≡◌ {A = ℕ} 0 1 = cc in omega arith

-- a remark and the ")" behind it lead outside again
past-remark : {r : List ℕ} → Remark r → (c : ℕ) → character c ≡ 41 → (t : List ℕ) (o i : ℕ) → scan (Inside o) i (r ++ (c ∷ t)) ≡ scan Outside (i + suc (length r)) t
unfolding scan
past-remark empty c e t o i = rw (e, add-suc, add-zero)
past-remark (more {b = b} {r = r} h m) c e t o i =
    let p = not-among (character b) 41 (58 ∷ 37 ∷ []) h in
    let q = not-among (character b) 58 (37 ∷ []) p.1 in
    let s = not-among (character b) 37 [] q.1 in
    rw (p.0, q.0, s.0, past-remark m c e t o (suc i), add-suc i (suc (length r)), suc-add)

-- behind control-outs that are well formed the scan finds the faults that it would find alone, at their places
pub scan-behind : {t : List ℕ} → WellFormed t → (i : ℕ) (u : List ℕ) → scan Outside i (t ++ u) ≡ scan Outside (i + length t) u
unfolding scan
scan-behind end i u = rw add-zero
scan-behind (row {b = b} h w) i u =
    let p = not-among (character b) 40 (41 ∷ []) h in
    let q = not-among (character b) 41 [] p.1 in
    rw (p.0, q.0, add-suc, ← suc-add) (scan-behind w (suc i) u)
scan-behind (remark {r = r} {t = t} c e m f w) i u =
    let n : suc i + suc (length r) + length t ≡ i + suc (length (r ++ (c ∷ t))) = simp length-append (omega arith) in
    rw (e, append_assoc r (c ∷ t) u, past-remark m c f (t ++ u) i (suc i), ← n) (scan-behind w (suc i + suc (length r)) u)

pub formed-scan : {t : List ℕ} → WellFormed t → (i : ℕ) → scan Outside i t ≡ None
unfolding scan
formed-scan {t} w i = ap (scan Outside i) (sym (append-nil t)) ∙ scan-behind w i []

-- what no fault tells on each side
abbrev Formed : Side → List ℕ → Type 0
Formed Outside t = WellFormed t
Formed (Inside o) t = (r : List ℕ) × (c : ℕ) × (u : List ℕ) × (t ≡ r ++ (c ∷ u)) × Remark r × (character c ≡ 41) × WellFormed u
Formed (Spoilt o p) t = ⊥

at_end : (m : Side) → unclosed m ≡ None → Formed m []
at_end Outside e = end
at_end (Inside o) e = absurd (never o e)
at_end (Spoilt o p) e = never o e

-- one row: what is behind it is formed for the side that the row leads to
module _ (b : ℕ) (t : List ℕ) (i : ℕ) (rest : (n : Side) → scan n (suc i) t ≡ None → Formed n t) where
  abbrev c : ℕ
  c = character b

  from-outside : (x y : Bool) → eqb c 40 ≡ x → eqb c 41 ≡ y → go_on (cond x (Ok (Inside i)) (cond y (Err i) (Ok Outside))) (λ n. scan n (suc i) t) ≡ None → WellFormed (b ∷ t)
  from-outside true y p q e = let f = rest (Inside i) e in rw f.3 (remark f.1 (eqb-true _ _ p) f.4 f.5 f.6)
  from-outside false true p q e = absurd (never i e)
  from-outside false false p q e = row {b = b} (rw (p, q)) (rest Outside e)

  from-inside : (o : ℕ) (x y z : Bool) → eqb c 41 ≡ x → eqb c 58 ≡ y → eqb c 37 ≡ z
      → go_on (cond x (Ok Outside) (cond (y || z) (Ok (Spoilt o i)) (Ok (Inside o)))) (λ n. scan n (suc i) t) ≡ None → Formed (Inside o) (b ∷ t)
  from-inside o true y z p q r e = ([], b, t, refl, empty, eqb-true _ _ p, rest Outside e)
  from-inside o false true z p q r e = absurd (rest (Spoilt o i) e)
  from-inside o false false true p q r e = absurd (rest (Spoilt o i) e)
  from-inside o false false false p q r e = let f = rest (Inside o) e in (b ∷ f.0, f.1, f.2, ap (λ l. b ∷ l) f.3, more {b = b} (rw (p, q, r)) f.4, f.5, f.6)

  from-spoilt : (o p : ℕ) (x : Bool) → go_on (cond x (Err p) (Ok (Spoilt o p))) (λ n. scan n (suc i) t) ≡ None → ⊥
  from-spoilt o p true e = never p e
  from-spoilt o p false e = rest (Spoilt o p) e

  from_row : (m : Side) → go_on (step m i c) (λ n. scan n (suc i) t) ≡ None → Formed m (b ∷ t)
  from_row Outside e = from-outside _ _ refl refl e
  from_row (Inside o) e = from-inside o _ _ _ refl refl refl e
  from_row (Spoilt o p) e = from-spoilt o p (eqb c 41) e

formed : (t : List ℕ) (m : Side) (i : ℕ) → scan m i t ≡ None → Formed m t
unfolding scan
formed [] m i e = at_end m e
formed (b ∷ t) m i e = from_row b t i (λ n h. formed t n (suc i) h) m e

pub scan-formed : (t : List ℕ) (i : ℕ) → scan Outside i t ≡ None → WellFormed t
scan-formed t i e = formed t Outside i e
