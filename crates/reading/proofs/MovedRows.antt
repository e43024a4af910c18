-- Rows behind others: their kept rows and what the first three stages answer of them are those of these rows alone, moved by as many places.
use Prim.Native.Nat.{ℕ, suc, ◌+◌, ◌≤◌}
use mathlib.Core.Path.{◌≡◌, refl, ◌∙◌}
use mathlib.Core.Bool.{Bool, true, false, ◌||◌, cond}
use mathlib.Core.List.{List, [], ◌∷◌, ◌++◌, map, map-map}
use native.Mathlib.Nat.{add-zero, add-suc, suc-add}
use native.Mathlib.Omega.{arith}
use lib.Dec.{T, eqb}
use lib.ListN.{length, length-append}
use borrow.Author.Tests.{le-ltb}
use Rattle.rows.specs.Answer.{Answer, taken, refused, ◌>>◌}
use Rattle.rows.specs.Row.{entry, even, character, characters, among}
use Rattle.rows.specs.Kept.{KeptRow, within, stays, kept_from, kept}
use Rattle.rows.specs.Stages.{limit, lowest, barred, step, go_on, scan, refuse_at, judged}
use Rattle.rows.specs.ControlOut.{WellFormed}
use Rattle.rows.specs.Passes.{Every, Passes}
use Rattle.std.specs.Prelude.{Option}
use Rattle.std.specs.Prelude.{None, Some}
use Rattle.rows.specs.declared.Side.{Side}
use Rattle.rows.specs.declared.Side.TheVariants.{Outside, Inside, Spoilt}
use Rattle.std.specs.Prelude.{Result}
use Rattle.std.specs.Prelude.{Ok, Err}
use Rattle.rows.proofs.Every.{every_map, every-both}
use Rattle.rows.proofs.Entry.{even-entry, known-entry}
use Rattle.rows.proofs.Formed.{scan-behind}
use Rattle.rows.proofs.TapesJoined.{kept_append}
use Rattle.reading.specs.Relation.{chars}
use Rattle.reading.proofs.Outcomes.{chars-append}

-- an answer moved by d rows: what was taken as is said, a refusal by its place
abbrev pub moved : {A B : Type 0} → ℕ → (A → B) → Answer A → Answer B
moved d g (taken a) = taken (g a)
moved d g (refused n p) = refused n (d + p)

abbrev pub moved_row : ℕ → KeptRow → KeptRow
moved_row d r = record { place = d + r.place; char = r.char }

-- either of two, both under f
pub either : {A B : Type 0} (f : A → B) (b : Bool) {x y : A} {u v : B} → u ≡ f x → v ≡ f y → cond b u v ≡ f (cond b x y)
either f true e h = e
either f false e h = h

-- ---- kept rows

-- rows d places further on are kept as they are, d places further on
pub kept-moved : (d : ℕ) (w : Bool) (i : ℕ) (t : List ℕ) → kept_from w (d + i) t ≡ map (moved_row d) (kept_from w i t)
unfolding kept_from
kept-moved d w i [] = refl
kept-moved d w i (b ∷ t) =
    rw (← add-suc d i, kept-moved d (within w (character b)) (suc i) t)
    (either (map (moved_row d)) (stays w (character b)) refl refl)

-- behind a tape whose control-outs are well formed the rows kept are those kept of u alone, moved by the tape's length
pub kept-behind : {a : List ℕ} → WellFormed a → (u : List ℕ) → kept (a ++ u) ≡ kept a ++ map (moved_row (length a)) (kept u)
kept-behind {a} w u =
    let n : 0 + length a ≡ length a + 0 = omega arith in
    kept_append w 0 u ∙ rw (n, kept-moved (length a) false 0 u)

-- rows keep their characters wherever they stand
pub chars-moved : (d : ℕ) (rs : List KeptRow) → chars (map (moved_row d) rs) ≡ chars rs
chars-moved d rs = map-map (λ r. r.char) (moved_row d) rs

pub chars-behind : {a : List ℕ} → WellFormed a → (u : List ℕ) → chars (kept (a ++ u)) ≡ chars (kept a) ++ chars (kept u)
chars-behind {a} w u =
    rw (kept-behind w u, chars-append (kept a) (map (moved_row (length a)) (kept u)), chars-moved (length a) (kept u))

-- ---- the first three stages

abbrev moved_found : ℕ → Option ℕ → Option ℕ
moved_found d None = None
moved_found d (Some p) = Some (d + p)

abbrev moved_side : ℕ → Side → Side
moved_side d Outside = Outside
moved_side d (Inside o) = Inside (d + o)
moved_side d (Spoilt o p) = Spoilt (d + o) (d + p)

abbrev moved_step : ℕ → Result Side ℕ → Result Side ℕ
moved_step d (Ok m) = Ok (moved_side d m)
moved_step d (Err p) = Err (d + p)

-- the lowest row that a test takes, d places further on and behind rows that it misses
module _ (f : ℕ → Bool) where
  lowest-moved : (d i : ℕ) (t : List ℕ) → lowest f (d + i) t ≡ moved_found d (lowest f i t)
  unfolding lowest
  lowest-moved d i [] = refl
  lowest-moved d i (b ∷ t) = rw (← add-suc d i, lowest-moved d (suc i) t) (either (moved_found d) (f b) refl refl)

  past-missed : (i : ℕ) (a u : List ℕ) → Every (λ b. f b ≡ false) a → lowest f i (a ++ u) ≡ lowest f (i + length a) u
  unfolding lowest
  past-missed i [] u all = rw add-zero
  past-missed i (b ∷ a) u all = rw (all.0, add-suc, ← suc-add) (past-missed (suc i) a u all.1)

  lowest-behind : (a u : List ℕ) → Every (λ b. f b ≡ false) a → lowest f 0 (a ++ u) ≡ moved_found (length a) (lowest f 0 u)
  lowest-behind a u all =
      let n : 0 + length a ≡ length a + 0 = omega arith in
      past-missed 0 a u all ∙ rw n (lowest-moved (length a) 0 u)

-- the scan of the control-outs, d places further on
module _ (d : ℕ) where
  step-moved : (m : Side) (i c : ℕ) → step (moved_side d m) (d + i) c ≡ moved_step d (step m i c)
  step-moved Outside i c = either (moved_step d) (eqb c 40) refl (either (moved_step d) (eqb c 41) refl refl)
  step-moved (Inside o) i c = either (moved_step d) (eqb c 41) refl (either (moved_step d) (eqb c 58 || eqb c 37) refl refl)
  step-moved (Spoilt o p) i c = either (moved_step d) (eqb c 41) refl refl

  on-moved : (s : Result Side ℕ) (f g : Side → Option ℕ) → ((m : Side) → f (moved_side d m) ≡ moved_found d (g m)) → go_on (moved_step d s) f ≡ moved_found d (go_on s g)
  on-moved (Ok m) f g h = h m
  on-moved (Err p) f g h = refl

  scan-moved : (m : Side) (i : ℕ) (t : List ℕ) → scan (moved_side d m) (d + i) t ≡ moved_found d (scan m i t)
  unfolding scan
  scan-moved Outside i [] = refl
  scan-moved (Inside o) i [] = refl
  scan-moved (Spoilt o p) i [] = refl
  scan-moved m i (b ∷ t) = rw (step-moved m i (character b), ← add-suc d i) (on-moved (step m i (character b)) _ _ (λ n. scan-moved n (suc i) t))

  -- three stages that find what they find alone, moved
  stages-moved : (x y z : Option ℕ)
      → refuse_at 5 (moved_found d x) >> refuse_at 6 (moved_found d y) >> refuse_at 7 (moved_found d z) ≡ moved d (λ (x : Unit {0}). x) (refuse_at 5 x >> refuse_at 6 y >> refuse_at 7 z)
  stages-moved (Some p) y z = refl
  stages-moved None (Some p) z = refl
  stages-moved None None (Some p) = refl
  stages-moved None None None = refl

-- behind a tape that passes, within the limit, u is judged as it would be alone, moved by the tape's length
pub judged-behind : {a : List ℕ} → Passes a → (u : List ℕ) → length (a ++ u) ≤ limit → judged (a ++ u) ≡ moved (length a) (λ (x : Unit {0}). x) (judged u)
unfolding judged
judged-behind {a} p u h =
    let d = length a in
    let short : length u ≤ limit = omega (arith, length-append a u) in
    let n : 0 + d ≡ d + 0 = omega arith in
    let odd = lowest-behind (λ b. eqb (entry b) 133) a u (every_map (λ b e. (even-entry b).1 e) a p.even) in
    let foreign =
    lowest-behind (λ b. eqb (entry b) 134) a u
    (every_map (λ b e. (known-entry b e.0).1 e.1) a (every-both (λ b. T (even b)) (λ b. T (among (character b) characters)) a p.even p.known)) in
    let faults : scan Outside 0 (a ++ u) ≡ moved_found d (scan Outside 0 u) = scan-behind p.formed 0 u ∙ rw n (scan-moved d Outside 0 u) in
    rw (le-ltb limit (length (a ++ u)) h, le-ltb limit (length u) short, odd, foreign, faults) (stages-moved d (barred 5 0 u) (barred 6 0 u) (scan Outside 0 u))
