-- One step of each walk over a tape: what a definition says from row i on, by row i and what it says from row i + 1 on.
use mathlib.Core.Path.{◌≡◌, refl}
use mathlib.Core.Bool.{Bool, true, false, cond}
use mathlib.Core.List.{List, [], ◌∷◌}
use Prim.Native.Nat.{ℕ, ◌+◌, ◌≤◌, ◌<◌}
use native.Mathlib.Numerals.{add-one}
use native.Mathlib.Omega.{arith}
use lib.ListN.{length, get_or, drop, drop_of_length-le}
use lib.Seq.{drop-cons}
use Rattle.rows.specs.Row.{character}
use Rattle.rows.specs.Stages.{lowest, step, unclosed, scan}
use Rattle.rows.specs.Kept.{within, stays, turn, kept_from}
use Rattle.std.specs.Prelude.{None, Some}
use Rattle.rows.specs.declared.Side.{Side}
use Rattle.std.specs.Prelude.{Ok, Err}
use Rattle.rows.specs.declared.Turn.TheVariants.{Keep, Pass}

-- what a turn tells of the row
kept_row : (b x : Bool) → cond b Keep (Pass x) ≡ Keep → b ≡ true
kept_row true x e = refl
kept_row false x e = let z : ◌≡◌ {A = ℕ} 0 1 = cc in absurd (omega arith)

passed-row : (b x v : Bool) → cond b Keep (Pass x) ≡ Pass v → (b ≡ false) × (x ≡ v)
passed-row true x v e = let z : ◌≡◌ {A = ℕ} 0 1 = cc in absurd (omega arith)
passed-row false x v e = (refl, cc)

module _ (t : List ℕ) (i : ℕ) where
  pub lowest-hit : (f : ℕ → Bool) → i < length t → f (get_or t i 0) ≡ true → lowest f i (drop i t) ≡ Some i
  unfolding lowest
  lowest-hit f h e = rw (drop-cons t i 0, e)

  pub lowest-miss : (f : ℕ → Bool) → i < length t → f (get_or t i 0) ≡ false → lowest f i (drop i t) ≡ lowest f (i + 1) (drop (i + 1) t)
  unfolding lowest
  lowest-miss f h e = rw (add-one, drop-cons t i 0, e)

  pub lowest-end : (f : ℕ → Bool) → length t ≤ i → lowest f i (drop i t) ≡ None
  unfolding lowest
  lowest-end f h = rw (drop_of_length-le t h)

  pub scan-on : (m n : Side) → i < length t → step m i (character (get_or t i 0)) ≡ Ok n → scan m i (drop i t) ≡ scan n (i + 1) (drop (i + 1) t)
  unfolding scan
  scan-on m n h e = rw (add-one, drop-cons t i 0, e)

  pub scan-fault : (m : Side) (p : ℕ) → i < length t → step m i (character (get_or t i 0)) ≡ Err p → scan m i (drop i t) ≡ Some p
  unfolding scan
  scan-fault m p h e = rw (drop-cons t i 0, e)

  pub scan-end : (m : Side) → length t ≤ i → scan m i (drop i t) ≡ unclosed m
  unfolding scan
  scan-end m h = rw (drop_of_length-le t h)

  pub kept-keep : (w : Bool) → i < length t → turn w (character (get_or t i 0)) ≡ Keep
      → kept_from w i (drop i t)
      ≡ record { place = i; char = character (get_or t i 0) } ∷ kept_from (within w (character (get_or t i 0))) (i + 1) (drop (i + 1) t)
  unfolding kept_from
  kept-keep w h e = rw (add-one, drop-cons t i 0, kept_row (stays w (character (get_or t i 0))) _ e)

  pub kept-pass : (w v : Bool) → i < length t → turn w (character (get_or t i 0)) ≡ Pass v → kept_from w i (drop i t) ≡ kept_from v (i + 1) (drop (i + 1) t)
  unfolding kept_from
  kept-pass w v h e = let r = passed-row (stays w (character (get_or t i 0))) (within w (character (get_or t i 0))) v e in rw (add-one, drop-cons t i 0, r.0, r.1)

  pub kept-end : (w : Bool) → length t ≤ i → kept_from w i (drop i t) ≡ []
  unfolding kept_from
  kept-end w h = rw (drop_of_length-le t h)
