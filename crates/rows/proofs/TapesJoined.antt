-- Tapes joined: their control-outs, their kept rows, and what the first three stages ask.
use Prim.Native.Nat.{ℕ, suc, ◌+◌, ◌≤◌}
use mathlib.Core.Path.{◌≡◌, refl}
use mathlib.Core.Bool.{Bool, true, false, ◌||◌, not, cond}
use mathlib.Core.List.{List, [], ◌∷◌, ◌++◌, append_assoc}
use native.Mathlib.Nat.{add-zero, add-suc, suc-add}
use native.Mathlib.Omega.{arith}
use lib.Dec.{eqb}
use lib.ListN.{length, length-append}
use Rattle.rows.specs.Row.{character}
use Rattle.rows.specs.Kept.{kept_from}
use Rattle.rows.specs.ControlOut.{WellFormed, end, row, remark}
use Rattle.rows.specs.Passes.{Passes}
use Rattle.rows.specs.Stages.{limit}
use Rattle.rows.proofs.Every.{every_append}
use Rattle.rows.proofs.Formed.{not-among}
use Rattle.rows.proofs.KeptRows.{past-remark}

pub formed-append : {t u : List ℕ} → WellFormed t → WellFormed u → WellFormed (t ++ u)
formed-append end v = v
formed-append (row h w) v = row h (formed-append w v)
formed-append {u = u} (remark {r = r} {t = t} c e m f w) v = rw (append_assoc r (c ∷ t) u) (remark c e m f (formed-append w v))

-- within the limit, tapes that pass are together one that passes
pub passes_append : {t u : List ℕ} → Passes t → Passes u → length (t ++ u) ≤ limit → Passes (t ++ u)
passes_append {t} {u} p q h =
    record {
      short = h;
      even = every_append _ t u p.even q.even;
      known = every_append _ t u p.known q.known;
      formed = formed-append p.formed q.formed;
    }

-- ---- kept rows

cond-append : {A : Type 0} (x : Bool) (a : A) (s u : List A) → cond x (a ∷ (s ++ u)) (s ++ u) ≡ cond x (a ∷ s) s ++ u
cond-append true a s u = refl
cond-append false a s u = refl

-- behind a tape whose control-outs are well formed the rows are kept as they would be alone, at their places
pub kept_append : {t : List ℕ} → WellFormed t → (i : ℕ) (u : List ℕ) → kept_from false i (t ++ u) ≡ kept_from false i t ++ kept_from false (i + length t) u
unfolding kept_from
kept_append end i u = rw add-zero
kept_append (row {b = b} {t = t} h w) i u =
    rw ((not-among (character b) 40 (41 ∷ []) h).0, kept_append w (suc i) u, add-suc, ← suc-add)
    (cond-append (not (eqb (character b) 0 || eqb (character b) 127 || false)) (record { place = i; char = character b }) (kept_from false (suc i) t) (kept_from false (suc i + length t) u))
kept_append (remark {o = o} {r = r} {t = t} c e m f w) i u =
    let n : suc i + suc (length r) + length t ≡ i + suc (length (r ++ (c ∷ t))) = simp length-append (omega arith) in
    rw (e, append_assoc r (c ∷ t) u, past-remark m c f (t ++ u) (suc i), past-remark m c f t (suc i), ← n) (kept_append w (suc i + suc (length r)) u)
