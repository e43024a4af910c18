-- The theorem for whole tapes: what the answer of reading, refused by 8 to 14, says of the tape.
use Prim.Native.Nat.{ℕ, ◌≤◌}
use mathlib.Core.Path.{◌≡◌, refl}
use mathlib.Core.Bool.{Bool, true, false, cond}
use mathlib.Core.List.{List}
use native.Mathlib.Omega.{arith}
use lib.ListN.{length}
use lib.Dec.{ltb}
use borrow.Author.Tests.{ne_eqb}
use Rattle.rows.specs.Answer.{Answer, taken, refused, ◌>>=◌, ◌>>◌}
use Rattle.rows.specs.Stages.{limit, barred, scan, refuse_at, in_limit, judged}
use Rattle.std.specs.Prelude.{Option}
use Rattle.std.specs.Prelude.{None, Some}
use Rattle.rows.specs.declared.Side.TheVariants.{Outside}
use Rattle.rows.specs.Kept.{kept}
use Rattle.rows.proofs.Judged.{clean-passes}
use Rattle.shorthand.specs.declared.Format.{Format}
use Rattle.profile.specs.Answers.{agreed}
use Rattle.profile.proofs.Settling.{settled-exactly, unsettled-exactly, settled-facts, refused-numbers}
use Rattle.reading.specs.Answers.{program_at, read, read_under}
use Rattle.places.specs.Faults.{RefusalOf}
use Rattle.places.proofs.RefusedRows.{refused-rows}

-- ---- the stages before

-- neither the shorthand nor the profile is refused by 8 to 14
settling-other : (e : ℕ) (s p : List ℕ) (n k : ℕ) → 8 ≤ n → n ≤ 14 → agreed e s p ≡ refused n k → ⊥
settling-other e s p n k low high q =
    rw (ne_eqb n 1 (λ e. omega arith), ne_eqb n 2 (λ e. omega arith), ne_eqb n 3 (λ e. omega arith), ne_eqb n 22 (λ e. omega arith), ne_eqb n 23 (λ e. omega arith)) at
    (refused-numbers ((unsettled-exactly e s p n k).0 q))

stage-low : (m n p : ℕ) (x : Option ℕ) → m ≤ 7 → refuse_at m x ≡ refused n p → n ≤ 7
stage-low m n p None l e = let z : ◌≡◌ {A = ℕ} 0 1 = cc in absurd (omega arith)
stage-low m n p (Some q) l e = let k : m ≡ n = cc in omega arith

-- one of two stages has refused
either-low : {A : Type 0} (a : Answer (Unit {0})) (b : Answer A) (n p : ℕ) → (a ≡ refused n p → n ≤ 7) → (b ≡ refused n p → n ≤ 7) → (a >> b) ≡ refused n p → n ≤ 7
either-low (taken u) b n p f g e = g e
either-low (refused m q) b n p f g e = let k : m ≡ n = cc in let l : q ≡ p = cc in f (rw (k, l))

limit-low : (t : List ℕ) (n p : ℕ) → in_limit t ≡ refused n p → n ≤ 7
limit-low t n p e = go (ltb limit (length t)) e
  where
    go : (b : Bool) → ◌≡◌ {A = Answer (Unit {0})} (cond b (refused 4 limit) (taken tt)) (refused n p) → n ≤ 7
    go true e = let k : 4 ≡ n = cc in omega arith
    go false e = let z : ◌≡◌ {A = ℕ} 0 1 = cc in absurd (omega arith)

judged-low : (t : List ℕ) (n p : ℕ) → judged t ≡ refused n p → n ≤ 7
unfolding judged
judged-low t n p e =
    either-low (in_limit t) _ n p (limit-low t n p)
    (either-low (refuse_at 5 (barred 5 0 t)) _ n p (stage-low 5 n p (barred 5 0 t) (omega arith))
    (either-low (refuse_at 6 (barred 6 0 t)) _ n p (stage-low 6 n p (barred 6 0 t) (omega arith)) (stage-low 7 n p (scan Outside 0 t) (omega arith))))
    e

-- ---- the theorem

module _ (e : ℕ) (s p t : List ℕ) (n k : ℕ) (late : 8 ≤ n) where
  under : (f : Format) → agreed e s p ≡ taken f → read f t ≡ refused n k → RefusalOf e s p t n k
  unfolding read
  under f q r = go (judged t) refl r
    where
      go : (j : Answer (Unit {0})) → judged t ≡ j → (j >> program_at (length t) f (kept t)) ≡ refused n k → RefusalOf e s p t n k
      go (taken u) j r =
          let h = (settled-exactly e s p f).0 q in
          record { format = f; settled = h; passes = clean-passes t j; says = refused-rows f (settled-facts h) (length t) (kept t) n k r }
      go (refused m o) j r = let z : m ≡ n = cc in absurd (omega (arith, judged-low t m o j))

  pub tape-refused : n ≤ 14 → read_under e s p t ≡ refused n k → RefusalOf e s p t n k
  unfolding read_under
  tape-refused early r = go (agreed e s p) refl r
    where
      go : (x : Answer Format) → agreed e s p ≡ x → (x >>= λ f. read f t) ≡ refused n k → RefusalOf e s p t n k
      go (taken f) q r = under f q r
      go (refused m o) q r = let z : m ≡ n = cc in absurd (settling-other e s p m o (omega arith) (omega arith) q)
