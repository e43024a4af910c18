-- The first three stages pass a tape exactly where it is what they ask.
use mathlib.Core.Path.{◌≡◌, refl}
use mathlib.Core.Logic.{◌↔◌}
use mathlib.Core.Bool.{Bool, true, false, cond}
use mathlib.Core.List.{List}
use Prim.Native.Nat.{ℕ}
use native.Mathlib.Omega.{arith}
use lib.ListN.{length}
use lib.Dec.{T, eqb, ltb}
use borrow.Author.Tests.{le-ltb, ltb-false}
use Rattle.rows.specs.Answer.{Answer, taken, refused, ◌>>◌}
use Rattle.rows.specs.Row.{entry, even, character, characters, among}
use Rattle.rows.specs.Stages.{limit, barred, scan, refuse_at, judged}
use Rattle.rows.specs.Passes.{Passes}
use Rattle.std.specs.Prelude.{Option}
use Rattle.std.specs.Prelude.{None, Some}
use Rattle.rows.specs.declared.Side.TheVariants.{Outside}
use Rattle.rows.proofs.Lowest.{lowest-none, none-lowest}
use Rattle.rows.proofs.Every.{every_map, every-both}
use Rattle.rows.proofs.Entry.{even-entry, known-entry}
use Rattle.rows.proofs.Formed.{formed-scan, scan-formed}

module _ (t : List ℕ) where
  pub passes-clean : Passes t → judged t ≡ taken tt
  unfolding judged
  passes-clean p =
      let odd : barred 5 0 t ≡ None = lowest-none (λ b. eqb (entry b) 133) t 0 (every_map (λ b e. (even-entry b).1 e) t p.even) in
      let foreign : barred 6 0 t ≡ None =
      lowest-none (λ b. eqb (entry b) 134) t 0
      (every_map (λ b e. (known-entry b e.0).1 e.1) t (every-both (λ b. T (even b)) (λ b. T (among (character b) characters)) t p.even p.known)) in
      rw (le-ltb limit (length t) p.short, odd, foreign, formed-scan p.formed 0)

  -- a stage that lets the tape pass found nothing
  found_none : (n : ℕ) (f : Option ℕ) (rest : Answer (Unit {0})) → refuse_at n f >> rest ≡ taken tt → (f ≡ None) × (rest ≡ taken tt)
  found_none n None rest e = (refl, e)
  found_none n (Some p) rest e = let z : ◌≡◌ {A = ℕ} 0 1 = cc in absurd (omega arith)

  in-limit : (b : Bool) (rest : Answer (Unit {0})) → ◌>>◌ {A = Unit {0}} (cond b (refused 4 limit) (taken tt)) rest ≡ taken tt → (b ≡ false) × (rest ≡ taken tt)
  in-limit true rest e = let z : ◌≡◌ {A = ℕ} 0 1 = cc in absurd (omega arith)
  in-limit false rest e = (refl, e)

  last : (f : Option ℕ) → refuse_at 7 f ≡ taken tt → f ≡ None
  last None e = refl
  last (Some p) e = let z : ◌≡◌ {A = ℕ} 0 1 = cc in absurd (omega arith)

  pub clean-passes : judged t ≡ taken tt → Passes t
  unfolding judged
  clean-passes e =
      let one = in-limit (ltb limit (length t)) _ e in
      let two = found_none 5 (barred 5 0 t) _ one.1 in
      let three = found_none 6 (barred 6 0 t) _ two.1 in
      let evens = every_map (λ b x. (even-entry b).0 x) t (none-lowest (λ b. eqb (entry b) 133) t 0 two.0) in
      record {
        short = ltb-false limit (length t) one.0;
        even = evens;
        known =
            every_map (λ b x. (known-entry b x.0).0 x.1) t
            (every-both (λ b. T (even b)) (λ b. eqb (entry b) 134 ≡ false) t evens (none-lowest (λ b. eqb (entry b) 134) t 0 three.0));
        formed = scan-formed t 0 (last (scan Outside 0 t) three.1);
      }

  -- the answer is clean exactly when the tape is within the limit, even, of the 50 characters, and its control-outs are well formed
  pub clean : (judged t ≡ taken tt) ↔ Passes t
  clean = (clean-passes, passes-clean)
