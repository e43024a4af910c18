-- What an accepted tape tells: the first three stages let it pass, it has a head, and no more blocks than rows.
use Prim.Native.Nat.{ℕ, zero, suc, ◌≤◌, ◌<◌, zero-le}
use mathlib.Core.Path.{◌≡◌}
use mathlib.Core.List.{List, [], ◌∷◌}
use native.Mathlib.Nat.{le_refl}
use native.Mathlib.Omega.{arith}
use lib.ListN.{length, get_or}
use Rattle.rows.specs.Answer.{taken}
use Rattle.rows.specs.Stages.{judged}
use Rattle.rows.specs.Kept.{kept}
use Rattle.shorthand.specs.declared.Format.{Format}
use Rattle.words.specs.Figures.{Behind}
use Rattle.parts.specs.Ends.{entered}
use Rattle.reading.specs.declared.Entry.{Entry}
use Rattle.reading.specs.Answers.{nowhere, program_at, read}
use Rattle.reading.proofs.Programs.{both-taken}
use Rattle.reading.proofs.Places.{Places, places}

-- each block ends behind a row for every block before it
rising : {t : List ℕ} {es : List Entry} {d : Entry} → Places t es d → (i : ℕ) → i < length es → i < (get_or es i d).to
rising p zero l = omega (arith, p.within 0 l)
rising p (suc i) l = omega (arith, p.within (suc i) l, p.next i l, rising p i (omega arith))

module _ (f : Format) (t : List ℕ) where
  -- it is clean, and its blocks are what the fourth stage answers
  pub read_taken : {es : List Entry} → read f t ≡ taken es → (judged t ≡ taken tt) × (program_at (length t) f (kept t) ≡ taken es)
  unfolding read
  read_taken {es} e = both-taken (judged t) (program_at (length t) f (kept t)) es e

  -- it has at most as many blocks as rows
  pub few-blocks : {es : List Entry} → read f t ≡ taken es → length es ≤ length t
  few-blocks {es = []} e = zero-le
  few-blocks {es = x ∷ xs} e =
      let p = places f t (x ∷ xs) (read_taken e).1 nowhere in
      omega (arith, rising p (length xs) (le_refl _), p.within (length xs) (le_refl _))

  -- it has a head
  pub taken-enters : {es : List Entry} → read f t ≡ taken es → (h : Behind ℕ) × (entered t ≡ taken h)
  unfolding entered
  taken-enters {es} e =
      let r = read_taken e in
      let p = places f t es r.1 nowhere in
      (p.head, rw r.0 p.begins)
