-- Exactly: a tape is refused by 8 to 14 at a place where, and only where, what the refusal says holds of it.
use Prim.Native.Nat.{ℕ, ◌≤◌}
use mathlib.Core.Path.{◌≡◌, refl, sym, subst}
use mathlib.Core.Logic.{◌↔◌, ◌⊎◌, inl, inr}
use mathlib.Core.List.{List, [], append-nil}
use lib.ListN.{length}
use Rattle.rows.specs.Answer.{Answer, taken, refused}
use Rattle.rows.specs.Kept.{KeptRow, kept}
use Rattle.rows.proofs.Judged.{passes-clean}
use Rattle.shorthand.specs.declared.Format.{Format}
use Rattle.shorthand.specs.Facts.{Facts}
use Rattle.profile.proofs.Settling.{settled-exactly, settled-facts}
use Rattle.reading.specs.declared.Block.{Block}
use Rattle.reading.specs.Relation.{Program, chars}
use Rattle.reading.specs.declared.Entry.{Entry}
use Rattle.reading.specs.Answers.{program_at, read, read_under}
use Rattle.reading.proofs.Sound.{sound}
use Rattle.places.specs.Begins.{Begins}
use Rattle.places.specs.Faults.{Cut, Refusal, RefusalOf}
use Rattle.places.proofs.CutShort.{cut-none}
use Rattle.places.proofs.RefusedRows.{refused-rows}
use Rattle.places.proofs.RefusedTapes.{tape-refused}
use Rattle.places.proofs.OneRefusal.{falls-short, one-refusal}

-- ---- a refusal's rows are no program's

no_program : {f : Format} → Facts f → (len : ℕ) (rs : List KeptRow) {n p : ℕ} → Refusal f len rs n p → (bs : List Block) → Program f bs (chars rs) → ⊥
no_program {f} facts len rs {n} a bs q = go (falls-short facts len rs a)
  where
    go : (Begins f (chars rs) → ⊥) ⊎ Cut f n (chars rs) → ⊥
    go (inl h) = h (bs, [], subst (λ x. Program f bs x) (sym (append-nil (chars rs))) q)
    go (inr c) = cut-none c q

-- ---- exactly

module _ {f : Format} (facts : Facts f) (len : ℕ) (rs : List KeptRow) (n p : ℕ) where
  rows-refused : Refusal f len rs n p → program_at len f rs ≡ refused n p
  rows-refused a = go (program_at len f rs) refl
    where
      go : (x : Answer (List Entry)) → program_at len f rs ≡ x → x ≡ refused n p
      go (taken es) e = absurd (no_program facts len rs a _ (sound f len rs es e))
      go (refused m q) e = let i = one-refusal facts len rs (refused-rows f facts len rs m q e) a in rw (i.0, i.1)

  -- of kept rows under a Format
  pub rows-exactly : (program_at len f rs ≡ refused n p) ↔ Refusal f len rs n p
  rows-exactly = (refused-rows f facts len rs n p, rows-refused)

-- of a tape under an edition, a shorthand and a profile
module _ (e : ℕ) (s p t : List ℕ) (n k : ℕ) where
  pub refusal-read : RefusalOf e s p t n k → read_under e s p t ≡ refused n k
  unfolding read_under read
  refusal-read h =
      rw ((settled-exactly e s p h.format).1 h.settled, passes-clean t h.passes) (rows-refused (settled-facts h.settled) (length t) (kept t) n k h.says)

  pub tape-exactly : 8 ≤ n → n ≤ 14 → (read_under e s p t ≡ refused n k) ↔ RefusalOf e s p t n k
  tape-exactly late early = (tape-refused e s p t n k late early, refusal-read)
