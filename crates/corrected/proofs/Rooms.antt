-- What was laid into two arrays has room in both.
use Prim.Native.Nat.{ℕ, ◌≤◌}
use mathlib.Core.Path.{◌≡◌, refl, sym}
use mathlib.Core.List.{List}
use native.Mathlib.Omega.{arith}
use lib.ListN.{length}
use Rattle.rows.specs.Answer.{Answer, taken, refused, ◌>>=◌, ◌>>◌}
use Rattle.shorthand.specs.declared.Format.{Format}
use Rattle.reading.specs.declared.Entry.{Entry}
use Rattle.reading.specs.Answers.{read, size_of}
use Rattle.index.specs.Index.{index_room, indexed_for}
use Rattle.index.proofs.Indexing.{room-both}

pub counted-room : (f : Format) (t : List ℕ) (a b n : ℕ) → taken n ≡ size_of (indexed_for f t a b) → (n ≤ a) × (n ≤ b)
unfolding indexed_for
counted-room f t a b n = by (read f t)
  where
    with-room : (es : List Entry) (r : Answer (Unit {0})) → index_room (length es) a b ≡ r → taken n ≡ size_of (r >> taken es) → (n ≤ a) × (n ≤ b)
    with-room es (taken u) q e = let same : n ≡ length es = cc in rw same (room-both (length es) a b (sym q))
    with-room es (refused m p) q e = let z : ◌≡◌ {A = ℕ} 0 1 = cc in absurd (omega (arith, z))

    by : (x : Answer (List Entry)) → taken n ≡ size_of (x >>= λ es. index_room (length es) a b >> taken es) → (n ≤ a) × (n ≤ b)
    by (taken es) e = with-room es (index_room (length es) a b) refl e
    by (refused m p) e = let z : ◌≡◌ {A = ℕ} 0 1 = cc in absurd (omega (arith, z))
