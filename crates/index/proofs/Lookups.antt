-- Through an index of its blocks, block n of a tape, its rows and the first block of a number are what the walk over the whole tape finds.
use Prim.Native.Nat.{ℕ, ◌≤◌, ◌<◌}
use mathlib.Core.Path.{◌≡◌, ap, ◌∙◌}
use mathlib.Core.List.{List}
use lib.ListN.{length, get_or, take}
use Rattle.rows.specs.Answer.{taken, refused, ◌>>=◌}
use Rattle.rows.specs.Passes.{Changed, Damaged}
use Rattle.shorthand.specs.declared.Format.{Format}
use Rattle.profile.specs.Answers.{agreed}
use Rattle.profile.proofs.Settling.{agreed-facts}
use Rattle.reading.specs.declared.Entry.{Entry}
use Rattle.reading.specs.Answers.{nowhere, read, read_under, entry_numbered, block_numbered, rows_numbered, entry_rows}
use Rattle.reading.proofs.Programs.{from-taken}
use Rattle.index.specs.Index.{Indexes}
use Rattle.index.specs.Finding.{entry_found, block_found, rows_found, number_found, first_numbered}
use Rattle.index.proofs.WalkedEntries.{found, damage}
use Rattle.index.proofs.WalkedNumbers.{number-found}

module _ (e : ℕ) (s p t : List ℕ) {es : List Entry} (accepted : read_under e s p t ≡ taken es) where
  read_under_lem : (f : Format) × (agreed e s p ≡ taken f) × (read f t ≡ taken es)
  unfolding read_under
  read_under_lem = from-taken (agreed e s p) (λ f. read f t) es accepted

  module _ {firsts numbers : List ℕ} (index : Indexes es firsts numbers) (n : ℕ) where
    -- where block n stands, or 15 at the number of blocks
    pub entry : entry_found e s p t (take (length es) firsts) n ≡ entry_numbered e s p t n
    unfolding entry_found
    entry =
        let u = read_under_lem in
        rw (u.1, index.rows, accepted) (found u.0 (agreed-facts e s p u.0 u.1) t u.2 n)

    pub block : block_found e s p t (take (length es) firsts) n ≡ block_numbered e s p t n
    block = ap (λ a. a >>= λ x. taken x.block) entry

    pub rows : rows_found e s p t (take (length es) firsts) n ≡ rows_numbered e s p t n
    rows = ap (λ a. a >>= λ x. taken (entry_rows t x)) entry

    -- the first block with the number n, or 25
    pub number : number_found (take (length es) numbers) n ≡ first_numbered n 0 es
    number = let u = read_under_lem in ap (λ ns. number_found ns n) index.marks ∙ number-found u.0 (agreed-facts e s p u.0 u.1) t u.2 n

    -- where the image was damaged since in rows of block n, and perhaps elsewhere: 5 at the first damaged row among them
    pub damaged : n < length es → {u : List ℕ} → Damaged t u → (k : ℕ) → (get_or es n nowhere).from ≤ k → k < (get_or es n nowhere).to → Changed (get_or t k 0) (get_or u k 0)
        → ((m : ℕ) → (get_or es n nowhere).from ≤ m → m < k → get_or u m 0 ≡ get_or t m 0) → entry_found e s p u (take (length es) firsts) n ≡ refused 5 k
    unfolding entry_found
    damaged l d k from to changed before =
        let u = read_under_lem in
        rw (u.1, index.rows) (damage u.0 (agreed-facts e s p u.0 u.1) t u.2 n l d k from to changed before)
