-- Demand 1 of a correction tape beside a master tape: what is refused, by which number and where.
use Prim.Native.Nat.{ℕ}
use mathlib.Core.Path.{◌≡◌, refl, ap, ◌∙◌}
use mathlib.Core.List.{List}
use lib.Dec.{ltb}
use lib.ListN.{length, take}
use borrow.Author.Tests.{ltb-false}
use Rattle.rows.specs.Answer.{Answer, taken, refused, ◌>>=◌}
use Rattle.rows.proofs.Outcomes.{Holds, refusal, value, holds-bind, holds-cond, of-refused}
use Rattle.shorthand.specs.declared.Format.{Format}
use Rattle.profile.specs.Answers.{agreed}
use Rattle.reading.specs.declared.Entry.{Entry}
use Rattle.reading.specs.Answers.{read, read_under, counted, size_of}
use Rattle.index.specs.Index.{numbers_of}
use Rattle.index.specs.Finding.{number_found}
use Rattle.corrections.specs.declared.Place.{Place}
use Rattle.corrections.specs.declared.Tape.TheVariants.{Correction, Master}
use Rattle.corrections.specs.Listing.{listing}
use Rattle.corrections.specs.Answers.{nth_named, both, entry_corrected, entry_indexed, place_on, held, place_in, place_corrected, rows_corrected}
use Rattle.corrections.proofs.ThroughIndexes.{as-indexed}
use Rattle.images.specs.Made.{Made}
use Rattle.images.proofs.MadeIndexes.{made-right}
use Rattle.demands.specs.Tables.{Reading, Correcting, Entering, Asking, Seeking}
use Rattle.demands.proofs.Demand1.{Answered, under-answered}
use Rattle.demands.proofs.Indexes.{number-answered}

-- the two tapes under the agreed Format are each read as alone
module _ {A : Type 0} (e : ℕ) (s p c m : List ℕ) (ask : List Entry → List Entry → Answer A) where
  each : both e s p c m ask ≡ (read_under e s p c >>= λ cs. read_under e s p m >>= ask cs)
  unfolding read_under
  each = by (agreed e s p)
    where
      by : (a : Answer Format) → (a >>= λ f. read f c >>= λ cs. read f m >>= ask cs) ≡ ((a >>= λ f. read f c) >>= λ cs. (a >>= λ f. read f m) >>= ask cs)
      by (taken f) = refl
      by (refused n k) = refl

  -- the correction's refusals, the master's, and then those of what is asked of both
  both-answered : {table : ℕ → ℕ → Type 0} → ((n k : ℕ) → Correcting e s p c m n k → table n k)
      → ((cs ms : List Entry) → read_under e s p c ≡ taken cs → read_under e s p m ≡ taken ms → Answered table (ask cs ms)) → Answered table (both e s p c m ask)
  both-answered {table} unread asked = rw each (first (read_under e s p c) refl (under-answered e s p c))
    where
      second : (cs : List Entry) → read_under e s p c ≡ taken cs → (b : Answer (List Entry)) → read_under e s p m ≡ b → Answered (Reading e s p m) b → Answered table (b >>= ask cs)
      second cs q (taken ms) r h = asked cs ms q r
      second cs q (refused n k) r (refusal h) = refusal (unread n k (Correcting.master (ap size_of q) h))

      first : (a : Answer (List Entry)) → read_under e s p c ≡ a → Answered (Reading e s p c) a → Answered table (a >>= λ cs. read_under e s p m >>= ask cs)
      first (taken cs) q h = second cs q (read_under e s p m) refl (under-answered e s p m)
      first (refused n k) q (refusal h) = refusal (unread n k (Correcting.correction h))

module _ (e : ℕ) (s p c m : List ℕ) where
  pub corrected-answered : (n : ℕ) → Answered (Entering e s p c m n) (entry_corrected e s p c m n)
  unfolding entry_corrected
  corrected-answered n =
      both-answered e s p c m (λ cs ms. nth_named n (listing (numbers_of cs) (numbers_of ms))) (λ i k h. Entering.unread h) (λ cs ms q r.
      holds-cond (ltb n (length (listing (numbers_of cs) (numbers_of ms)))) (λ l. value tt) (λ l. refusal (Entering.past q r (ltb-false n (length (listing (numbers_of cs) (numbers_of ms))) l))))

  pub asked-answered : (q : ℕ) → Answered (Asking e s p c m q) (rows_corrected e s p c m q)
  unfolding place_corrected
  asked-answered q =
      holds-bind
      (both-answered e s p c m (place_in q) (λ i k h. Asking.unread h) (λ cs ms h r.
      by cs ms h r (number_found (numbers_of cs) q) (number_found (numbers_of ms) q) (number-answered q (numbers_of cs)) (number-answered q (numbers_of ms))))
      (λ x h. value tt)
    where
      by : (cs ms : List Entry) → read_under e s p c ≡ taken cs → read_under e s p m ≡ taken ms → (a b : Answer ℕ) → Answered (Seeking (numbers_of cs) q) a → Answered (Seeking (numbers_of ms) q) b
          → Answered (Asking e s p c m q) (held (place_on Correction cs a) (place_on Master ms b))
      by cs ms x y (taken j) b g h = value tt
      by cs ms x y (refused n k) (taken i) g h = value tt
      by cs ms x y (refused n k) (refused i l) (refusal g) (refusal (Seeking.the_mark w)) = refusal (Asking.neither x y g (Seeking.the_mark w))
      by cs ms x y (refused n k) (refused i l) (refusal g) (refusal (Seeking.nowhere w)) = refusal (Asking.neither x y g (Seeking.nowhere w))

  -- through indexes that were made for the two tapes the entry is the same, and a refusal and its place too
  pub made-entry : {cf cn mf mn : List ℕ} {i j : ℕ} → Made e s p c cf cn i → Made e s p m mf mn j → (n : ℕ) → entry_indexed (take i cn) (take j mn) n ≡ entry_corrected e s p c m n
  made-entry x y n =
      let a = made-right e s p x in
      let b = made-right e s p y in
      rw (a.all, b.all) (as-indexed e s p c m a.accepted b.accepted a.index b.index n)
