-- Where the first block of a number stands, it stands within the tape that holds it.
use Prim.Native.Nat.{ℕ, suc, ◌≤◌}
use mathlib.Core.Path.{◌≡◌, refl, sym}
use mathlib.Core.List.{List}
use native.Mathlib.Decide.{dec_le}
use native.Mathlib.Omega.{arith}
use lib.ListN.{length, get_or, get_or-eq_default}
use Rattle.rows.specs.Answer.{Answer, taken, refused, ◌>>=◌}
use Rattle.shorthand.specs.declared.Format.{Format}
use Rattle.profile.specs.Answers.{agreed}
use Rattle.reading.specs.declared.Entry.{Entry}
use Rattle.reading.specs.Answers.{nowhere, read}
use Rattle.reading.proofs.Accepted.{read_taken}
use Rattle.reading.proofs.Places.{places}
use Rattle.index.specs.Index.{numbers_of}
use Rattle.index.specs.Finding.{number_found}
use Rattle.corrections.specs.declared.Place.{Place}
use Rattle.corrections.specs.declared.Tape.{Tape}
use Rattle.corrections.specs.declared.Tape.TheVariants.{Correction, Master}
use Rattle.corrections.specs.Answers.{both_for, place_on, held, place_in, place_corrected, tape_of}

-- a block of an accepted tape does, and what is past the last block
entry-within : (f : Format) (t : List ℕ) {es : List Entry} → read f t ≡ taken es → (n : ℕ) → ((get_or es n nowhere).from ≤ (get_or es n nowhere).to) × ((get_or es n nowhere).to ≤ length t)
entry-within f t {es} e n =
    elim (dec_le (suc n) (length es)) [
      | yes l ↦ let w = (places f t es (read_taken f t e).1 nowhere).within n l in (omega (arith, w.0), w.1)
      | no l ↦ rw (get_or-eq_default es nowhere {n = n} (omega (arith, l))) (omega arith, omega arith)
    ]

module _ (c m : List ℕ) where
  abbrev pub Within : Place → Type 0
  Within x = (x.part.from ≤ x.part.to) × (x.part.to ≤ length (tape_of c m x.tape))

  abbrev Handed : Answer Place → Type 0
  Handed (taken x) = Within x
  Handed (refused n p) = Unit {0}

  on-within : (on : Tape) (f : Format) {es : List Entry} → read f (tape_of c m on) ≡ taken es → (a : Answer ℕ) → Handed (place_on on es a)
  on-within on f e (taken n) = entry-within f (tape_of c m on) e n
  on-within on f e (refused n p) = tt

  held-within : (a b : Answer Place) → Handed a → Handed b → Handed (held a b)
  held-within (taken x) b h k = h
  held-within (refused n p) b h k = k

  module _ (q : ℕ) where
    both-within : (f : Format) → Handed (both_for f c m (place_in q))
    both-within f = by (read f c) refl (read f m) refl
      where
        by : (a : Answer (List Entry)) → read f c ≡ a → (b : Answer (List Entry)) → read f m ≡ b → Handed (a >>= λ cs. b >>= place_in q cs)
        by (refused n p) x b y = tt
        by (taken cs) x (refused n p) y = tt
        by (taken cs) x (taken ms) y =
            let one = number_found (numbers_of cs) q in
            let other = number_found (numbers_of ms) q in
            held-within (place_on Correction cs one) (place_on Master ms other) (on-within Correction f x one) (on-within Master f y other)

    pub place-within : (e : ℕ) (s p : List ℕ) (x : Place) → taken x ≡ place_corrected e s p c m q → Within x
    unfolding place_corrected
    place-within e s p x h = rw (sym h) at (by (agreed e s p))
      where
        by : (a : Answer Format) → Handed (a >>= λ f. both_for f c m (place_in q))
        by (refused n k) = tt
        by (taken f) = both-within f
