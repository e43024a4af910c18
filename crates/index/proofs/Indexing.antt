-- What an index's answer is, and what it leaves in the arrays, by what the four stages answered and the room there is.
use mathlib.Core.Path.{◌≡◌, refl, sym, ap}
use mathlib.Core.Bool.{Bool, true, false, ◌&&◌, cond}
use mathlib.Core.List.{List, [], ◌∷◌}
use Prim.Native.Nat.{ℕ, ◌≤◌, ◌<◌}
use native.Mathlib.Omega.{arith}
use lib.Dec.{leb}
use lib.ListN.{length, get_or}
use borrow.Author.Tests.{leb-true}
use Rattle.rows.specs.Answer.{Answer, taken, refused, value_or}
use Rattle.shorthand.specs.declared.Format.{Format}
use Rattle.reading.specs.declared.Part.{Part}
use Rattle.reading.specs.declared.Entry.{Entry}
use Rattle.reading.specs.Answers.{nowhere, read, size_of}
use Rattle.reading.specs.Front.{part_of, part_in}
use Rattle.punching.specs.Answers.{after}
use Rattle.index.specs.Index.{index_room, indexed_for, laid, firsts_of, numbers_of, entries_of}

-- there is room in both arrays
pub room-both : (n a b : ℕ) → taken tt ≡ index_room n a b → (n ≤ a) × (n ≤ b)
room-both n a b e = by (leb n a) refl (leb n b) refl e
  where
    by : (x : Bool) → leb n a ≡ x → (y : Bool) → leb n b ≡ y → ◌≡◌ {A = Answer (Unit {0})} (taken tt) (cond (x && y) (taken tt) (refused 24 n)) → (n ≤ a) × (n ≤ b)
    by true p true q h = (leb-true n a p, leb-true n b q)
    by true p false q h = let z : ◌≡◌ {A = ℕ} 0 1 = cc in absurd (omega (arith, z))
    by false p y q h = let z : ◌≡◌ {A = ℕ} 0 1 = cc in absurd (omega (arith, z))

size-taken : (a : Answer (List Entry)) (n : ℕ) → taken n ≡ size_of a → (a ≡ taken (value_or [] a)) × (n ≡ length (value_or [] a))
size-taken (taken es) n e = (refl, cc)
size-taken (refused m p) n e = let z : ◌≡◌ {A = ℕ} 0 1 = cc in absurd (omega (arith, z))

size-refused : (a : Answer (List Entry)) (m p : ℕ) → refused m p ≡ size_of a → a ≡ refused m p
size-refused (taken es) m p e = let z : ◌≡◌ {A = ℕ} 0 1 = cc in absurd (omega (arith, z))
size-refused (refused n q) m p e = let a : n ≡ m = cc in let b : q ≡ p = cc in rw (a, b)

none-listed : (es : List Entry) → length es ≤ 0 → es ≡ []
none-listed [] h = refl
none-listed (x ∷ es) h = absurd (omega (arith, h))

module _ (firsts₀ numbers₀ : List ℕ) where
  -- an answer, by the number told and what the arrays hold behind it
  abbrev pub Lays : Answer (List Entry) → Answer ℕ → List ℕ → List ℕ → Type 0
  Lays a count firsts numbers = (count ≡ size_of a) × ((firsts ≡ after firsts₀ (laid firsts_of a)) × (numbers ≡ after numbers₀ (laid numbers_of a)))

  -- a refusal leaves both as they were
  pub lays-nothing : (a : Answer (List Entry)) (m p : ℕ) → a ≡ refused m p → Lays a (refused m p) firsts₀ numbers₀
  lays-nothing a m p e = rw e (refl, (refl, refl))

  module _ (f : Format) (t : List ℕ) where
    abbrev answer : Answer (List Entry)
    answer = indexed_for f t (length firsts₀) (length numbers₀)

    pub not-read : (m p : ℕ) → refused m p ≡ size_of (read f t) → Lays answer (refused m p) firsts₀ numbers₀
    unfolding indexed_for
    not-read m p e = lays-nothing answer m p (rw (size-refused (read f t) m p e))

    module _ (n : ℕ) (counted : taken n ≡ size_of (read f t)) where
      pub no_room : (m p : ℕ) → refused m p ≡ index_room n (length firsts₀) (length numbers₀) → Lays answer (refused m p) firsts₀ numbers₀
      unfolding indexed_for
      no_room m p e = let c = size-taken (read f t) n counted in lays-nothing answer m p (rw (c.0, sym c.1, sym e))

      module _ (room : taken tt ≡ index_room n (length firsts₀) (length numbers₀)) where
        indexed-all : answer ≡ taken (entries_of f t)
        unfolding indexed_for
        indexed-all = let c = size-taken (read f t) n counted in rw (c.0, sym c.1, sym room)

        pub lays_all : (firsts numbers : List ℕ) → (firsts ≡ after firsts₀ (taken (firsts_of (entries_of f t)))) × (numbers ≡ after numbers₀ (taken (numbers_of (entries_of f t))))
            → Lays answer (taken n) firsts numbers
        lays_all firsts numbers h = rw indexed-all (ap taken (size-taken (read f t) n counted).1, h)

        -- of no blocks nothing is laid
        pub lays-none : n ≤ 0 → Lays answer (taken n) firsts₀ numbers₀
        lays-none h =
            let none = none-listed (entries_of f t) (omega (arith, h, (size-taken (read f t) n counted).1)) in
            lays_all firsts₀ numbers₀ (rw none (refl, refl))
