-- The blocks of an accepted tape: block n, and the search for the first that has a number, block by block.
use Prim.Native.Nat.{ℕ, zero, suc, ◌+◌, ◌≤◌, ◌<◌}
use mathlib.Core.Path.{◌≡◌, refl, sym, ap, ◌∙◌}
use mathlib.Core.Bool.{not}
use mathlib.Core.List.{List, [], ◌∷◌}
use native.Mathlib.Numerals.{add-one}
use native.Mathlib.Nat.{le_of_suc-le-suc, not-suc-le-zero}
use native.Mathlib.Decide.{dec_lt}
use native.Mathlib.Omega.{arith}
use lib.ListN.{length, get_or, drop, length-map}
use borrow.Author.Tests.{lt-ltb, le-ltb, ne_eqb}
use Rattle.rows.specs.Answer.{Answer, taken, refused}
use Rattle.shorthand.specs.declared.Format.{Format}
use Rattle.reading.specs.declared.Part.{Part}
use Rattle.reading.specs.declared.Entry.{Entry}
use Rattle.reading.specs.Answers.{nowhere, nth, read}
use Rattle.reading.specs.Front.{part_of, part_in, has_block}
use Rattle.reading.specs.Survey.{entry_from}
use Rattle.reading.proofs.Accepted.{read_taken}
use Rattle.reading.proofs.OwnRows.{own-from}
use Rattle.reading.proofs.Places.{places}
use Rattle.index.specs.Index.{mark, marked, number_in, numbers_of, entries_of}
use Rattle.index.specs.Finding.{first_at, number_found}
use Rattle.index.proofs.FirstNumber.{first-here, first-later, first-none, other-found, none_found}
use Rattle.corrections.specs.Rolls.{Rolls, sought}

-- ---- the number of block n

pub numbers-length : (es : List Entry) → length (numbers_of es) ≡ length es
numbers-length es = length-map es (λ x. number_in x.block)

number-of-entry : (es : List Entry) (n d : ℕ) → n < length es → get_or (numbers_of es) n d ≡ number_in (get_or es n nowhere).block
number-of-entry [] n d l = absurd (not-suc-le-zero l)
number-of-entry (x ∷ es) zero d l = refl
number-of-entry (x ∷ es) (suc n) d l = number-of-entry es n d (le_of_suc-le-suc l)

-- ---- block n

module _ (f : Format) (t : List ℕ) {first count : ℕ} (rolls : Rolls f t first count) where
  inside : (n : ℕ) → n < count → n < length (entries_of f t)
  inside n l = omega (arith, l, rolls.counts)

  module _ (n : ℕ) where
    module _ (l : n < count) where
      own : entry_from f t (get_or (entries_of f t) n nowhere).from ≡ taken (get_or (entries_of f t) n nowhere)
      own = own-from f t rolls.accepted n (inside n l)

      part-own : (part : Part) → taken part ≡ part_in n (read f t) → entry_from f t part.from ≡ nth n (entries_of f t)
      part-own part e =
          let found : ◌≡◌ {A = Answer Part} (taken part) (taken (part_of (get_or (entries_of f t) n nowhere))) = rw rolls.accepted at e in
          let same : part ≡ part_of (get_or (entries_of f t) n nowhere) = cc in
          rw (same, lt-ltb n (length (entries_of f t)) (inside n l)) own

      -- what begins where block n does is block n
      pub block-own : (from : ℕ) → from ≡ (get_or (entries_of f t) n nowhere).from → (x : Entry) → taken x ≡ entry_from f t from → x ≡ get_or (entries_of f t) n nowhere
      block-own from stands x e = let z = e ∙ ap (entry_from f t) stands ∙ own in cc

      pub block-there : (from : ℕ) → from ≡ (get_or (entries_of f t) n nowhere).from → (m p : ℕ) → refused m p ≡ entry_from f t from → ⊥
      block-there from stands m p e = let z = e ∙ ap (entry_from f t) stands ∙ own in cc

    pub nth-own : taken tt ≡ has_block n (taken count) → (part : Part) → taken part ≡ part_in n (read f t) → entry_from f t part.from ≡ nth n (entries_of f t)
    nth-own h part e =
        elim (dec_lt n count) [
          | yes l ↦ part-own l part e
          | no l ↦ let k : count ≤ n = omega (arith, l) in let z = rw (le-ltb n count k) at h in cc
        ]

  -- ---- the search

  abbrev ns : List ℕ
  ns = numbers_of (entries_of f t)

  module _ (q : ℕ) where
    -- block n begins at a row, and no block before it has the number q
    pub record Seeks (n from : ℕ) : Type 0 where
      pub stands : n < length (entries_of f t) → from ≡ (get_or (entries_of f t) n nowhere).from
      pub later : first_at q 0 (numbers_of (entries_of f t)) ≡ first_at q n (drop n (numbers_of (entries_of f t)))

    pub seeks-start : Seeks 0 first
    seeks-start = record { stands = λ l. rolls.begins; later = refl }

    no-sought : number_found ns q ≡ refused 25 0 → refused 25 0 ≡ sought (entries_of f t) q
    no-sought e = rw e

    module _ {n from : ℕ} (s : Seeks n from) where
      pub none-sought : count ≤ n → refused 25 0 ≡ sought (entries_of f t) q
      none-sought l = let long = numbers-length (entries_of f t) in no-sought (none_found ns q (s.later ∙ first-none ns q n (omega (arith, l, long, rolls.counts))))

      module _ (l : n < count) where
        pub seek-there : (m p : ℕ) → refused m p ≡ entry_from f t from → ⊥
        seek-there m p e = block-there n l from (s.stands (inside n l)) m p e

        module _ (x : Entry) (e : taken x ≡ entry_from f t from) (m : ℕ) (h : m ≡ marked x.block.numbered x.block.sequence) where
          is-own : x ≡ get_or (entries_of f t) n nowhere
          is-own = block-own n l from (s.stands (inside n l)) x e

          inside-numbers : n < length ns
          inside-numbers = let long = numbers-length (entries_of f t) in omega (arith, long, inside n l)

          own-number : get_or ns n 0 ≡ m
          own-number = number-of-entry (entries_of f t) n 0 (inside n l) ∙ sym (h ∙ ap (λ (y : Entry). number_in y.block) is-own)

          pub here : (q ≡ mark → ⊥) → m ≡ q → taken (record { block = n; part = part_of x }) ≡ sought (entries_of f t) q
          here other same =
              let found = other-found ns q (ap not (ne_eqb q mark other)) ∙ s.later ∙ first-here ns q n inside-numbers (own-number ∙ same) in
              rw (found, is-own)

          pub passed : (m ≡ q → ⊥) → Seeks (n + 1) x.to
          passed differs =
              let p = places f t (entries_of f t) (read_taken f t rolls.accepted).1 nowhere in
              record {
                stands = λ k. ap (λ (y : Entry). y.to) is-own ∙ sym (ap (λ i. (get_or (entries_of f t) i nowhere).from) (add-one n) ∙ p.next n (rw (add-one n) at k));
                later = s.later ∙ first-later ns q n inside-numbers (λ z. differs (sym own-number ∙ z));
              }
