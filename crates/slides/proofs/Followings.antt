-- The blocks of an accepted tape followed one behind another, to the first that leaves its travel.
use Prim.Native.Nat.{ℕ, suc, ◌+◌, ◌≤◌, ◌<◌}
use mathlib.Core.Path.{◌≡◌, sym, ap, ◌∙◌}
use mathlib.Core.List.{List, [], ◌∷◌}
use native.Mathlib.Numerals.{add-one}
use native.Mathlib.Omega.{arith}
use lib.ListN.{length, get_or, take, drop, length-map, get_or-map, drop_of_length-le}
use lib.Seq.{length-take-le, drop-cons, get_or-take}
use Rattle.rows.specs.Answer.{Answer, taken, refused, ◌>>=◌}
use Rattle.rows.specs.Stages.{limit}
use Rattle.rows.proofs.Judged.{clean-passes}
use Rattle.shorthand.specs.declared.Format.{Format}
use Rattle.shorthand.specs.Facts.{Facts}
use Rattle.reading.specs.declared.Entry.{Entry}
use Rattle.reading.specs.Answers.{nowhere, read}
use Rattle.reading.specs.Survey.{entry_from}
use Rattle.reading.proofs.Accepted.{read_taken, few-blocks}
use Rattle.reading.proofs.OwnRows.{own-from}
use Rattle.reading.proofs.Places.{places}
use Rattle.index.specs.Index.{entries_of}
use Rattle.slides.specs.declared.Rule.{Rule}
use Rattle.slides.specs.declared.Slides.{Slides}
use Rattle.slides.specs.Moves.{block_tried, start, followed}
use Rattle.slides.specs.Answers.{blocks_to}
use Rattle.slides.specs.Front.{Full}
use Rattle.slides.proofs.WordWidths.{entry-full}
use Rattle.slides.proofs.WordTrials.{Sound}
use Rattle.slides.proofs.BlockTrials.{block-keeps}

-- ---- block k of some

module _ (n : ℕ) (es : List Entry) (inside : n < length es) where
  up-to-length : length (blocks_to n es) ≡ suc n
  up-to-length = length-map (take (suc n) es) (λ x. x.block) ∙ length-take-le (suc n) es inside

  block_at : (k : ℕ) → k ≤ n → drop k (blocks_to n es) ≡ (get_or es k nowhere).block ∷ drop (suc k) (blocks_to n es)
  block_at k l =
      drop-cons (blocks_to n es) k nowhere.block (omega (arith, up-to-length))
      ∙ rw (get_or-map (λ x. x.block) (take (suc n) es) k nowhere, get_or-take (suc n) es k nowhere (omega arith))

  none_behind : (k : ℕ) → n < k → drop k (blocks_to n es) ≡ []
  none_behind k l = drop_of_length-le (blocks_to n es) {i = k} (omega (arith, up-to-length))

-- ---- one behind another

module _ (f : Format) (t : List ℕ) (r : Rule) (n : ℕ) where
  -- block k begins at a row, and before it the axes stand so
  pub record Following (k from : ℕ) (s : Slides) : Type 0 where
    pub stands : k < length (entries_of f t) → from ≡ (get_or (entries_of f t) k nowhere).from
    pub kept : Sound r s.places
    pub ahead : followed r 0 (blocks_to n (entries_of f t)) start ≡ followed r k (drop k (blocks_to n (entries_of f t))) s

  module _ (accepted : read f t ≡ taken (entries_of f t)) (inside : n < length (entries_of f t)) {k from : ℕ} {s : Slides} (h : Following k from s) where
    -- no tape has more rows than the limit, and no more blocks
    pub soon : k ≤ n → k < limit
    soon l = omega (arith, l, inside, few-blocks f t accepted, (clean-passes t (read_taken f t accepted).0).short)

    pub follow-end : n < k → taken s ≡ followed r 0 (blocks_to n (entries_of f t)) start
    unfolding followed
    follow-end l = rw (h.ahead, none_behind n (entries_of f t) inside k l)

    module _ (l : k ≤ n) where
      own : entry_from f t from ≡ taken (get_or (entries_of f t) k nowhere)
      own = ap (entry_from f t) (h.stands (omega (arith, l, inside))) ∙ own-from f t accepted k (omega (arith, l, inside))

      pub follow-there : (m p : ℕ) → refused m p ≡ entry_from f t from → ⊥
      follow-there m p e = let z = e ∙ own in cc

      module _ (x : Entry) (e : taken x ≡ entry_from f t from) where
        here : x ≡ get_or (entries_of f t) k nowhere
        here = let z = e ∙ own in cc

        pub full-here : Facts f → Full x.block
        full-here facts = entry-full f facts t from x (sym e)

        by-block : (a : Answer Slides) → a ≡ block_tried r k x.block s → followed r 0 (blocks_to n (entries_of f t)) start ≡ (a >>= followed r (suc k) (drop (suc k) (blocks_to n (entries_of f t))))
        unfolding followed
        by-block a q = h.ahead ∙ rw (block_at n (entries_of f t) inside k l, sym here, sym q)

        pub follow-refused : (m p : ℕ) → refused m p ≡ block_tried r k x.block s → refused m p ≡ followed r 0 (blocks_to n (entries_of f t)) start
        follow-refused m p q = sym (by-block (refused m p) q)

        pub follow-on : (u : Slides) → taken u ≡ block_tried r k x.block s → Following (k + 1) x.to u
        follow-on u q =
            let p = places f t (entries_of f t) (read_taken f t accepted).1 nowhere in
            record {
              stands = λ m. ap (λ (b : Entry). b.to) here ∙ sym (ap (λ i. (get_or (entries_of f t) i nowhere).from) (add-one k) ∙ p.next k (rw (add-one k) at m));
              kept = block-keeps r k x.block s u h.kept (sym q);
              ahead = by-block (taken u) q ∙ rw add-one;
            }
