-- The search for the new entry with so many before it, over the blocks of the correction.
use Prim.Native.Nat.{ℕ, suc, ◌+◌, ◌-◌, ◌≤◌, ◌<◌}
use mathlib.Core.Path.{◌≡◌, sym, ap, ◌∙◌}
use mathlib.Core.Bool.{Bool, true, false}
use mathlib.Core.List.{List, [], ◌∷◌, ◌++◌, append-nil}
use native.Mathlib.Numerals.{add-one}
use native.Mathlib.Omega.{arith}
use lib.ListN.{length, length-append}
use lib.Seq.{append_snoc, get_or-append_seam}
use borrow.Author.Tests.{lt-ltb, le-ltb}
use Rattle.rows.specs.Answer.{taken, refused}
use Rattle.corrections.specs.declared.Named.{Named}
use Rattle.corrections.specs.Listing.{on_master, on_correction, is_new, new_from, listing}
use Rattle.corrections.specs.Answers.{nth_named}
use Rattle.corrections.proofs.NthEntry.{counted_behind}
use Rattle.corrections.proofs.Listings.{listed-new}

module _ (cs ms : List ℕ) where
  -- ---- one block

  module _ (k block : ℕ) (l : block < k) where
    one_more : k - block ≡ suc (k - (block + 1))
    one_more = omega (arith, l)

    new-here : is_new cs ms block ≡ true → new_from cs ms (k - block) block ≡ on_correction block ∷ new_from cs ms (k - (block + 1)) (block + 1)
    unfolding new_from
    new-here e = rw (one_more, e, add-one block)

    old-here : is_new cs ms block ≡ false → new_from cs ms (k - block) block ≡ new_from cs ms (k - (block + 1)) (block + 1)
    unfolding new_from
    old-here e = rw (one_more, e, add-one block)

  none_more : (k block : ℕ) → k ≤ block → new_from cs ms (k - block) block ≡ []
  unfolding new_from
  none_more k block l = let z : k - block ≡ 0 = omega (arith, l) in rw z

  -- ---- the blocks before one, of k

  module _ (k wanted : ℕ) where
    -- the new entries before a block, and how many more stand before the wanted one
    pub record Seen (left block : ℕ) : Type 0 where
      pub seen : List Named
      pub split : new_from cs ms k 0 ≡ seen ++ new_from cs ms (k - block) block
      pub counts : length seen + left ≡ wanted

    pub start : Seen wanted 0
    start = let z : k - 0 ≡ k = omega arith in record { seen = []; split = rw z; counts = omega arith }

    module _ {left block : ℕ} (s : Seen left block) where
      pub step-new : block < k → {new : Bool} → new ≡ is_new cs ms block → new ≡ true → (left ≡ 0 → ⊥) → Seen (left - 1) (block + 1)
      step-new l is e some =
          let more = length-append s.seen (on_correction block ∷ []) in
          record {
            seen = s.seen ++ (on_correction block ∷ []);
            split = s.split ∙ ap (λ r. s.seen ++ r) (new-here k block l (sym is ∙ e)) ∙ sym (append_snoc s.seen (on_correction block) _);
            counts = omega (arith, more, some, s.counts);
          }

      pub step-old : block < k → {new : Bool} → new ≡ is_new cs ms block → new ≡ false → Seen left (block + 1)
      step-old l is e = record { seen = s.seen; split = s.split ∙ ap (λ r. s.seen ++ r) (old-here k block l (sym is ∙ e)); counts = s.counts }

      found : block < k → {new : Bool} → new ≡ is_new cs ms block → new ≡ true → left ≡ 0 → nth_named wanted (new_from cs ms k 0) ≡ taken (on_correction block)
      found l is e none =
          let rest = new_from cs ms (k - (block + 1)) (block + 1) in
          let all : new_from cs ms k 0 ≡ s.seen ++ on_correction block ∷ rest = s.split ∙ ap (λ r. s.seen ++ r) (new-here k block l (sym is ∙ e)) in
          let at : length s.seen ≡ wanted = omega (arith, none, s.counts) in
          let long = length-append s.seen (on_correction block ∷ rest) in
          rw (all, ← at, lt-ltb (length s.seen) (length (s.seen ++ on_correction block ∷ rest)) (omega (arith, long)), get_or-append_seam s.seen (on_correction block) rest (on_master 0))

      ended : k ≤ block → nth_named wanted (new_from cs ms k 0) ≡ refused 15 (wanted - left)
      ended l =
          let all : new_from cs ms k 0 ≡ s.seen = s.split ∙ ap (λ r. s.seen ++ r) (none_more k block l) ∙ append-nil s.seen in
          let at : length s.seen ≡ wanted - left = omega (arith, s.counts) in
          rw (all, le-ltb wanted (length s.seen) (omega (arith, s.counts)), at)

  -- ---- behind the master's entries

  module _ (n : ℕ) (behind : length ms ≤ n) {left block : ℕ} (s : Seen (length cs) (n - length ms) left block) where
    pub listed-found : block < length cs → {new : Bool} → new ≡ is_new cs ms block → new ≡ true → left ≡ 0 → taken (on_correction block) ≡ nth_named n (listing cs ms)
    listed-found l is e none = sym (listed-new cs ms n behind ∙ ap (counted_behind (length ms)) (found _ _ s l is e none))

    pub listed-ended : length cs ≤ block → refused 15 (n - left) ≡ nth_named n (listing cs ms)
    listed-ended l =
        let e : length ms + (n - length ms - left) ≡ n - left = omega (arith, behind, s.counts) in
        sym (listed-new cs ms n behind ∙ ap (counted_behind (length ms)) (ended _ _ s l) ∙ ap (refused 15) e)
