-- Asking for a number and the corrected listing agree: the first entry with a number names the block whose rows asking for it gives.
use Prim.Native.Nat.{ℕ, ◌+◌, ◌-◌, ◌≤◌, ◌<◌}
use mathlib.Core.Path.{◌≡◌, refl, sym, ap, ◌∙◌, subst}
use mathlib.Core.List.{List}
use native.Mathlib.Decide.{dec_lt}
use native.Mathlib.Omega.{arith}
use lib.ListN.{length, get_or}
use borrow.Author.Tests.{lt-ltb}
use Rattle.rows.specs.Answer.{Answer, taken, refused, ◌>>=◌}
use Rattle.reading.specs.declared.Entry.{Entry}
use Rattle.reading.specs.Answers.{nowhere}
use Rattle.reading.specs.Front.{part_of}
use Rattle.index.specs.Index.{mark, numbers_of}
use Rattle.index.specs.Finding.{number_found}
use Rattle.corrections.specs.declared.Tape.TheVariants.{Correction, Master}
use Rattle.corrections.specs.declared.Named.{Named}
use Rattle.corrections.specs.declared.Place.{Place}
use Rattle.corrections.specs.Listing.{on_master, on_correction, number_at, entry_for, new_from, listing}
use Rattle.corrections.specs.Answers.{nth_named, found, tape_of, number_named, asked, place_on, held, place_in}
use Rattle.corrections.proofs.FoundNumbers.{First, None, Found, look}
use Rattle.corrections.proofs.Listings.{listed-master, listed-new}
use Rattle.corrections.proofs.CorrectedEntries.{Stands, itself, replaced, one-first, entry-stands, New, NewAt, new-rise, rise-at, rise-later, all_new}
use Rattle.reading.proofs.Outcomes.{never}

module _ (cs ms : List ℕ) where
  -- the entry of the master's block i has its number
  pub entry-number : (i : ℕ) → number_named cs ms (entry_for cs ms i) ≡ number_at ms i
  entry-number i = by (entry-stands cs ms i)
    where
      by : {x : Named} → Stands cs ms i (number_at ms i) x → number_named cs ms x ≡ number_at ms i
      by (itself h) = refl
      by (replaced other f g) = g.holds

  -- entry n is the first with the number q, and is x
  pub record FirstWith (q n : ℕ) (x : Named) : Type 0 where
    pub there : nth_named n (listing cs ms) ≡ taken x
    pub has : number_named cs ms x ≡ q
    pub before : (k : ℕ) → k < n → (y : Named) → nth_named k (listing cs ms) ≡ taken y → number_named cs ms y ≡ q → ⊥

  same_taken : {x y : Named} → taken x ≡ taken y → x ≡ y
  same_taken e = cc

  module _ (q : ℕ) where
    -- no entry before the master's first of a number has it
    none_before : {i : ℕ} → ((k : ℕ) → k < i → number_at ms k ≡ q → ⊥) → i ≤ length ms → (k : ℕ) → k < i → (y : Named) → nth_named k (listing cs ms) ≡ taken y → number_named cs ms y ≡ q → ⊥
    none_before h l k m y e n =
        let is : entry_for cs ms k ≡ y = same_taken (sym (listed-master cs ms k (omega (arith, l, m))) ∙ e) in
        h k m (sym (entry-number k) ∙ ap (number_named cs ms) is ∙ n)

    module _ (numbered : q ≡ mark → ⊥) where
      -- the master has it
      on-masters : {i : ℕ} → First q ms i → (x : Named) → entry_for cs ms i ≡ x → FirstWith q i x
      on-masters {i} f x e =
          record {
            there = listed-master cs ms i f.within ∙ ap taken e;
            has = sym (ap (number_named cs ms) e) ∙ entry-number i ∙ f.holds;
            before = none_before f.before (omega (arith, f.within));
          }

      -- the entry for its first block there
      master-first : {i : ℕ} → First q ms i → None q cs → entry_for cs ms i ≡ on_master i
      master-first {i} f none = by (entry-stands cs ms i)
        where
          by : {x : Named} → Stands cs ms i (number_at ms i) x → x ≡ on_master i
          by (itself h) = refl
          by (replaced {j = j} other g c) = absurd (none j c.within (c.holds ∙ f.holds))

      replaced-first : {i j : ℕ} → First q ms i → First q cs j → entry_for cs ms i ≡ on_correction j
      replaced-first {i} {j} f g = by (entry-stands cs ms i)
        where
          mine : First (number_at ms i) ms i
          mine = subst (λ n. First n ms i) (sym f.holds) f

          by : {x : Named} → Stands cs ms i (number_at ms i) x → x ≡ on_correction j
          by (itself h) = absurd (h (λ e. numbered (sym f.holds ∙ e)) mine j g.within (g.holds ∙ sym f.holds))
          by (replaced other m c) = ap on_correction (one-first cs ms c (subst (λ n. First n cs j) (sym f.holds) g))

      -- only the correction has it
      only-new : {j : ℕ} → First q cs j → None q ms → (n : ℕ) × FirstWith q n (on_correction j)
      only-new {j} f none =
          let own : New cs ms j = record { numbered = λ e. numbered (sym f.holds ∙ e); first = subst (λ n. First n cs j) (sym f.holds) f; none = subst (λ n. None n ms) (sym f.holds) none } in
          let a = all_new cs ms (length cs) 0 j (omega arith) (omega (arith, f.within)) own in
          let new = new_from cs ms (length cs) 0 in
          let at : length ms + a.0 - length ms ≡ a.0 = omega arith in (
            length ms + a.0,
            record {
              there = listed-new cs ms (length ms + a.0) (omega arith) ∙ rw (at, lt-ltb a.0 (length new) a.1.within, a.1.is);
              has = f.holds;
              before = earlier a.0 a.1;
            },
          )
        where
          earlier : (n : ℕ) → NewAt cs ms (new_from cs ms (length cs) 0) n j → (k : ℕ) → k < length ms + n → (y : Named) → nth_named k (listing cs ms) ≡ taken y → number_named cs ms y ≡ q → ⊥
          earlier n a k m y e h =
              elim (dec_lt k (length ms)) [
                | yes l ↦ none_before {i = length ms} (λ i w z. none i w z) (omega arith) k l y e h
                | no l ↦
                    let new = new_from cs ms (length cs) 0 in
                    let b = rise-at cs ms (new-rise cs ms (length cs) 0) (k - length ms) (omega (arith, l, m, a.within)) in
                    let is : on_correction b.0 ≡ y =
                    same_taken (sym (listed-new cs ms k (omega (arith, l)) ∙ rw (lt-ltb (k - length ms) (length new) b.1.within, b.1.is)) ∙ e) in
                    (rise-later cs ms (new-rise cs ms (length cs) 0) (omega (arith, l, m)) b.1 a).1 (ap (number_named cs ms) is ∙ h ∙ sym f.holds)
              ]

    -- what asking for a number gives is the first entry with it
    pub agrees : {x : Named} → asked cs ms q ≡ taken x → (n : ℕ) × FirstWith q n x
    agrees {x} e = by (look q cs) (look q ms)
      where
        by : Found q cs → Found q ms → (n : ℕ) × FirstWith q n x
        by (Found.at j o f r) (Found.at i p g s) =
            let is : on_correction j ≡ x = same_taken (rw r at e) in (i, on-masters o g x (replaced-first o g f ∙ is))
        by (Found.at j o f r) (Found.nowhere g s) =
            let is : on_correction j ≡ x = same_taken (rw r at e) in
            let k = only-new o f (g o) in (k.0, subst (FirstWith q k.0) is k.1)
        by (Found.nowhere f r) (Found.at i p g s) =
            let is : on_master i ≡ x = same_taken (rw (r, s) at e) in (i, on-masters p g x (master-first p g (f p) ∙ is))
        by (Found.nowhere f r) (Found.nowhere g s) = never (rw (r, s) at e)

-- the place that an entry names
abbrev pub place_named : List Entry → List Entry → Named → Place
place_named cs ms x = record { tape = x.tape; part = part_of (get_or (tape_of cs ms x.tape) x.block nowhere) }

-- and the rows that are handed back are those of that entry
pub place-asked : (q : ℕ) (cs ms : List Entry) → place_in q cs ms ≡ (asked (numbers_of cs) (numbers_of ms) q >>= λ x. taken (place_named cs ms x))
place-asked q cs ms = by (number_found (numbers_of cs) q) (number_found (numbers_of ms) q)
  where
    by : (a b : Answer ℕ) → held (place_on Correction cs a) (place_on Master ms b) ≡ (found a b >>= λ x. taken (place_named cs ms x))
    by (taken j) b = refl
    by (refused n p) (taken i) = refl
    by (refused n p) (refused m k) = refl
