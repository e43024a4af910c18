-- The last block taken off an image: the others are left where they were, and what was punched there fits again.
use Prim.Native.Nat.{ℕ, zero, suc, ◌+◌, ◌-◌, ◌≤◌, ◌<◌}
use mathlib.Core.Path.{◌≡◌, refl, sym, ap, ◌∙◌, subst}
use mathlib.Core.Bool.{Bool, true, false, cond}
use mathlib.Core.Logic.{inr}
use mathlib.Core.List.{List, [], ◌∷◌, ◌++◌}
use native.Mathlib.Omega.{arith}
use lib.Dec.{ltb, leb}
use lib.ListN.{length, get_or, take, drop, replicate, length-append, length-replicate}
use lib.Seq.{length-take-le, take-append-le, drop_at, drop-drop}
use borrow.Author.Tests.{ltb-true, le-leb}
use Rattle.rows.specs.Answer.{Answer, taken, refused, ◌>>=◌}
use Rattle.rows.specs.Passes.{Every}
use Rattle.reading.specs.declared.Block.{Block}
use Rattle.rows.proofs.Blanks.{Blank}
use Rattle.shorthand.specs.declared.Format.{Format}
use Rattle.shorthand.specs.Facts.{Facts}
use Rattle.reading.specs.declared.Part.{Part}
use Rattle.reading.specs.declared.Entry.{Entry}
use Rattle.reading.specs.Answers.{nowhere, read}
use Rattle.reading.specs.Front.{part_of}
use Rattle.reading.specs.Survey.{Surveyed, no_rows, last_part, surveyed}
use Rattle.reading.proofs.Outcomes.{never}
use Rattle.reading.proofs.Accepted.{read_taken}
use Rattle.reading.proofs.Places.{places}
use Rattle.reading.proofs.Exchanged.{cut-before, last_off}
use Rattle.reading.proofs.Surveys.{Surveys, last-to, last_entry, survey-taken, survey-cut}
use Rattle.punching.specs.Rows.{rows_of}
use Rattle.punching.specs.Answers.{measured_for}
use Rattle.index.specs.Index.{index_room}
use Rattle.images.specs.Images.{blanks, Append, append_for, last_for, overpunched, buffer_shrunk}
use Rattle.images.proofs.Pasting.{pasted-within}
use Rattle.images.proofs.Grown.{Fit, fit-blanks}

-- the tape has blocks, and the last of them is known
pub record Last (f : Format) (t : List ℕ) (x : Surveyed) : Type 0 where
  pub surveys : surveyed f t ≡ taken x
  pub reads : read f t ≡ taken x.entries
  pub n : ℕ
  pub many : suc n ≡ length x.entries
  pub is : x.last ≡ part_of (get_or x.entries n nowhere)
  pub within : (x.last.from < x.last.to) × (x.last.to ≤ length t)

module _ (f : Format) (t : List ℕ) where
  some-last : (x : Surveyed) → surveyed f t ≡ taken x → 0 < length x.entries → Last f t x
  some-last x q l = by x.entries refl
    where
      s : Surveys f t x
      s = survey-taken f t q

      by : (es : List Entry) → x.entries ≡ es → Last f t x
      by [] e = absurd (omega (arith, l, ap length e))
      by (y ∷ es) e =
          let many : suc (length es) ≡ length x.entries = sym (ap length e) in
          let is : x.last ≡ part_of (get_or x.entries (length es) nowhere) = s.ends ∙ ap (last_part (no_rows (s.head.value + 1))) e ∙ last_entry (no_rows (s.head.value + 1)) y es ∙ sym (ap (λ l. part_of (get_or l (length es) nowhere)) e) in
          let w = (places f t x.entries (read_taken f t s.reads).1 nowhere).within (length es) (omega (arith, many)) in
          record { surveys = q; reads = s.reads; n = length es; many = many; is = is; within = rw is w }

  pub last_taken_lem : {x : Surveyed} → last_for f t ≡ taken x → Last f t x
  unfolding last_for
  last_taken_lem {x} q = by (surveyed f t) refl q
    where
      some : (y : Surveyed) → surveyed f t ≡ taken y → (b : Bool) → ltb 0 (length y.entries) ≡ b → cond b (taken y) (refused 15 0) ≡ taken x → Last f t x
      some y r true h e = let z : y ≡ x = cc in subst (Last f t) z (some-last y r (ltb-true 0 _ h))
      some y r false h e = never e

      by : (a : Answer Surveyed) → surveyed f t ≡ a → (a >>= λ y. cond (ltb 0 (length y.entries)) (taken y) (refused 15 0)) ≡ taken x → Last f t x
      by (taken y) r e = some y r (ltb 0 (length y.entries)) refl e
      by (refused k p) r e = never e

-- ---- the image then

-- the image then, where it was the first rows of a buffer
abbrev pub image_shrunk : List ℕ → List ℕ → Surveyed → List ℕ
image_shrunk buffer t x = take (length t) (buffer_shrunk buffer (taken x))

module _ {f : Format} {t : List ℕ} {x : Surveyed} (h : Last f t x) where
  -- it is the old one with the block's rows overpunched
  pub image-less : (buffer : List ℕ) → take (length t) buffer ≡ t → length t ≤ length buffer → image_shrunk buffer t x ≡ overpunched t x.last
  image-less buffer image l =
      let d = x.last.to - x.last.from in
      let size = length-replicate {A = ℕ} d 255 in
      pasted-within buffer x.last.from (replicate d 255) (length t) (omega (arith, size, h.within)) l ∙ ap (λ v. overpunched v x.last) image

  same_rows : overpunched t x.last ≡ take x.last.from t ++ (replicate (x.last.to - x.last.from) 255 ++ drop x.last.to t)
  same_rows =
      let d = x.last.to - x.last.from in
      let end : x.last.from + d ≡ x.last.to = omega (arith, h.within) in
      rw (length-replicate {A = ℕ} d 255, drop-drop d x.last.from t, end)

  -- and all blocks but the last are left
  pub read-less : Facts f → read f (overpunched t x.last) ≡ taken (take h.n x.entries)
  read-less facts = ap (read f) same_rows ∙ rw h.is (last_off facts t h.reads h.n h.many)

  -- ---- the rows of the block taken off have room for it again

  -- as many rows as it had are blank from its first row on
  pub blank-again : (n : ℕ) → n ≤ x.last.to - x.last.from → Fit n (drop x.last.from (overpunched t x.last))
  blank-again n l =
      let d = x.last.to - x.last.from in
      let dels = replicate {A = ℕ} d 255 in
      let rest = drop (length dels) (drop x.last.from t) in
      let long : length (take x.last.from t) ≡ x.last.from = length-take-le x.last.from t (omega (arith, h.within)) in
      let size : length dels ≡ d = length-replicate {A = ℕ} d 255 in
      rw (drop_at (take x.last.from t) (dels ++ rest) x.last.from long)
      (omega (arith, length-append dels rest, size, l), rw (take-append-le n dels rest (omega (arith, size, l))) (first-blank n d))
    where
      first-blank : (n d : ℕ) → Every Blank (take n (replicate d 255))
      first-blank zero d = tt
      first-blank (suc n) zero = tt
      first-blank (suc n) (suc d) = (inr refl, first-blank n d)

module _ {f : Format} (facts : Facts f) {t : List ℕ} {x : Surveyed} (h : Last f t x) where
  -- the blocks that are left, and behind them the first row of the one that was taken off
  pub survey-less : (y : Surveyed) × (surveyed f (overpunched t x.last) ≡ taken y) × (y.entries ≡ take h.n x.entries) × (y.last.to ≡ x.last.from)
  survey-less =
      let c = cut-before f t h.reads h.n (omega (arith, h.many)) in
      let from : (get_or x.entries h.n nowhere).from ≡ x.last.from = sym (ap (λ (p : Part). p.from) h.is) in
      let rest = replicate {A = ℕ} (x.last.to - x.last.from) 255 ++ drop x.last.to t in
      let same : overpunched t x.last ≡ take (get_or x.entries h.n nowhere).from t ++ rest = same_rows h ∙ rw from in
      let ys = take h.n x.entries in
      let e : read f (take (get_or x.entries h.n nowhere).from t ++ rest) ≡ taken ys = sym (ap (read f) same) ∙ read-less h facts in (
        record { entries = ys; last = last_part (no_rows (c.lf + 1)) ys },
        ap (surveyed f) same ∙ survey-cut c rest e,
        refl,
        last-to (no_rows (c.lf + 1)) ys ∙ c.at ∙ from,
      )

  -- a record of no more rows than the block had is punched in its place
  pub fits-again : (capacity firsts numbers n : ℕ) (b : Block) → measured_for f b ≡ taken n → n ≤ x.last.to - x.last.from → index_room (length x.entries) firsts numbers ≡ taken tt
      → (a : Append) × (append_for f (overpunched t x.last) capacity firsts numbers b ≡ taken a) × (a.plan.at ≡ x.last.from) × (a.plan.rows ≡ length (overpunched t x.last))
  unfolding append_for
  fits-again capacity firsts numbers n b m l room =
      let s = survey-less in
      let u = overpunched t x.last in
      let many : suc (length s.0.entries) ≡ length x.entries = ap (λ (l : List Entry). suc (length l)) s.2 ∙ rw (length-take-le h.n x.entries (omega (arith, h.many))) h.many in
      let blank : leb n (blanks (drop s.0.last.to u)) ≡ true = rw s.3 (le-leb n (blanks (drop x.last.from u)) (fit-blanks n (drop x.last.from u) (blank-again h n l))) in (
        record { plan = record { blocks = length s.0.entries; first = s.0.last.to; at = s.0.last.to; size = n; rows = length u }; punched = rows_of f b },
        rw (s.1, m, many, room, blank),
        s.3,
        refl,
      )
