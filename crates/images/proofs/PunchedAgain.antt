-- A block that was appended, taken off and punched again fits where its rows stood.
use Prim.Native.Nat.{ℕ, ◌+◌, ◌-◌, ◌≤◌}
use mathlib.Core.Path.{◌≡◌, sym, ap, ◌∙◌}
use mathlib.Core.Logic.{⊎_elim}
use mathlib.Core.List.{List, [], ◌∷◌, ◌++◌}
use native.Mathlib.Omega.{arith}
use lib.ListN.{length, get_or, take, length-append}
use lib.Seq.{get_or_at}
use borrow.Author.Tests.{le-leb}
use Rattle.rows.specs.Answer.{taken}
use Rattle.shorthand.specs.declared.Format.{Format}
use Rattle.shorthand.specs.Facts.{Facts}
use Rattle.reading.specs.declared.Block.{Block}
use Rattle.reading.specs.declared.Part.{Part}
use Rattle.reading.specs.declared.Entry.{Entry}
use Rattle.reading.specs.Answers.{nowhere}
use Rattle.reading.specs.Front.{part_of}
use Rattle.reading.specs.Survey.{Surveyed}
use Rattle.reading.proofs.Surveys.{cut-last}
use Rattle.punching.specs.Rows.{rows_of}
use Rattle.punching.specs.Answers.{measured_for}
use Rattle.index.specs.Index.{index_room}
use Rattle.images.specs.Images.{Append, append_for, last_for, overpunched}
use Rattle.images.proofs.Grown.{sited-by, Appends, new_entry, image_grown, read-grown}
use Rattle.images.proofs.Shrunk.{last_taken_lem, fits-again}

module _ {f : Format} (facts : Facts f) {t : List ℕ} (buffer : List ℕ) (image : take (length t) buffer ≡ t) (within : length t ≤ length buffer) {firsts numbers : ℕ} {b : Block} {a : Append}
    (h : Appends f t (length buffer) firsts numbers b a) where
  -- its rows begin just after the last end, or behind that
  not-before : a.plan.first ≤ a.plan.at
  not-before =
      ⊎_elim (λ o. omega (arith, h.first, h.at, o.at)) (λ o. omega (arith, h.first, h.at, o.1.at, (cut-last f t h.surveys).within))
      (sited-by t h.survey.last.to (length buffer) (length (rows_of f b)) h.sits)

  measured : measured_for f b ≡ taken (length (rows_of f b))
  unfolding measured_for
  measured = rw h.fits

  pub punched-again : {x : Surveyed} → last_for f (image_grown buffer a) ≡ taken x → (capacity : ℕ)
      → (n : Append) × (append_for f (overpunched (image_grown buffer a) x.last) capacity firsts numbers b ≡ taken n) × (n.plan.at ≡ a.plan.first)
      × (n.plan.rows ≡ length (overpunched (image_grown buffer a) x.last))
  punched-again {x} q capacity =
      let l = last_taken_lem f (image_grown buffer a) q in
      let es = h.survey.entries in
      let same : x.entries ≡ es ++ (new_entry b a ∷ []) = (let z = sym l.reads ∙ read-grown facts buffer image within h in cc) in
      let many : length x.entries ≡ length es + 1 = ap length same ∙ length-append es (new_entry b a ∷ []) in
      let last : x.last ≡ part_of (new_entry b a) =
      l.is ∙ ap (λ (ys : List Entry). part_of (get_or ys l.n nowhere)) same ∙ ap part_of (get_or_at es (new_entry b a) [] nowhere l.n (omega (arith, l.many, many))) in
      let size : length a.punched ≡ length (rows_of f b) = ap length h.rows in
      let from : x.last.from ≡ a.plan.first = ap (λ (p : Part). p.from) last in
      let to : x.last.to ≡ a.plan.at + length a.punched = ap (λ (p : Part). p.to) last in
      let long : length (rows_of f b) ≤ x.last.to - x.last.from = omega (arith, from, to, size, not-before) in
      let room : index_room (length x.entries) firsts numbers ≡ taken tt =
      rw (le-leb (length x.entries) firsts (omega (arith, many, h.roomy.0)), le-leb (length x.entries) numbers (omega (arith, many, h.roomy.1))) in
      let r = fits-again facts l capacity firsts numbers (length (rows_of f b)) b measured long room in
      (r.0, r.1, r.2 ∙ from, r.3)
