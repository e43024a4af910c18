-- What a survey of an accepted tape holds: its blocks, and where the last of them ends.
use Prim.Native.Nat.{ℕ, ◌+◌}
use mathlib.Core.Path.{◌≡◌, refl, sym, ap, ◌∙◌, subst}
use mathlib.Core.Bool.{false}
use mathlib.Core.List.{List, [], ◌∷◌, ◌++◌, append_assoc}
use lib.ListN.{length, get_or, take}
use lib.Seq.{take-length}
use Rattle.rows.specs.Answer.{Answer, taken, refused, ◌>>=◌}
use Rattle.rows.specs.Kept.{KeptRow, kept_from, kept}
use Rattle.rows.proofs.TapesJoined.{kept_append}
use Rattle.shorthand.specs.declared.Format.{Format}
use Rattle.words.specs.Figures.{Behind, taking}
use Rattle.parts.specs.Ends.{entered}
use Rattle.reading.specs.declared.Part.{Part}
use Rattle.reading.specs.declared.Entry.{Entry}
use Rattle.reading.specs.Answers.{nowhere, read}
use Rattle.reading.specs.Front.{part_of}
use Rattle.reading.specs.Survey.{Surveyed, no_rows, last_part, surveyed_from, surveyed}
use Rattle.reading.proofs.Outcomes.{never}
use Rattle.reading.proofs.Programs.{from-taken}
use Rattle.reading.proofs.BlockWalk.{not_entered}
use Rattle.reading.proofs.Accepted.{read_taken, taken-enters}
use Rattle.reading.proofs.EntryRows.{head-placed, behind_of}
use Rattle.reading.proofs.Exchanged.{Cut, cut-behind}

-- where the last block ends the rows behind all of them begin
pub last-to : (p : Part) (es : List Entry) → (last_part p es).to ≡ behind_of p.to es
last-to p [] = refl
last-to p (x ∷ es) = last-to (part_of x) es

-- the last of some blocks
pub last_entry : (p : Part) (x : Entry) (es : List Entry) → last_part p (x ∷ es) ≡ part_of (get_or (x ∷ es) (length es) nowhere)
last_entry p x [] = refl
last_entry p x (y ∷ es) = last_entry (part_of x) y es

-- the head that was entered, and the blocks behind it
pub record Surveys (f : Format) (t : List ℕ) (x : Surveyed) : Type 0 where
  pub head : Behind ℕ
  pub enters : entered t ≡ taken head
  pub reads : read f t ≡ taken x.entries
  pub ends : x.last ≡ last_part (no_rows (head.value + 1)) x.entries

module _ (f : Format) (t : List ℕ) where
  pub survey-taken : {x : Surveyed} → surveyed f t ≡ taken x → Surveys f t x
  unfolding surveyed
  survey-taken {x} q =
      let h = from-taken (entered t) (λ h. surveyed_from (h.value + 1) (read f t)) x q in
      let r = from-taken (read f t) (λ es. taken (record { entries = es; last = last_part (no_rows (h.0.value + 1)) es })) x h.2 in
      let same : record { entries = r.0; last = last_part (no_rows (h.0.value + 1)) r.0 } ≡ x = let z = r.2 in cc in
      subst (Surveys f t) same (record { head = h.0; enters = h.1; reads = r.1; ends = refl })

  -- every accepted tape has one
  pub survey-read : {es : List Entry} → read f t ≡ taken es → (x : Surveyed) × (surveyed f t ≡ taken x) × (x.entries ≡ es)
  unfolding surveyed
  survey-read {es} r = let h = taken-enters f t r in (record { entries = es; last = last_part (no_rows (h.0.value + 1)) es }, rw (h.1, r), refl)

  -- a tape that is not accepted is refused
  pub survey-unread : (n p : ℕ) → read f t ≡ refused n p → surveyed f t ≡ refused n p
  unfolding surveyed
  survey-unread n p e = by (entered t) refl
    where
      by : (a : Answer (Behind ℕ)) → entered t ≡ a → (a >>= λ h. surveyed_from (h.value + 1) (read f t)) ≡ refused n p
      by (taken h) q = rw e
      by (refused m k) q = let z : refused m k ≡ refused n p = sym (not_entered t f m k q) ∙ e in let i : m ≡ n = cc in let j : k ≡ p = cc in rw (i, j)

  -- and by nothing else
  pub read-unsurveyed : (n p : ℕ) → surveyed f t ≡ refused n p → read f t ≡ refused n p
  read-unsurveyed n p q = by (read f t) refl
    where
      by : (a : Answer (List Entry)) → read f t ≡ a → read f t ≡ refused n p
      by (taken es) r = never (sym q ∙ (survey-read r).1)
      by (refused m k) r = r ∙ (let z : refused m k ≡ refused n p = sym (survey-unread m k r) ∙ q in let i : m ≡ n = cc in let j : k ≡ p = cc in rw (i, j))

  -- the tape cut behind its last block
  pub cut-last : {x : Surveyed} → surveyed f t ≡ taken x → Cut f t x.entries (length x.entries) x.last.to
  cut-last {x} q =
      let s = survey-taken q in
      let at : behind_of (s.head.value + 1) (take (length x.entries) x.entries) ≡ x.last.to =
      ap (behind_of (s.head.value + 1)) (take-length x.entries) ∙ sym (ap (λ (p : Part). p.to) s.ends ∙ last-to (no_rows (s.head.value + 1)) x.entries) in
      subst (Cut f t x.entries (length x.entries)) at (cut-behind f t s.reads s.head s.enters (length x.entries))

-- ---- a tape cut and gone on otherwise

module _ {f : Format} {t : List ℕ} {es : List Entry} {n i : ℕ} (c : Cut f t es n i) where
  -- it has the head that it had
  same_head : (u : List ℕ) {ys : List Entry} → read f (take i t ++ u) ≡ taken ys → (rest : List KeptRow) × (entered (take i t ++ u) ≡ taking c.lf rest)
  unfolding entered
  same_head u e =
      let x = take i t in
      let rows : kept (x ++ u) ≡ c.head ++ (c.rows ++ kept_from false (0 + length x) u) =
      kept_append c.before.formed 0 u ∙ rw c.keeps (append_assoc c.head c.rows (kept_from false (0 + length x) u)) in
      (c.rows ++ kept_from false (0 + length x) u, rw ((read_taken f (x ++ u) e).0, rows) (head-placed c.heads (length (x ++ u)) (c.rows ++ kept_from false (0 + length x) u)))

  pub survey-cut : (u : List ℕ) {ys : List Entry} → read f (take i t ++ u) ≡ taken ys
      → surveyed f (take i t ++ u) ≡ taken (record { entries = ys; last = last_part (no_rows (c.lf + 1)) ys })
  unfolding surveyed
  survey-cut u e = rw ((same_head u e).1, e)
