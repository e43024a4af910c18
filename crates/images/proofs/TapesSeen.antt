-- What a survey tells of a tape: it is refused where the tape is, and of any other its blocks and the last of them stand within the tape.
use Prim.Native.Nat.{ℕ, ◌+◌, ◌≤◌}
use mathlib.Core.Path.{◌≡◌, sym, ap, ◌∙◌}
use mathlib.Core.List.{List, [], ◌∷◌}
use native.Mathlib.Nat.{le_refl}
use native.Mathlib.Omega.{arith}
use lib.ListN.{length}
use Rattle.rows.specs.Answer.{Answer, taken, refused}
use Rattle.rows.specs.Stages.{limit}
use Rattle.rows.proofs.Judged.{clean-passes}
use Rattle.shorthand.specs.declared.Format.{Format}
use Rattle.reading.specs.declared.Part.{Part}
use Rattle.reading.specs.declared.Entry.{Entry}
use Rattle.reading.specs.Answers.{nowhere, read, size_of}
use Rattle.reading.specs.Survey.{no_rows, last_part, Surveyed, surveyed, last_in}
use Rattle.reading.proofs.Programs.{from-taken}
use Rattle.reading.proofs.Surveys.{last_entry, survey-taken, survey-read}
use Rattle.reading.proofs.Places.{places}
use Rattle.reading.proofs.BlockWalk.{enters-at}
use Rattle.reading.proofs.Accepted.{read_taken, few-blocks}

-- part of a tape
abbrev Within : List ℕ → Part → Type 0
Within t p = (p.from ≤ p.to) × (p.to ≤ length t)

-- what is known of the blocks of a tape
pub record Seen (t : List ℕ) (x : Surveyed) : Type 0 where
  pub few : length x.entries ≤ length t
  pub short : length t ≤ limit
  pub last : Within t x.last

-- a survey of a tape, by how many blocks it counted and where it found the last
pub record SurveyTold (f : Format) (t : List ℕ) (n : ℕ) (p : Part) : Type 0 where
  pub survey : Surveyed
  pub surveys : surveyed f t ≡ taken survey
  pub seen : Seen t survey
  pub many : n ≡ length survey.entries
  pub ended : p ≡ survey.last

module _ (f : Format) (t : List ℕ) where
  last_within : (es : List Entry) → read f t ≡ taken es → (i : ℕ) → i ≤ length t → Within t (last_part (no_rows i) es)
  last_within [] e i h = (le_refl i, h)
  last_within (x ∷ es) e i h =
      let w = (places f t (x ∷ es) (read_taken f t e).1 nowhere).within (length es) (le_refl _) in rw (last_entry (no_rows i) x es) (omega (arith, w.0), w.1)

  pub seen : (x : Surveyed) → surveyed f t ≡ taken x → Seen t x
  seen x e =
      let s = survey-taken f t e in
      let begins = (enters-at t s.head.value s.head.rest s.enters).0 in
      record {
        few = few-blocks f t s.reads;
        short = (clean-passes t (read_taken f t s.reads).0).short;
        last = rw s.ends (last_within x.entries s.reads (s.head.value + 1) (omega (arith, begins)));
      }

  -- of a tape that is read n blocks are counted, and the last is told
  pub survey-told : (n : ℕ) (p : Part) → taken n ≡ size_of (read f t) → taken p ≡ last_in (surveyed f t) → SurveyTold f t n p
  survey-told n p e q =
      let r = from-taken (read f t) (λ es. taken (length es)) n (sym e) in
      let h = survey-read f t r.1 in
      let size : length r.0 ≡ n = let z = r.2 in cc in
      let end : p ≡ h.0.last = let z = q ∙ ap last_in h.1 in cc in
      record { survey = h.0; surveys = h.1; seen = seen h.0 h.1; many = sym (ap length h.2 ∙ size); ended = end }

  -- a tape that is refused is not surveyed
  pub survey-refused : (n p : ℕ) → refused n p ≡ last_in (surveyed f t) → surveyed f t ≡ refused n p
  survey-refused n p e = by (surveyed f t) e
    where
      by : (a : Answer Surveyed) → refused n p ≡ last_in a → a ≡ refused n p
      by (taken x) q = let z : ◌≡◌ {A = ℕ} 0 1 = cc in absurd (omega (arith, z))
      by (refused m k) q = let i : m ≡ n = cc in let j : k ≡ p = cc in rw (i, j)
