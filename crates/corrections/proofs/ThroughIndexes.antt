-- Given the indexes of the two tapes, the corrected listing by their numbers is that of the tapes.
use Prim.Native.Nat.{ℕ}
use mathlib.Core.Path.{◌≡◌, sym, ◌∙◌}
use mathlib.Core.List.{List}
use lib.ListN.{length, take}
use Rattle.rows.specs.Answer.{taken}
use Rattle.profile.specs.Answers.{agreed}
use Rattle.reading.specs.declared.Entry.{Entry}
use Rattle.reading.specs.Answers.{read, read_under}
use Rattle.reading.proofs.Programs.{from-taken}
use Rattle.index.specs.Index.{Indexes}
use Rattle.corrections.specs.Answers.{entry_corrected, entry_indexed}

pub as-indexed : (e : ℕ) (s p c m : List ℕ) {cs ms : List Entry} → read_under e s p c ≡ taken cs → read_under e s p m ≡ taken ms
    → {cf cn mf mn : List ℕ} → Indexes cs cf cn → Indexes ms mf mn → (n : ℕ) → entry_indexed (take (length cs) cn) (take (length ms) mn) n ≡ entry_corrected e s p c m n
unfolding read_under entry_corrected
as-indexed e s p c m {cs} {ms} hc hm ci mi n =
    let a = from-taken (agreed e s p) (λ f. read f c) cs hc in
    let b = from-taken (agreed e s p) (λ f. read f m) ms hm in
    let same : b.0 ≡ a.0 = (let z = sym b.1 ∙ a.1 in cc) in
    rw (ci.marks, mi.marks, a.1, a.2, rw same at b.2)
