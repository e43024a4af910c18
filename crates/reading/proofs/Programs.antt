-- The bridge for whole tapes: a tape is accepted exactly when it is a tape of some program, and then its blocks are that program's.
use mathlib.Core.Path.{◌≡◌, refl, sym, ap, ◌∙◌}
use mathlib.Core.Logic.{◌↔◌}
use mathlib.Core.List.{List, map}
use Prim.Native.Nat.{ℕ}
use native.Mathlib.Omega.{arith}
use lib.ListN.{length}
use Rattle.rows.specs.Answer.{Answer, taken, refused, ◌>>=◌, ◌>>◌}
use Rattle.rows.specs.Stages.{judged}
use Rattle.rows.specs.Kept.{kept}
use Rattle.rows.proofs.Judged.{passes-clean, clean-passes}
use Rattle.profile.specs.Answers.{agreed}
use Rattle.profile.proofs.Settling.{settled-exactly, settled-facts}
use Rattle.reading.specs.declared.Block.{Block}
use Rattle.reading.specs.Relation.{TapeOf}
use Rattle.reading.specs.declared.Entry.{Entry}
use Rattle.reading.specs.Answers.{program_at, read, read_under}
use Rattle.reading.proofs.Complete.{complete}
use Rattle.reading.proofs.Sound.{sound}

-- the blocks of some entries
abbrev pub blocks_of : List Entry → List Block
blocks_of es = map (λ x. x.block) es

-- what was taken came from something taken
pub from-taken : {A B : Type 0} (a : Answer A) (f : A → Answer B) (b : B) → (a >>= f) ≡ taken b → (x : A) × (a ≡ taken x) × (f x ≡ taken b)
from-taken (taken x) f b e = (x, refl, e)
from-taken (refused n p) f b e = let z : ◌≡◌ {A = ℕ} 0 1 = cc in absurd (omega arith)

pub both-taken : {B : Type 0} (a : Answer (Unit {0})) (b : Answer B) (x : B) → (a >> b) ≡ taken x → (a ≡ taken tt) × (b ≡ taken x)
both-taken (taken u) b x e = (refl, e)
both-taken (refused n p) b x e = let z : ◌≡◌ {A = ℕ} 0 1 = cc in absurd (omega arith)

module _ (e : ℕ) (s p t : List ℕ) where
  -- complete: a program that stands as the tape is the answer
  pub tape-read : (bs : List Block) → TapeOf e s p bs t → (es : List Entry) × (read_under e s p t ≡ taken es) × (blocks_of es ≡ bs)
  unfolding read_under read
  tape-read bs h =
      let a = (settled-exactly e s p h.format).1 h.settled in
      let c = complete h.format (settled-facts h.settled) bs (length t) (kept t) h.stands in
      (c.0, rw (a, passes-clean t h.passes) c.1, c.2)

  -- sound: what is answered stands as the tape
  pub read-tape : (es : List Entry) → read_under e s p t ≡ taken es → TapeOf e s p (blocks_of es) t
  unfolding read_under read
  read-tape es q =
      let a = from-taken (agreed e s p) (λ f. read f t) es q in
      let j = both-taken (judged t) (program_at (length t) a.0 (kept t)) es a.2 in
      record {
        format = a.0;
        settled = (settled-exactly e s p a.0).0 a.1;
        passes = clean-passes t j.0;
        stands = sound a.0 (length t) (kept t) es j.1;
      }

  -- two programs never share a tape
  pub one-program : (bs cs : List Block) → TapeOf e s p bs t → TapeOf e s p cs t → bs ≡ cs
  one-program bs cs g h =
      let a = tape-read bs g in
      let b = tape-read cs h in
      let same : a.0 ≡ b.0 = cc (a.1, b.1) in
      sym a.2 ∙ ap blocks_of same ∙ b.2

  -- accepted exactly when it is a tape of some program
  pub accepted : ((es : List Entry) × (read_under e s p t ≡ taken es)) ↔ ((bs : List Block) × TapeOf e s p bs t)
  accepted = (λ r. (blocks_of r.0, read-tape r.0 r.1), λ h. let a = tape-read h.0 h.1 in (a.0, a.1))
