-- What is read of a profile, alone and with the detailed shorthand, is what is answered for it.
use Prim.Native.Nat.{ℕ, suc}
use native.Mathlib.Omega.{arith}
use mathlib.Core.Path.{◌≡◌, refl, sym, ap, ◌∙◌}
use mathlib.Core.Bool.{Bool, true, false, cond}
use lib.Dec.{eqb}
use borrow.Author.Tests.{ne_eqb}
use mathlib.Core.List.{List, [], ◌∷◌}
use lib.ListN.{length, take}
use lib.Seq.{get_or-take}
use Rattle.rows.specs.declared.refusals.Refusal.{Refusal}
use Rattle.rows.specs.Answer.{taken, refused, refusal, ◌>>=◌}
use Rattle.shorthand.specs.declared.Edition.{Edition}
use Rattle.shorthand.specs.declared.Edition.TheVariants.{Iso1057, Iso2539}
use Rattle.shorthand.specs.declared.Format.{Format}
use Rattle.shorthand.specs.Parse.{edition_by}
use Rattle.profile.specs.declared.General.{General}
use Rattle.profile.specs.Form.{form_of}
use Rattle.profile.specs.Agreement.{said_in}
use Rattle.profile.specs.Answers.{filled, held_to, profiled, edition_of}

-- what a form without the last place leaves out, it does not say
said_of : (e : Edition) (bs : List ℕ) → said_in e (take (length (form_of e)) bs) ≡ said_in e bs
said_of Iso1057 bs =
    rw (get_or-take 9 bs 3 0 (omega arith), get_or-take 9 bs 5 48 (omega arith), get_or-take 9 bs 6 48 (omega arith), get_or-take 9 bs 7 48 (omega arith))
said_of Iso2539 bs =
    rw (get_or-take 10 bs 1 0 (omega arith), get_or-take 10 bs 3 0 (omega arith), get_or-take 10 bs 5 48 (omega arith), get_or-take 10 bs 6 48 (omega arith), get_or-take 10 bs 7 48 (omega arith), get_or-take 10 bs 9 0 (omega arith))

by-length : (e : Edition) (f : Format) (p : List ℕ) → profiled e f p ≡ cond (eqb (length p) 0) (taken f) (filled (form_of e) 0 p >>= λ bs. held_to f (said_in e bs))
unfolding profiled
by-length e f [] = refl
by-length e f (b ∷ p) = rw (ne_eqb (suc (length p)) 0 (λ x. omega arith))

module _ (e : Edition) (f : Format) (p : List ℕ) where
  pub read_none : eqb (length p) 0 ≡ true → taken f ≡ profiled e f p
  read_none h = sym (by-length e f p ∙ rw h)

  module _ (h : eqb (length p) 0 ≡ false) where
    pub read-refused : (r : Refusal) → refusal r ≡ filled (form_of e) 0 p → refusal r ≡ profiled e f p
    read-refused r q = sym (by-length e f p ∙ rw (h, ← q))

    pub read-held : (bs : List ℕ) → taken (take (length (form_of e)) bs) ≡ filled (form_of e) 0 p → (g : General) → g ≡ said_in e bs → profiled e f p ≡ held_to f g
    read-held bs q g s = by-length e f p ∙ rw (h, ← q) (ap (held_to f) (said_of e bs ∙ sym s))

-- ---- with the detailed shorthand

-- the edition that a number asks for is the one that it has
pub asked : (n : ℕ) (e : Edition) → taken e ≡ edition_by n → edition_of n ≡ e
asked n e = by (eqb n 1057) (eqb n 2539)
  where
    by : (a b : Bool) → taken e ≡ cond a (taken Iso1057) (cond b (taken Iso2539) (refused 1 0)) → cond a Iso1057 Iso2539 ≡ e
    by true b q = cc
    by false true q = cc
    by false false q = let z : ◌≡◌ {A = ℕ} 0 1 = cc in absurd (omega arith)
