-- A walk over all blocks: those passed so far stand before those to come.
use mathlib.Core.Path.{◌≡◌, refl, sym, ap, ◌∙◌}
use mathlib.Core.Bool.{Bool, true, false, cond}
use mathlib.Core.List.{List, [], ◌∷◌, ◌++◌, append_assoc}
use Prim.Native.Nat.{ℕ, ◌+◌, ◌≤◌, ◌<◌}
use native.Mathlib.Numerals.{add-one}
use native.Mathlib.Decide.{dec_lt}
use native.Mathlib.Omega.{arith}
use lib.Dec.{eqb}
use lib.ListN.{length, get_or, length-append, get_or-append, get_or-eq_default}
use lib.Seq.{get_or_at}
use borrow.Author.Tests.{eqb-true, eqb-false}
use Rattle.rows.specs.Answer.{Answer, taken, refused, ◌>>=◌, ◌>>◌}
use Rattle.rows.specs.Stages.{judged}
use Rattle.rows.specs.Kept.{KeptRow, kept}
use Rattle.shorthand.specs.declared.Format.{Format}
use Rattle.words.specs.Figures.{Behind, taking}
use Rattle.reading.specs.declared.Entry.{Entry}
use Rattle.reading.specs.Parse.{BlockRead, block_at, blocks_at}
use Rattle.parts.specs.Ends.{head_at, entered}
use Rattle.reading.specs.Answers.{nowhere, program_at, read}
use Rattle.reading.specs.Front.{Rising}
use Rattle.reading.specs.Survey.{surveyed_from, surveyed}
use Rattle.reading.proofs.ReadBlocks.{last_some}
use Rattle.reading.proofs.Sound.{block-rows, head_rows}
use Rattle.reading.proofs.Places.{kept-rising, last-rising}

-- ---- one block

-- a block leaves fewer rows, and its LF stands within the tape
pub record Advances (n i : ℕ) (rs : List KeptRow) (b : Behind BlockRead) : Type 0 where
  pub from : i ≤ b.value.lf
  pub within : b.value.lf < n
  pub rising : Rising n (b.value.lf + 1) b.rest
  pub fewer : length b.rest < length rs

pub advances : (f : Format) (n i : ℕ) (rs : List KeptRow) (b : Behind BlockRead) → Rising n i rs → block_at n f rs ≡ taken b → Advances n i rs b
advances f n i rs b h e =
    let r = block-rows f n rs b e in
    let k = last-rising b.rest r.stands.1 (rw r.split at h) in
    let some = last_some r.stands.1 in
    record {
      from = k.0;
      within = k.1;
      rising = rw (add-one b.value.lf) k.2;
      fewer = rw (r.split, length-append) (omega arith);
    }

-- ---- all blocks

-- entries before those that are still to come
abbrev pub before : List Entry → Answer (List Entry) → Answer (List Entry)
before es a = a >>= λ x. taken (es ++ x)

pub before_none : (a : Answer (List Entry)) → a ≡ before [] a
before_none (taken x) = refl
before_none (refused n p) = refl

pub before_more : (es : List Entry) (x : Entry) (a : Answer (List Entry)) → before es (a >>= λ y. taken (x ∷ y)) ≡ before (es ++ (x ∷ [])) a
before_more es x (taken y) = rw append_assoc
before_more es x (refused n p) = refl

-- ---- the block that is asked for

-- what is asked of entry n, once one more is done
pub nth-more : {X : Type 0} (ask : Entry → X) (done : List Entry) (x : Entry) (n : ℕ) (held : X) → held ≡ ask (get_or done n nowhere)
    → cond (eqb (length done) n) (ask x) held ≡ ask (get_or (done ++ (x ∷ [])) n nowhere)
nth-more {X} ask done x n held e = go (eqb (length done) n) refl
  where
    same : (length done ≡ n → ⊥) → get_or done n nowhere ≡ get_or (done ++ (x ∷ [])) n nowhere
    same other =
        elim (dec_lt n (length done)) [
          | yes l ↦ sym (get_or-append done (x ∷ []) nowhere n l)
          | no l ↦
              get_or-eq_default done nowhere {n = n} (omega arith)
              ∙ sym (get_or-eq_default (done ++ (x ∷ [])) nowhere {n = n} (rw length-append (omega arith)))
        ]

    go : (b : Bool) → eqb (length done) n ≡ b → cond b (ask x) held ≡ ask (get_or (done ++ (x ∷ [])) n nowhere)
    go true q = ap ask (sym (get_or_at done x [] nowhere n (eqb-true _ _ q)))
    go false q = e ∙ ap ask (same (eqb-false _ _ q))

-- ---- the head before the blocks

-- the head's LF stands within the tape, and the rows behind it rise from there
pub head-advances : (t : List ℕ) (lf : ℕ) (rest : List KeptRow) → head_at (length t) (kept t) ≡ taking lf rest → (lf < length t) × Rising (length t) (lf + 1) rest
head-advances t lf rest e =
    let r = head_rows (length t) (kept t) _ e in
    let rising : Rising (length t) 0 (kept t) = kept-rising false 0 t (omega arith) in
    let k = last-rising rest r.stands.to (rw r.split at rising) in
    (k.1, rw (add-one lf) k.2)

module _ (len : ℕ) (f : Format) (rs : List KeptRow) where
  pub program-blocks : (lf : ℕ) (rest : List KeptRow) → head_at len rs ≡ taking lf rest → program_at len f rs ≡ blocks_at (length rest) len f (lf + 1) rest
  unfolding program_at
  program-blocks lf rest e = rw e

-- ---- the first three stages before the fourth

module _ (f : Format) (t : List ℕ) where
  pub read-clean : judged t ≡ taken tt → read f t ≡ program_at (length t) f (kept t)
  unfolding read
  read-clean e = rw e

-- ---- the blocks behind a tape that was entered

module _ (t : List ℕ) where
  pub entered-head : (h : Behind ℕ) → entered t ≡ taken h → head_at (length t) (kept t) ≡ taken h
  unfolding entered
  entered-head h e = by (judged t) refl
    where
      by : (a : Answer (Unit {0})) → judged t ≡ a → head_at (length t) (kept t) ≡ taken h
      by (taken x) q = let r = rw q at e in r
      by (refused n p) q = let r : refused n p ≡ taken h = rw q at e in let z : ◌≡◌ {A = ℕ} 0 1 = cc in absurd (omega (arith, z))

  pub enters-at : (lf : ℕ) (rest : List KeptRow) → entered t ≡ taking lf rest → (lf < length t) × Rising (length t) (lf + 1) rest
  enters-at lf rest e = head-advances t lf rest (entered-head _ e)

  module _ (f : Format) where
    behind-stages : (a : Answer (Unit {0})) (h : Answer (Behind ℕ)) (k : Behind ℕ → Answer (List Entry)) → (a >> (h >>= k)) ≡ ((a >> h) >>= k)
    behind-stages (taken x) h k = refl
    behind-stages (refused n p) h k = refl

    read-entered : read f t ≡ (entered t >>= λ h. blocks_at (length h.rest) (length t) f (h.value + 1) h.rest)
    unfolding read program_at entered
    read-entered = behind-stages (judged t) (head_at (length t) (kept t)) (λ h. blocks_at (length h.rest) (length t) f (h.value + 1) h.rest)

    pub not_entered : (n p : ℕ) → entered t ≡ refused n p → read f t ≡ refused n p
    not_entered n p e = read-entered ∙ rw e

    pub enters : (lf : ℕ) (rest : List KeptRow) → entered t ≡ taking lf rest → read f t ≡ blocks_at (length rest) (length t) f (lf + 1) rest
    enters lf rest e = read-entered ∙ rw e

    -- and so is what a survey holds
    pub survey-refused : (n p : ℕ) → entered t ≡ refused n p → surveyed f t ≡ refused n p
    unfolding surveyed
    survey-refused n p e = rw e

    pub survey-enters : (lf : ℕ) (rest : List KeptRow) → entered t ≡ taking lf rest → surveyed f t ≡ surveyed_from (lf + 1) (blocks_at (length rest) (length t) f (lf + 1) rest)
    unfolding surveyed
    survey-enters lf rest e = rw (e, enters lf rest e)
