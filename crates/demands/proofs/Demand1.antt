-- Demand 1: everything gets an answer, and what can't be taken is refused by a number and a place of the table.
use Prim.Native.Nat.{ℕ, ◌≤◌}
use native.Mathlib.Omega.{arith}
use mathlib.Core.Path.{◌≡◌, refl, sym}
use mathlib.Core.Logic.{inl, inr, ⊎_elim, ◌↔◌}
use mathlib.Core.Bool.{Bool, true, false, ◌&&◌, ◌||◌, not, false≢true}
use mathlib.Core.List.{List, [], ◌∷◌}
use lib.Dec.{T, eqb, eqb→eq, leb, ltb}
use lib.ListN.{length}
use borrow.Author.Tests.{leb-false, ltb-false}
use Rattle.rows.specs.Answer.{Answer, taken, refused, ◌>>=◌, ◌>>◌, value_or}
use Rattle.rows.specs.Kept.{kept}
use Rattle.rows.specs.Stages.{judged}
use Rattle.rows.specs.Faults.{RowRefusal}
use Rattle.rows.proofs.Outcomes.{Holds, refusal, value, holds-map, holds-bind, holds-cond, of-refused}
use Rattle.rows.proofs.Judged.{clean-passes}
use Rattle.rows.proofs.RowRefusals.{row-refusals, refused-exactly}
use Rattle.speeds.specs.declared.Speed.{Speed}
use Rattle.speeds.specs.Meaning.{speed_for}
use Rattle.speeds.specs.Coding.{code_for}
use Rattle.speeds.proofs.Answers.{Spoken, means, speed-answers, Given, has, code-answers}
use Rattle.shorthand.specs.declared.Format.{Format}
use Rattle.shorthand.specs.Mending.{Spelling}
use Rattle.shorthand.specs.Parse.{parsed}
use Rattle.shorthand.proofs.Mended.{spelling-exactly}
use Rattle.profile.specs.Answers.{agreed}
use Rattle.profile.specs.Relation.{Settled, Unsettled}
use Rattle.profile.proofs.Settling.{settled-exactly, unsettled-exactly, settled-facts}
use Rattle.reading.specs.declared.Block.{Block}
use Rattle.words.specs.declared.Word.{Word}
use Rattle.reading.specs.Record.{start_of, is_empty, words_of}
use Rattle.reading.specs.declared.Entry.{Entry}
use Rattle.reading.specs.Answers.{nth, program_at, read, read_under, entry_numbered, counted, block_numbered, rows_numbered}
use Rattle.punching.specs.Rows.{rows_of}
use Rattle.punching.specs.Fits.{record_fits}
use Rattle.punching.specs.Answers.{head_punched, measured_for, measured, block_written, block_for, block_punched, after}
use Rattle.punching.proofs.Records.{Fault, WordRefusal, record-refused}
use Rattle.punching.proofs.Refusals.{Barred, refused-only}
use Rattle.punching.proofs.Measures.{written-as-punched}
use Rattle.places.proofs.RefusedRows.{refused-rows}
use Rattle.places.proofs.Exactly.{refusal-read}
use Rattle.demands.specs.Tables.{rows, program, Reading, Fetching, unread, past, Needed, by_format, by_alignment, no_word, Measuring, Punching, Heading, Speaking, Coding}

-- an answer, whatever was handed over: something taken, or a refusal of the table
abbrev pub Answered : {A : Type 0} → (ℕ → ℕ → Type 0) → Answer A → Type 0
Answered table a = Holds table (λ x. Unit {0}) a

-- ---- the shorthand and the profile

pub settled-answered : (e : ℕ) (s p : List ℕ) → Holds (Unsettled e s p) (λ f. Settled e s p f) (agreed e s p)
settled-answered e s p = by (agreed e s p) refl
  where
    by : (a : Answer Format) → agreed e s p ≡ a → Holds (Unsettled e s p) (λ f. Settled e s p f) a
    by (taken f) q = value ((settled-exactly e s p f).0 q)
    by (refused n k) q = refusal ((unsettled-exactly e s p n k).0 q)

-- ---- a tape

module _ (e : ℕ) (s p t : List ℕ) where
  pub under-answered : Answered (Reading e s p t) (read_under e s p t)
  unfolding read_under read
  under-answered = by (settled-answered e s p)
    where
      fourth : (f : Format) → Settled e s p f → judged t ≡ taken tt → (a : Answer (List Entry)) → program_at (length t) f (kept t) ≡ a → Answered (Reading e s p t) a
      fourth f h c (taken es) r = value tt
      fourth f h c (refused n k) r =
          refusal (Reading.tape (program (record { format = f; settled = h; passes = clean-passes t c; says = refused-rows f (settled-facts h) (length t) (kept t) n k r })))

      stages : (f : Format) → Settled e s p f → (j : Answer (Unit {0})) → judged t ≡ j → Holds (RowRefusal t) (λ u. Unit {0}) j → Answered (Reading e s p t) (j >> program_at (length t) f (kept t))
      stages f q (taken u) c h = fourth f q c _ refl
      stages f q (refused n k) c (refusal h) = refusal (Reading.tape (rows q h))

      by : {a : Answer Format} → Holds (Unsettled e s p) (λ f. Settled e s p f) a → Answered (Reading e s p t) (a >>= λ f. read f t)
      by (refusal h) = refusal (Reading.settling h)
      by (value {a = f} q) = stages f q (judged t) refl (row-refusals t)

  entry-answered : (n : ℕ) → Answered (Fetching e s p t n) (entry_numbered e s p t n)
  entry-answered n = by (read_under e s p t) refl under-answered
    where
      by : (a : Answer (List Entry)) → read_under e s p t ≡ a → Answered (Reading e s p t) a → Answered (Fetching e s p t n) (a >>= nth n)
      by (taken es) q h =
          holds-cond (ltb n (length es)) (λ l. value tt) (λ l. refusal (past (rw q) (ltb-false n (length es) l)))
      by (refused m k) q (refusal h) = refusal (unread h)

-- ---- a record

word-numbers : (n : ℕ) → WordRefusal n → (16 ≤ n) × (n ≤ 18)
word-numbers n h = by (eqb n 16) (eqb n 17) (eqb n 18) (eqb→eq n 16) (eqb→eq n 17) (eqb→eq n 18) h
  where
    by : (a b c : Bool) → (T a → n ≡ 16) → (T b → n ≡ 17) → (T c → n ≡ 18) → T (a || (b || (c || false))) → (16 ≤ n) × (n ≤ 18)
    by true b c p q r h = let e = p tt in (omega arith, omega arith)
    by false true c p q r h = let e = q tt in (omega arith, omega arith)
    by false false true p q r h = let e = r tt in (omega arith, omega arith)
    by false false false p q r h = absurd h

needed : {f : Format} {b : Block} → b.numbered ≡ false → (f.unnumbered && not b.alignment && not (is_empty (start_of b) (words_of b))) ≡ false → Needed f b
needed {f} {b} n h = by f.unnumbered refl b.alignment refl (words_of b) refl h
  where
    by : (x : Bool) → f.unnumbered ≡ x → (y : Bool) → b.alignment ≡ y → (ws : List Word) → words_of b ≡ ws → (x && not y && not (is_empty (start_of b) ws)) ≡ false → Needed f b
    by false p y q ws r h = by_format p
    by true p true q ws r h = by_alignment q
    by true p false q [] r h = no_word r
    by true p false q (w ∷ ws) r h = absurd (false≢true (sym h))

of-fault : {e : ℕ} {f : Format} {s p : List ℕ} (b : Block) → Settled e s p f → {n k : ℕ} → Fault f b n k → Measuring e s p b n k
of-fault b q (Fault.crowded h) = Measuring.crowded h
of-fault b q (Fault.too_large c n h) = Measuring.too_large q n h
of-fault b q (Fault.missing c n h) = Measuring.missing q n (needed n h)
of-fault b q (Fault.at_word {n = n} c w i h) = let k = word-numbers n w in Measuring.word k.0 k.1 i h

of-barred : {e : ℕ} {f : Format} {s p : List ℕ} (b : Block) (buffer : List ℕ) → Settled e s p f → {n k : ℕ} → Barred f b buffer n k → Punching e s p b buffer n k
of-barred b buffer q (inl h) = Punching.unmeasured (of-fault b q h)
of-barred b buffer q (inr h) = rw (h.0, h.1) (Punching.full q (rw h.1 at h.2))

-- "Every tape image, shorthand and block record", and every profile, "gets an answer, and the work ends. What can't be taken is refused by a number
-- and a place." The functions are total; here, of the answer of each:

pub tape-checked : (t : List ℕ) → Answered (RowRefusal t) (judged t)
tape-checked t = row-refusals t

pub shorthand-answered : (e : ℕ) (s : List ℕ) → Answered (Spelling e s) (parsed e s)
shorthand-answered e s = by (parsed e s) refl
  where
    by : (a : Answer Format) → parsed e s ≡ a → Answered (Spelling e s) a
    by (taken f) q = value tt
    by (refused n k) q = refusal ((spelling-exactly e s n k).0 q)

module _ (e : ℕ) (s p : List ℕ) where
  pub profile-answered : Answered (Unsettled e s p) (agreed e s p)
  profile-answered = holds-map (λ f h. tt) (settled-answered e s p)

  pub count-answered : (t : List ℕ) → Answered (Reading e s p t) (counted e s p t)
  count-answered t = holds-bind (under-answered e s p t) (λ es h. value tt)

  pub block-answered : (t : List ℕ) (n : ℕ) → Answered (Fetching e s p t n) (block_numbered e s p t n)
  block-answered t n = holds-bind (entry-answered e s p t n) (λ x h. value tt)

  pub rows-answered : (t : List ℕ) (n : ℕ) → Answered (Fetching e s p t n) (rows_numbered e s p t n)
  rows-answered t n = holds-bind (entry-answered e s p t n) (λ x h. value tt)

  pub punching-answered : (b : Block) (buffer : List ℕ) → Answered (Punching e s p b buffer) (block_punched e s p b buffer)
  unfolding block_punched
  punching-answered b buffer = by (settled-answered e s p)
    where
      under : (f : Format) → Settled e s p f → (a : Answer (List ℕ)) → block_for f b buffer ≡ a → Answered (Punching e s p b buffer) a
      under f q (taken r) w = value tt
      under f q (refused n k) w = refusal (of-barred b buffer q (refused-only f b buffer n k w))

      by : {a : Answer Format} → Holds (Unsettled e s p) (λ f. Settled e s p f) a → Answered (Punching e s p b buffer) (a >>= λ f. block_for f b buffer)
      by (refusal h) = refusal (Punching.unmeasured (Measuring.settling h))
      by (value {a = f} q) = under f q (block_for f b buffer) refl

  pub measuring-answered : (b : Block) → Answered (Measuring e s p b) (measured e s p b)
  unfolding measured measured_for
  measuring-answered b = by (settled-answered e s p)
    where
      under : (f : Format) → Settled e s p f → (a : Answer (Unit {0})) → record_fits f b ≡ a → Answered (Measuring e s p b) (a >> taken (length (rows_of f b)))
      under f q (taken u) w = value tt
      under f q (refused n k) w = refusal (of-fault b q (record-refused f b n k w))

      by : {a : Answer Format} → Holds (Unsettled e s p) (λ f. Settled e s p f) a → Answered (Measuring e s p b) (a >>= λ f. record_fits f b >> taken (length (rows_of f b)))
      by (refusal h) = refusal (Measuring.settling h)
      by (value {a = f} q) = under f q (record_fits f b) refl

  pub writing-answered : (b : Block) (buffer : List ℕ) → Answered (Punching e s p b buffer) (block_written e s p b buffer)
  writing-answered b buffer = rw (written-as-punched e s p b buffer) (punching-answered b buffer)

pub head-answered : (buffer : List ℕ) → Answered (Heading buffer) (head_punched buffer)
head-answered buffer = holds-cond (leb 2 (length buffer)) (λ l. value tt) (λ l. refusal (Heading.full (leb-false 2 (length buffer) l)))

pub speed-answered : (k c : ℕ) → Answered (Speaking k c) (speed_for k c)
speed-answered k c = by (speed-answers k c)
  where
    by : Spoken k c → Answered (Speaking k c) (speed_for k c)
    by (means s q) = rw q (value tt)
    by (Spoken.second_zero three five short q) = rw q (refusal (Speaking.second_zero three five short))
    by (Spoken.wrong_length nay q) = rw q (refusal (Speaking.digits nay))

pub code-answered : (k : ℕ) (s : Speed) → Answered (Coding k) (code_for k s)
code-answered k s = by (code-answers k s)
  where
    by : Given k s → Answered (Coding k) (code_for k s)
    by (has c q) = rw q (value tt)
    by (Given.beyond two five q) = rw q (refusal (Coding.beyond two five))
    by (Given.wrong_length nay q) = rw q (refusal (Coding.digits nay))

-- exactly: the table's refusal is the answer, and no other is
table-refused : {e : ℕ} {s p t : List ℕ} {n k : ℕ} → Reading e s p t n k → counted e s p t ≡ refused n k
unfolding read_under read
table-refused {e} {s} {p} {t} {n} {k} (Reading.settling h) = rw ((unsettled-exactly e s p n k).1 h)
table-refused {e} {s} {p} {t} {n} {k} (Reading.tape (rows {f = f} q r)) = rw ((settled-exactly e s p f).1 q, (refused-exactly t n k).1 r)
table-refused {e} {s} {p} {t} {n} {k} (Reading.tape (program r)) = rw (refusal-read e s p t n k r)

pub reading-exactly : (e : ℕ) (s p t : List ℕ) (n k : ℕ) → (counted e s p t ≡ refused n k) ↔ Reading e s p t n k
reading-exactly e s p t n k = (λ q. of-refused (count-answered e s p t) q, table-refused)

-- "a refused punching leaves the buffer untouched": what a refusal leaves of each thing that is handed back

pub buffer-untouched : (buffer : List ℕ) (a : Answer (List ℕ)) (n p : ℕ) → a ≡ refused n p → after buffer a ≡ buffer
buffer-untouched buffer a n p q = rw q

pub nothing-handed-back : {A : Type 0} (empty : A) (a : Answer A) (n p : ℕ) → a ≡ refused n p → value_or empty a ≡ empty
nothing-handed-back empty a n p q = rw q
