-- Block n through the index of an accepted tape is what the walk over the whole tape finds, 15 and its place included. It hangs on its own rows alone, and damage there is refused.
use Prim.Native.Nat.{ℕ, suc, ◌+◌, ◌-◌, ◌≤◌, ◌<◌}
use mathlib.Core.Path.{◌≡◌, refl, sym, ap, ◌∙◌, subst}
use mathlib.Core.Bool.{Bool, true, false, cond}
use mathlib.Core.List.{List, [], append-nil}
use native.Mathlib.Numerals.{add-one}
use native.Mathlib.Omega.{arith}
use lib.Dec.{ltb}
use lib.ListN.{length, get_or, take, drop, length-map, length-drop, length-take, get_or-map}
use lib.Seq.{length-take-le, take_all, take-length, get_or-take, get_or-drop}
use borrow.Author.Tests.{ltb-true, ltb-false}
use Rattle.rows.specs.Answer.{taken, refused, ◌>>◌}
use Rattle.rows.specs.Passes.{Passes, Changed, Damaged, First}
use Rattle.rows.specs.Stages.{limit, in_limit}
use Rattle.rows.proofs.Judged.{passes-clean, clean-passes}
use Rattle.rows.proofs.Parity.{damaged}
use Rattle.shorthand.specs.declared.Format.{Format}
use Rattle.shorthand.specs.Facts.{Facts}
use Rattle.reading.specs.declared.Entry.{Entry}
use Rattle.reading.specs.Answers.{nowhere, nth, read}
use Rattle.reading.specs.Survey.{entry_from}
use Rattle.reading.proofs.Accepted.{read_taken}
use Rattle.reading.proofs.Exchanged.{cut-before, cut-after, blanked}
use Rattle.reading.proofs.OwnRows.{own-from}
use Rattle.reading.proofs.Places.{places}
use Rattle.index.specs.Index.{firsts_of}
use Rattle.index.specs.Finding.{up_to, own_entry, entry_by}
use Rattle.index.proofs.EntryTests.{entry_past, entry-own}
use Rattle.index.proofs.Slices.{drop-take}

-- ---- the entries of an index

firsts-long : (es : List Entry) → length (firsts_of es) ≡ length es
firsts-long es = length-map es (λ x. x.from)

first_of : (es : List Entry) (n : ℕ) → get_or (firsts_of es) n 0 ≡ (get_or es n nowhere).from
first_of es n = get_or-map (λ (x : Entry). x.from) es n nowhere

-- ---- block n, the last of its tape

-- the rows from the first row of a block on pass by themselves, and the block that begins there is that block
module _ (f : Format) (u : List ℕ) {ys : List Entry} (e : read f u ≡ taken ys) (n : ℕ) (l : n < length ys) where
  pub own-passes : Passes (drop (get_or ys n nowhere).from u)
  own-passes = (cut-before f u e n l).behind

  own-reads : own_entry f u (get_or ys n nowhere).from ≡ taken (get_or ys n nowhere)
  own-reads = rw (passes-clean _ own-passes) (own-from f u e n l)

module _ (f : Format) (facts : Facts f) (t : List ℕ) {es : List Entry} (e : read f t ≡ taken es) (n : ℕ) (l : n < length es) where
  abbrev x : Entry
  x = get_or es n nowhere

  -- cut behind a block, a tape has that block for its last
  cut-read : read f (take x.to t) ≡ taken (take (suc n) es)
  cut-read =
      let c = cut-after f t e n l in
      ap (read f) (sym (append-nil (take x.to t))) ∙ blanked facts c [] tt (omega (arith, c.within, c.passes.short))

  same : get_or (take (suc n) es) n nowhere ≡ x
  same = get_or-take (suc n) es n nowhere (omega arith)

  cut-long : n < length (take (suc n) es)
  cut-long = rw (length-take-le (suc n) es l) (omega arith)

  cut-passes : Passes (drop x.from (take x.to t))
  cut-passes = subst (λ (y : Entry). Passes (drop y.from (take x.to t))) same (own-passes f (take x.to t) cut-read n cut-long)

  cut-own : own_entry f (take x.to t) x.from ≡ taken x
  cut-own = subst (λ (y : Entry). own_entry f (take x.to t) y.from ≡ taken y) same (own-reads f (take x.to t) cut-read n cut-long)

  -- the next first row is where the block ends
  next-first : suc n < length es → get_or (firsts_of es) (n + 1) 0 ≡ x.to
  next-first more = first_of es (n + 1) ∙ rw (add-one n) ((places f t es (read_taken f t e).1 nowhere).next n more)

  pub own-found : own_entry f (up_to t (firsts_of es) n) (get_or (firsts_of es) n 0) ≡ taken x
  own-found = rw (first_of es n, firsts-long es) (by (ltb (n + 1) (length es)) refl)
    where
      by : (b : Bool) → ltb (n + 1) (length es) ≡ b → own_entry f (cond b (take (get_or (firsts_of es) (n + 1) 0) t) t) x.from ≡ taken x
      by true q = rw (next-first (omega (arith, ltb-true (n + 1) (length es) q))) cut-own
      by false q = own-reads f t e n l

-- ---- what is found is what the walk over all blocks finds

module _ (f : Format) (facts : Facts f) (t : List ℕ) {es : List Entry} (e : read f t ≡ taken es) (n : ℕ) where
  pub found : entry_by f t (firsts_of es) n ≡ nth n es
  found = by (ltb n (length es)) refl
    where
      short : length t ≤ limit
      short = (clean-passes t (read_taken f t e).0).short

      by : (b : Bool) → ltb n (length es) ≡ b → entry_by f t (firsts_of es) n ≡ cond b (taken (get_or es n nowhere)) (refused 15 (length es))
      by true q = let l = ltb-true n (length es) q in entry-own f t (firsts_of es) n short (rw (firsts-long es) l) ∙ own-found f facts t e n l
      by false q = entry_past f t (firsts_of es) n short (rw (firsts-long es) (ltb-false n (length es) q)) ∙ rw (firsts-long es)

-- ---- nothing before its first row is looked at

-- two tapes as long that agree from a row on
pub record Agree (t u : List ℕ) (i : ℕ) : Type 0 where
  pub long : length t ≡ length u
  pub behind : drop i t ≡ drop i u

-- and what is left of both where they are cut
cut-agree : {t u : List ℕ} {i : ℕ} → Agree t u i → (j : ℕ) → Agree (take j t) (take j u) i
cut-agree {t} {u} {i} h j =
    record {
      long = length-take j t ∙ rw h.long (sym (length-take j u));
      behind = drop-take j i t ∙ ap (take (j - i)) h.behind ∙ sym (drop-take j i u);
    }

module _ (f : Format) {t u : List ℕ} {i : ℕ} (h : Agree t u i) where
  own-agree : own_entry f t i ≡ own_entry f u i
  unfolding entry_from
  own-agree = rw (h.behind, h.long)

-- the answer is the same on every tape as long that has the same rows from the block's first row on
pub only-there : (f : Format) (t u : List ℕ) (firsts : List ℕ) (n : ℕ) → Agree t u (get_or firsts n 0) → entry_by f t firsts n ≡ entry_by f u firsts n
unfolding entry_by
only-there f t u firsts n h = rw h.long (ap (λ a. in_limit u >> cond (ltb n (length firsts)) a (refused 15 (length firsts))) (by (ltb (n + 1) (length firsts))))
  where
    by : (b : Bool) → own_entry f (cond b (take (get_or firsts (n + 1) 0) t) t) (get_or firsts n 0) ≡ own_entry f (cond b (take (get_or firsts (n + 1) 0) u) u) (get_or firsts n 0)
    by true = own-agree f (cut-agree h (get_or firsts (n + 1) 0))
    by false = own-agree f h

-- ---- damage in its own rows is refused

-- of a part of two tapes, row m is theirs
part-row : (i j m : ℕ) (l : List ℕ) → i + m < j → get_or (drop i (take j l)) m 0 ≡ get_or l (i + m) 0
part-row i j m l h = get_or-drop i (take j l) m 0 ∙ get_or-take j l (i + m) 0 h

-- a row of such a part stands before its end and within the tape
part-long : (i j : ℕ) (l : List ℕ) (m : ℕ) → m < length (drop i (take j l)) → (i + m < j) × (i + m < length l)
part-long i j l m h = let n = length-drop i (take j l) in let k = length-take j l in (omega arith, omega arith)

part-damaged : {t u : List ℕ} → Damaged t u → (i j : ℕ) → Damaged (drop i (take j t)) (drop i (take j u))
part-damaged {t} {u} d i j =
    record {
      length_kept = length-drop i (take j u) ∙ rw (length-take j u, d.length_kept, ← length-take j t) (sym (length-drop i (take j t)));
      rows = λ m h. let l = part-long i j t m h in rw (part-row i j m t l.0, part-row i j m u l.0) (d.rows (i + m) l.1);
    }

module _ {t u : List ℕ} (d : Damaged t u) (i k : ℕ) (from : i ≤ k) (changed : Changed (get_or t k 0) (get_or u k 0)) (before : (m : ℕ) → i ≤ m → m < k → get_or u m 0 ≡ get_or t m 0) where
  -- the first row changed in a part that passed
  part-first : (j : ℕ) → k < j → k < length t → First (drop i (take j t)) (drop i (take j u)) (k - i)
  part-first j to within =
      let at : i + (k - i) ≡ k = omega arith in
      record {
        within = rw (length-drop i (take j t), length-take j t) (omega arith);
        changed = rw (part-row i j (k - i) t (omega arith), part-row i j (k - i) u (omega arith), at) changed;
        before = λ m h. rw (part-row i j m t (omega arith), part-row i j m u (omega arith)) (before (i + m) (omega arith) (omega arith));
      }

  part-refused : (f : Format) (j : ℕ) → k < j → k < length t → Passes (drop i (take j t)) → own_entry f (take j u) i ≡ refused 5 k
  part-refused f j to within p =
      let at : i + (k - i) ≡ k = omega arith in
      rw (damaged (drop i (take j t)) (drop i (take j u)) p.even (part-damaged d i j) p.short (k - i) (part-first j to within), at)

-- an odd number of holes changed in some of block n's rows since the index was made, and perhaps elsewhere: 5 at the first of them in its rows
module _ (f : Format) (facts : Facts f) (t : List ℕ) {es : List Entry} (e : read f t ≡ taken es) (n : ℕ) (l : n < length es) where
  pub damage : {u : List ℕ} → Damaged t u → (k : ℕ) → (get_or es n nowhere).from ≤ k → k < (get_or es n nowhere).to → Changed (get_or t k 0) (get_or u k 0)
      → ((m : ℕ) → (get_or es n nowhere).from ≤ m → m < k → get_or u m 0 ≡ get_or t m 0) → entry_by f u (firsts_of es) n ≡ refused 5 k
  damage {u} d k from to changed before =
      let short : length u ≤ limit = rw d.length_kept (clean-passes t (read_taken f t e).0).short in
      entry-own f u (firsts_of es) n short (rw (firsts-long es) l) ∙ rw (firsts-long es, first_of es n) (by (ltb (n + 1) (length es)) refl)
    where
      within : k < length t
      within = omega (arith, to, ((places f t es (read_taken f t e).1 nowhere).within n l).1)

      by : (b : Bool) → ltb (n + 1) (length es) ≡ b → own_entry f (cond b (take (get_or (firsts_of es) (n + 1) 0) u) u) (get_or es n nowhere).from ≡ refused 5 k
      by true q =
          rw (next-first f facts t e n l (omega (arith, ltb-true (n + 1) (length es) q)))
          (part-refused d (get_or es n nowhere).from k from changed before f (get_or es n nowhere).to to within (cut-passes f facts t e n l))
      by false q =
          subst (λ (v : List ℕ). own_entry f v (get_or es n nowhere).from ≡ refused 5 k) (take_all (length t) u (omega (arith, d.length_kept)))
          (part-refused d (get_or es n nowhere).from k from changed before f (length t) within within
          (subst (λ (v : List ℕ). Passes (drop (get_or es n nowhere).from v)) (sym (take-length t)) (own-passes f t e n l)))
