-- What stands behind the address of an item that is due, or behind its tab, in a program's rows: its data. So spoilt digits begin nothing.
use Prim.Native.Nat.{ℕ, ◌+◌, ◌≤◌, ◌<◌}
use native.Mathlib.Nat.{le_refl, zero-lt-suc}
use native.Mathlib.Omega.{arith}
use mathlib.Core.Path.{◌≡◌, refl, sym, ap, ◌∙◌, subst}
use mathlib.Core.Bool.{Bool, true, false, false≢true}
use mathlib.Core.List.{List, [], ◌∷◌, ◌++◌, append_assoc, map}
use lib.Dec.{eqb}
use lib.Ieee.Bits.{is_false}
use lib.ListN.{length, length-append}
use borrow.Author.Tests.{eq-eqb}
use Rattle.rows.specs.Answer.{Answer, taken, refused}
use Rattle.rows.specs.Kept.{KeptRow}
use Rattle.rows.specs.Passes.{Every}
use Rattle.shorthand.specs.declared.Kind.{Kind}
use Rattle.shorthand.specs.declared.Item.{Item}
use Rattle.shorthand.specs.declared.Format.{Format}
use Rattle.shorthand.specs.Edition.{letters, any_of}
use Rattle.shorthand.specs.Layout.{items_of, Way, by_letter, by_both, by_tab, way_of}
use Rattle.shorthand.specs.Facts.{Widths, Fair, more, Facts}
use Rattle.words.specs.declared.Value.{Value}
use Rattle.words.specs.declared.Word.{Word}
use Rattle.words.specs.declared.Wanted.{Wanted}
use Rattle.words.specs.Figures.{Behind, behind, front_place, is_digit, is_figure}
use Rattle.words.specs.Data.{word_at}
use Rattle.parts.specs.Ends.{head_at}
use Rattle.parts.specs.Items.{stepped, past_address}
use Rattle.reading.specs.declared.Block.{Block}
use Rattle.reading.specs.Relation.{Data, speed, address, Worded, word, tab, start_rows, Blocks, Program, program, chars}
use Rattle.reading.specs.Parse.{words_at, block_at}
use Rattle.reading.specs.Answers.{program_at}
use Rattle.reading.proofs.Outcomes.{chars-append}
use Rattle.reading.proofs.DigitRows.{digits-length}
use Rattle.reading.proofs.RowsAhead.{heads, fronts-heads, behind-chars, is_digit_lem}
use Rattle.reading.proofs.WordTakes.{word-takes}
use Rattle.reading.proofs.WordsTake.{neither, fails, fair-fails, tab-front, word-front, beginning, begins-heads, own-front, past-chars, step-takes}
use Rattle.reading.proofs.BareStarts.{turns, opener, tab-turns, word-turns, turn-opens}
use Rattle.reading.proofs.BlockTakes.{end-takes, start-takes, block-takes, block-some}
use Rattle.reading.proofs.Complete.{rows-length, complete}
use Rattle.reading.proofs.Sound.{word_rows}
use Rattle.places.specs.Begins.{Digit, Begins, Reached, first, out, here, Due}
use Rattle.places.specs.Faults.{SpeedDue, Spoilt}
use Rattle.places.proofs.Steady.{Refuses, refuses-bind}
use Rattle.places.proofs.Unread.{Unread, block-unread, behind-unread}
use Rattle.places.proofs.SpeedDigits.{spoilt-some, spoilt-never}
use Rattle.places.proofs.Dues.{due-item, item-widths, rows_of, chars-of}

-- ---- the walk to an item that is due

-- what fails on HT and on the letters of the items fails on the first of the rows that reach one of them
reached-front : (p : ℕ → Bool) → p 9 ≡ false → {y : Way} {its : List Item} {it : Item} {r : List ℕ} → Reached y its it r → any_of p (map (λ i. i.letter) its) ≡ false
    → (z : List ℕ) → heads p (r ++ (address y it ++ z)) ≡ false
reached-front p ht {y} (first {it}) h z = word-front p ht y it z (neither (p it.letter) _ h).0
reached-front p ht {y} {it = it} (out {j} {r = r} q) h z =
    rw (append_assoc (tab y) r (address y it ++ z)) (tab-front p ht y (r ++ (address y it ++ z)) (reached-front p ht q (neither (p j.letter) _ h).1 z))
reached-front p ht {y} {it = it} (here {j} {r = r} (word {ds = ds} q) k) h z =
    rw (append_assoc (tab y) (address y j ++ ds ++ r) (address y it ++ z), append_assoc (address y j ++ ds) r (address y it ++ z), append_assoc (address y j) ds (r ++ (address y it ++ z)))
    (word-front p ht y j (ds ++ (r ++ (address y it ++ z))) (neither (p j.letter) _ h).0)

-- an item's turn begins there
reached-turns : {y : Way} {its : List Item} {it : Item} {r : List ℕ} → Reached y its it r → (z : List ℕ) → heads (turns y its) (r ++ (address y it ++ z)) ≡ true
reached-turns {y} (first {it} {its}) z = word-turns y it its z
reached-turns {y} {it = it} (out {j} {its = its} {r} q) z = rw (append_assoc (tab y) r (address y it ++ z)) (tab-turns y j its (r ++ (address y it ++ z)) (reached-turns q z))
reached-turns {y} {it = it} (here {j} {its = its} {r = r} (word {ds = ds} q) k) z =
    rw (append_assoc (tab y) (address y j ++ ds ++ r) (address y it ++ z), append_assoc (address y j ++ ds) r (address y it ++ z), append_assoc (address y j) ds (r ++ (address y it ++ z)))
    (word-turns y j its (ds ++ (r ++ (address y it ++ z))))

-- the word of an item left out does not begin there
absent : (y : Way) (j : Item) (its : List Item) → Fair (j ∷ its) → {it : Item} {r : List ℕ} → Reached y its it r → (z : List ℕ) → heads (beginning y j) (r ++ (address y it ++ z)) ≡ false
absent by_letter j its (more l w d f) q z = reached-front (λ c. eqb c j.letter) (fails (λ k. eqb 9 k) letters j.letter l refl) q (is_false _ d) z
absent by_both j its (more l w d f) q z = reached-front (λ c. eqb c j.letter) (fails (λ k. eqb 9 k) letters j.letter l refl) q (is_false _ d) z
absent by_tab j its (more l w d f) q z = reached-front is_figure refl q (fair-fails is_figure refl f) z

-- where words have no address, a digit or a sign begins one
abbrev pub Entering : Way → List ℕ → Type 0
Entering y z = y ≡ by_tab → heads is_figure z ≡ true

entered : (y : Way) (it : Item) (z : List ℕ) → Entering y z → heads (beginning y it) (address y it ++ z) ≡ true
entered by_letter it z o = eq-eqb it.letter it.letter refl
entered by_both it z o = eq-eqb it.letter it.letter refl
entered by_tab it z o = o refl

-- the walk over the items comes to the word of the item that is due: where that is refused, so are all words
reached-through : (len : ℕ) (y : Way) {its : List Item} {it : Item} {r : List ℕ} → Reached y its it r → Fair its → (z : List ℕ) → Entering y z → (rs : List KeptRow) → chars rs ≡ r ++ (address y it ++ z)
    → (a : ℕ) × (rest : List KeptRow) × (chars rest ≡ z) × (Refuses (word_at len it a rest) → Refuses (words_at len y its rs))
unfolding words_at
reached-through len y (first {it} {its}) fair z o rs e =
    let st = step-takes y rs (address y it ++ z) e in
    let u = stepped y rs in
    (front_place u, past_address y u, past-chars y it z u st.1, λ nay. rw (st.0, begins-heads y it u, st.1, entered y it z o) (refuses-bind (word_at len it (front_place u) (past_address y u)) _ nay))
reached-through len y {it = it} (out {j} {its = its} {r} q) (more l w d f) z o rs e =
    let st = step-takes y rs (r ++ (address y it ++ z)) (e ∙ append_assoc (tab y) r (address y it ++ z)) in
    let k = reached-through len y q f z o (stepped y rs) st.1 in
    (k.0, k.1, k.2, λ nay. rw (st.0, begins-heads y j (stepped y rs), st.1, absent y j its (more l w d f) q z) (k.3 nay))
reached-through len y {it = it} (here {j} {its = its} {r = r} (word {ds = ds} p) q) (more l k d f) z o rs e =
    let t = r ++ (address y it ++ z) in
    let st = step-takes y rs (address y j ++ (ds ++ t)) (e ∙ simp append_assoc) in
    let u = stepped y rs in
    let m = word-takes j p k len (front_place u) (past_address y u) t (past-chars y j (ds ++ t) u st.1) (reached-front is_digit refl q (fair-fails is_digit refl f) z) in
    let n = reached-through len y q f z o m.rest m.leaves in
    (n.0, n.1, n.2, λ nay. rw (st.0, begins-heads y j u, st.1, own-front y j p k t, m.takes) (refuses-bind (words_at len y its m.rest) _ (n.3 nay)))

-- ---- behind a program's rows

some-row : (p : ℕ → Bool) (u : List ℕ) → heads p u ≡ true → 0 < length u
some-row p [] h = absurd (false≢true h)
some-row p (c ∷ u) h = zero-lt-suc _

module _ (f : Format) (facts : Facts f) (len : ℕ) where
  blocks-through : {bs : List Block} {r : List ℕ} → Blocks f bs r → (z : List ℕ) → 0 < length z → (rs : List KeptRow) → chars rs ≡ r ++ z
      → (rest : List KeptRow) × (chars rest ≡ z) × (Refuses (block_at len f rest) → Unread f len rs)
  blocks-through Blocks.none z some rs e = (rs, e, block-unread f len rs (omega (arith, rows-length rs z e)))
  blocks-through (Blocks.more {r = r} {s = s} p q) z some rs e =
      let t = block-takes f facts p len (s ++ z) rs (e ∙ append_assoc r s z) in
      let less : length t.1.rest < length rs =
      omega (arith, block-some p, rows-length rs (r ++ s ++ z) e, rows-length t.1.rest (s ++ z) t.1.leaves, length-append (r ++ s) z, length-append r s, length-append s z) in
      let k = blocks-through q z some t.1.rest t.1.leaves in
      (k.0, k.1, λ nay. behind-unread f len rs t.1.rest _ t.1.takes less (k.2 nay))

  pub program-through : {bs : List Block} {h : List ℕ} → Program f bs h → (z : List ℕ) → 0 < length z → (rs : List KeptRow) → chars rs ≡ h ++ z
      → (rest : List KeptRow) × (chars rest ≡ z) × (Refuses (block_at len f rest) → Refuses (program_at len f rs))
  unfolding program_at head_at
  program-through (program {e = e} {r = r} end q) z some rs h =
      let t = end-takes end len Wanted.Head (behind rs) (r ++ z) (behind-chars 37 (e ++ (r ++ z)) rs (h ∙ ap (λ l. 37 ∷ l) (append_assoc e r z))) in
      let k = blocks-through q z some t.1.rest t.1.leaves in
      (k.0, k.1, λ nay. rw (fronts-heads 37 rs, h, t.1.takes) (k.2 nay (length t.1.rest) (t.0 + 1) (le_refl (length t.1.rest))))

  -- where the word of an item that is due is refused, so is the program
  due-through : {it : Item} {x : List ℕ} → Due f it x → (z : List ℕ) → Entering (way_of f) z → (rs : List KeptRow) → chars rs ≡ x ++ address (way_of f) it ++ z
      → (a : ℕ) × (rest : List KeptRow) × (chars rest ≡ z) × (Refuses (word_at len it a rest) → Refuses (program_at len f rs))
  unfolding block_at
  due-through {it} {x} h z o rs e =
      let y = way_of f in
      let s = start_rows f.sequence h.start in
      let t = h.passed ++ (address y it ++ z) in
      let all : chars rs ≡ h.ended ++ (s ++ t) =
      e ∙ ap (λ l. l ++ address y it ++ z) h.rows ∙ simp append_assoc in
      let opens = turn-opens f t (reached-turns h.reached z) in
      let p = program-through h.program (s ++ t) (omega (arith, length-append s t, some-row (opener f) t opens)) rs all in
      let apart = reached-front is_digit refl h.reached (fair-fails is_digit refl facts.fair) z in
      let b = start-takes f facts len h.starts t apart (λ n. opens) p.0 p.1 in
      let w = reached-through len y h.reached facts.fair z o b.rest b.leaves in
      (w.0, w.1, w.2, λ nay. p.2 (rw b.takes (refuses-bind (words_at len y (items_of f) b.rest) _ (w.3 nay))))

-- ---- data of the item

-- data of the kind stand at the front
abbrev pub Holds : Kind → List ℕ → Type 0
Holds k z = (v : Value) × (d : List ℕ) × (o : List ℕ) × Data k v d × (z ≡ d ++ o)

of_word : {it : Item} {w : Word} {u : List ℕ} → Worded by_tab it w u → (v : Value) × Data it.kind v u
of_word (word {x} q) = (x, q)

-- in a program's rows, data of the item stand behind the rows with which it is due and its address
pub follows : {f : Format} → Facts f → {it : Item} {x : List ℕ} → Due f it x → (z : List ℕ) → Entering (way_of f) z → {bs : List Block} → Program f bs (x ++ address (way_of f) it ++ z)
    → Holds it.kind z
follows {f} facts {it} {x} h z o {bs} p = by (word_at 0 it w.0 w.1) refl
  where
    rs : List KeptRow
    rs = rows_of (x ++ address (way_of f) it ++ z)

    w : (a : ℕ) × (rest : List KeptRow) × (chars rest ≡ z) × (Refuses (word_at 0 it a rest) → Refuses (program_at 0 f rs))
    w = due-through f facts 0 h z o rs (chars-of _)

    by : (a : Answer (Behind Word)) → word_at 0 it w.0 w.1 ≡ a → Holds it.kind z
    by (taken b) q =
        let t = word_rows 0 w.1 it w.0 b q in
        let d = of_word (t.stands by_tab) in
        (d.0, chars t.took, chars b.rest, d.1, sym w.2 ∙ ap chars t.split ∙ chars-append t.took b.rest)
    by (refused n q) r = absurd (subst Refuses (complete f facts bs 0 rs (rw (chars-of (x ++ address (way_of f) it ++ z)) p)).1 (w.3 (rw r tt)))

-- ---- spoilt digits

speed-length : {k : ℕ} {v : Value} {d : List ℕ} → Data (Kind.Speed k) v d → length d ≡ k
speed-length (speed {k = k} c e) = digits-length k c

-- the shorter of two beginnings begins the longer
shorter : (a b x y : List ℕ) → a ++ x ≡ b ++ y → length a ≤ length b → (u : List ℕ) × (b ≡ a ++ u)
shorter [] b x y e l = (b, refl)
shorter (c ∷ a) [] x y e l = absurd (omega arith)
shorter (c ∷ a) (d ∷ b) x y e l =
    let h : d ≡ c = cc in
    let t : a ++ x ≡ b ++ y = cc in
    let q = shorter a b x y t (omega arith) in
    (q.0, ap (λ z. z ∷ b) h ∙ ap (λ z. c ∷ z) q.1)

digit-enters : (ds o : List ℕ) → 0 < length ds → Every Digit ds → heads is_figure (ds ++ o) ≡ true
digit-enters [] o some all = absurd (omega arith)
digit-enters (d ∷ ds) o some all = rw (is_digit_lem d all.0)

-- of a speed they begin no program's rows
pub spoilt-begins : {f : Format} → Facts f → {k : ℕ} {it : Item} {x : List ℕ} → SpeedDue f it k x → (ds : List ℕ) → Spoilt k ds → Every Digit ds → Begins f (x ++ address (way_of f) it ++ ds) → ⊥
spoilt-begins {f} facts {k} {it} {x} due ds s all (bs, o, p) =
    let speeds : Widths (Kind.Speed k) = subst Widths due.speed (item-widths facts.fair (due-item due.due)) in
    let q = follows facts due.due (ds ++ o) (λ e. digit-enters ds o (spoilt-some k speeds ds s) all) (subst (Program f bs) (append_assoc (x ++ address (way_of f) it) ds o) p) in
    let said : Data (Kind.Speed k) q.0 q.1 = subst (λ j. Data j q.0 q.1) due.speed q.3 in
    let u = shorter ds q.1 o q.2 q.4 (omega (arith, speed-length said, s.fits)) in
    spoilt-never said ds u.0 s u.1
