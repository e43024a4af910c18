-- The theorem: of every tape that the fourth stage refuses, the number and the place say what `Refusal` says of the rows.
use Prim.Native.Nat.{ℕ, ◌^◌, ◌<◌}
use mathlib.Core.Path.{◌≡◌, refl, sym, ap, ◌∙◌, subst}
use mathlib.Core.Bool.{false, false≢true}
use mathlib.Core.List.{List, [], ◌∷◌, ◌++◌, append_assoc, append-nil}
use native.Mathlib.Omega.{arith}
use lib.ListN.{length, length-map, length-replicate}
use Rattle.rows.specs.Answer.{refused}
use Rattle.rows.specs.Kept.{KeptRow}
use Rattle.rows.specs.Passes.{Every}
use Rattle.speeds.specs.Meaning.{speed_for}
use Rattle.shorthand.specs.declared.Kind.{Kind}
use Rattle.shorthand.specs.declared.Item.{Item}
use Rattle.shorthand.specs.declared.Format.{Format}
use Rattle.shorthand.specs.Layout.{way_of}
use Rattle.shorthand.specs.Facts.{Widths, Facts}
use Rattle.reading.specs.declared.Block.{Block}
use Rattle.reading.specs.Relation.{digits, zeros, address, Program, chars}
use Rattle.words.specs.Figures.{digit_next}
use Rattle.reading.specs.Answers.{program_at}
use Rattle.reading.proofs.DigitRows.{digits-length}
use Rattle.reading.proofs.RowsAhead.{is_digit_lem}
use Rattle.reading.proofs.Complete.{complete}
use Rattle.reading.proofs.Outcomes.{chars-append}
use Rattle.places.specs.Begins.{Digit, Begins, Empty}
use Rattle.places.specs.Faults.{EndDue, Misfit, SpeedDue, Spoilt, BehindCR, an_lf, another, nothing, Refusal, at_cr, at_word, at_length, past_saving, cut_past_saving}
use Rattle.places.proofs.Steady.{Refuses, Held, at_row, at_end}
use Rattle.places.proofs.DigitLists.{zeros-digit}
use Rattle.places.proofs.ProgramStops.{ProgramStop, program-held}
use Rattle.places.proofs.Ahead.{zeros-begin}
use Rattle.places.proofs.Dues.{due-item, item-widths, rows_of, chars-of, parted}
use Rattle.places.proofs.Follows.{spoilt-begins}
use Rattle.places.proofs.Empties.{empty_cr}
use Rattle.places.proofs.Told.{Short, before_lf, before_row, before_none, Told, misfit, no_lf_behind, code, short, spoilt, at_empty_cr, spoilt_short, short_cut, both-empty, program-told}

-- ---- rows with given characters

no_rows : (rs : List KeptRow) → chars rs ≡ [] → rs ≡ []
no_rows [] e = refl
no_rows (r ∷ rs) e = let z = ap length e in absurd (omega arith)

-- ---- rows that are refused whatever follows begin no program's rows

module _ (f : Format) (facts : Facts f) (len : ℕ) where
  never : (u : List KeptRow) → ((l : List KeptRow) → Refuses (program_at len f (u ++ l))) → Begins f (chars u) → ⊥
  never u nay (bs, o, p) =
      let c = complete f facts bs len (u ++ rows_of o) (rw (chars-append u (rows_of o), chars-of o) p) in
      subst Refuses c.1 (nay (rows_of o))

  -- the same for characters
  never-chars : (x : List ℕ) (u : List KeptRow) → chars u ≡ x → ((l : List KeptRow) → Refuses (program_at len f (u ++ l))) → Begins f x → ⊥
  never-chars x u e nay b = never u nay (subst (Begins f) (sym e) b)

-- the row of one character
one-row : (w : List KeptRow) (c : ℕ) → chars w ≡ c ∷ [] → (s : KeptRow) × (w ≡ s ∷ []) × (s.char ≡ c)
one-row [] c e = let z = ap length e in absurd (omega arith)
one-row (s ∷ w) c e =
    let k : s.char ≡ c = cc in
    let n : chars w ≡ [] = cc in
    (s, ap (λ l. s ∷ l) (no_rows w n), k)

-- the last of some rows
last_row : (b : List KeptRow) (x : List ℕ) (c : ℕ) → chars b ≡ x ++ (c ∷ []) → (l : List KeptRow) × (s : KeptRow) × (b ≡ l ++ (s ∷ [])) × (chars l ≡ x) × (s.char ≡ c)
last_row b x c e =
    let p = parted b x (c ∷ []) e in
    let s = one-row p.right c p.of_right in
    (p.left, s.0, p.split ∙ ap (λ l. p.left ++ l) s.1, p.of_left, s.2)

-- ---- digits past saving

module _ (f : Format) (facts : Facts f) (b es : List KeptRow) (k : ℕ) (it : Item) (x : List ℕ) (e : chars b ≡ x ++ address (way_of f) it) (due : SpeedDue f it k x) where
  past-begins : Spoilt k (chars es) → Every Digit (chars es) → Begins f (chars b ++ chars es) → ⊥
  past-begins s all h = spoilt-begins facts due (chars es) s all (rw (← e) h)

  -- zeros in their place begin a program's rows
  zeros-save : Spoilt k (chars es) → (o : List ℕ) × Every Digit o × (length o ≡ length es) × Begins f (chars b ++ o)
  zeros-save s =
      let n = length-map es (λ s. s.char) in
      let few = s.fits in
      (zeros (length es), zeros-digit (length es), length-replicate (length es) 48, rw e (zeros-begin it (item-widths facts.fair (due-item due.due)) x due.due due.speed (length es) (omega arith)))

-- ---- refused at the CR of an empty block or behind it

module _ (f : Format) (facts : Facts f) (len : ℕ) (rs b a : List KeptRow) (cr : KeptRow) (split : rs ≡ b ++ (cr ∷ a)) where
  empty-refused : {n p : ℕ} (x : List ℕ) → chars b ≡ x → cr.char ≡ 13 → Empty f x → Begins f x → BehindCR len cr a n p → Refusal f len rs n p
  empty-refused x e k h begins behind =
      Refusal.empty_cr b a cr split (subst (Empty f) (sym e) h) k behind (subst (Begins f) (sym e) begins) (λ g. empty_cr f facts h (subst (λ y. Begins f (y ++ (13 ∷ []))) e g))

-- ---- refused at a row

module _ (f : Format) (facts : Facts f) (len : ℕ) (rs b es w a : List KeptRow) (r : KeptRow) (split : rs ≡ b ++ (es ++ (r ∷ (w ++ a)))) (all : Every Digit (chars es))
    (nay : (os l : List KeptRow) → Every Digit (chars os) → length os ≡ length es → Refuses (program_at len f (b ++ (os ++ (r ∷ (w ++ l)))))) where
  -- with these digits, or others in their place
  unsaved : (os : List KeptRow) → Every Digit (chars os) → length os ≡ length es → (x : List ℕ) → x ≡ chars b ++ (chars os ++ (r.char ∷ chars w)) → Begins f x → ⊥
  unsaved os h k x e =
      let u = b ++ (os ++ (r ∷ w)) in
      let c : chars u ≡ x = chars-append b (os ++ (r ∷ w)) ∙ ap (λ l. chars b ++ l) (chars-append os (r ∷ w)) ∙ sym e in
      let to : (l : List KeptRow) → u ++ l ≡ b ++ (os ++ (r ∷ (w ++ l))) = λ l. simp append_assoc in
      never-chars f facts len x u c (λ l. subst (λ y. Refuses (program_at len f y)) (sym (to l)) (nay os l h k))

  misfit-refused : (n c : ℕ) (x : List ℕ) → chars b ++ chars es ≡ x → r.char ≡ c → chars w ≡ [] → Misfit f n x c → Begins f x → Refusal f len rs n r.place
  misfit-refused n c x e k l m begins =
      let before : x ≡ chars (b ++ es) = sym e ∙ sym (chars-append b es) in
      let whole : rs ≡ b ++ es ++ (r ∷ a) = split ∙ rw (no_rows w l) (sym (append_assoc b es (r ∷ a))) in
      let up_to : chars (b ++ es) ++ (r.char ∷ []) ≡ chars b ++ (chars es ++ (r.char ∷ chars w)) = rw (chars-append b es, l) (append_assoc (chars b) (chars es) (r.char ∷ [])) in
      Refusal.at_row (b ++ es) a r whole (subst (λ d. Misfit f n (chars (b ++ es)) d) (sym k) (subst (λ y. Misfit f n y c) before m)) (subst (Begins f) before begins)
      (unsaved es all refl _ up_to)

  cr-refused : (n c : ℕ) → chars es ≡ [] → r.char ≡ 13 → chars w ≡ c ∷ [] → EndDue f n (chars b) → (c ≡ 10 → ⊥) → Begins f (chars b ++ (13 ∷ [])) → Refusal f len rs n r.place
  cr-refused n c none k l due nlf begins =
      let s = one-row w c l in
      let whole : rs ≡ b ++ (r ∷ (s.0 ∷ a)) = split ∙ ap (λ d. b ++ (d ++ (r ∷ (w ++ a)))) (no_rows es none) ∙ ap (λ v. b ++ (r ∷ (v ++ a))) s.1 in
      let up_to : chars b ++ (13 ∷ (s.0.char ∷ [])) ≡ chars b ++ (chars es ++ (r.char ∷ chars w)) = rw (none, k, l, s.2) in
      at_cr b a r s.0 whole due k (λ e. nlf (sym s.2 ∙ e)) begins (unsaved es all refl _ up_to)

  code-refused : (k c : ℕ) (it : Item) → digit_next a ≡ false → chars es ≡ [] → chars (r ∷ w) ≡ address (way_of f) it ++ digits k c → SpeedDue f it k (chars b) → c < 10 ^ k → speed_for k c ≡ refused 13 0
      → Begins f (chars b) → Refusal f len rs 13 r.place
  code-refused k c it apart none v due small z begins =
      let whole : rs ≡ b ++ (r ∷ (w ++ a)) = split ∙ ap (λ d. b ++ (d ++ (r ∷ (w ++ a)))) (no_rows es none) in
      let up_to : chars b ++ chars (r ∷ w) ≡ chars b ++ (chars es ++ (r.char ∷ chars w)) = rw none in
      at_word c b w a r whole due v small z (λ d o q h. false≢true (sym apart ∙ ap digit_next q ∙ is_digit_lem d.char h)) begins (unsaved es all refl _ up_to)

  spoilt-refused : (k c : ℕ) (it : Item) (x : List ℕ) → chars b ≡ x ++ address (way_of f) it → r.char ≡ c → chars w ≡ [] → SpeedDue f it k x → Spoilt k (chars es)
      → Misfit f 11 (chars b ++ chars es) c → Refusal f len rs 11 r.place
  spoilt-refused k c it x e v l due s m =
      let whole : rs ≡ b ++ (es ++ (r ∷ a)) = split ∙ ap (λ v. b ++ (es ++ (r ∷ (v ++ a)))) (no_rows w l) in
      let up_to : (o : List ℕ) → chars b ++ (o ++ (r.char ∷ [])) ≡ chars b ++ (chars (rows_of o) ++ (r.char ∷ chars w)) = λ o. rw (l, chars-of o) in
      past_saving b es a r x whole due e s all (subst (λ d. Misfit f 11 (chars b ++ chars es) d) (sym v) m) (past-begins f facts b es k it x e due s all) (zeros-save f facts b es k it x e due s)
      (λ o h j. unsaved (rows_of o) (rw (chars-of o) h) (length-map o (λ c. record { place = 0; char = c }) ∙ j) _ (up_to o))

  row-refused : {n : ℕ} {x ds v : List ℕ} → Told f n x ds v → (n ≡ 13 → digit_next a ≡ false) → chars b ≡ x → chars es ≡ ds → r.char ∷ chars w ≡ v → Refusal f len rs n r.place
  row-refused (misfit {n = n} {c = c} {x = y} e m begins) lone eb ed ev =
      let k : r.char ≡ c = cc in
      let l : chars w ≡ [] = cc in
      misfit-refused n c y (rw (eb, ed) (sym e)) k l m begins
  row-refused (no_lf_behind {n} {c} due nlf begins) lone eb ed ev =
      let k : r.char ≡ 13 = cc in
      let l : chars w ≡ c ∷ [] = cc in
      cr-refused n c ed k l (subst (EndDue f n) (sym eb) due) nlf (subst (λ y. Begins f (y ++ (13 ∷ []))) (sym eb) begins)
  row-refused (code {k} {it} c due small z begins) lone eb ed ev =
      code-refused k c it (lone refl) ed ev (subst (λ y. SpeedDue f it k y) (sym eb) due) small z (subst (Begins f) (sym eb) begins)
  row-refused (short e s begins) lone eb ed ev = let z = ap length ev in absurd (omega arith)
  row-refused (spoilt {k} {c} {it} {x = y} e due s m) lone eb ed ev =
      let v : r.char ≡ c = cc in
      let l : chars w ≡ [] = cc in
      spoilt-refused k c it y (eb ∙ e) v l due (subst (Spoilt k) (sym ed) s) (rw (eb, ed) m)
  row-refused (at_empty_cr {x = x} h begins before_lf) lone eb ed ev =
      let c = last_row b x 13 eb in
      let k : r.char ≡ 10 = cc in
      let l : chars w ≡ [] = cc in
      let whole : rs ≡ c.0 ++ (c.1 ∷ (r ∷ a)) =
      split ∙ ap (λ d. b ++ (d ++ (r ∷ (w ++ a)))) (no_rows es ed) ∙ ap (λ v. b ++ (r ∷ (v ++ a))) (no_rows w l) ∙ ap (λ v. v ++ (r ∷ a)) c.2 ∙ append_assoc c.0 (c.1 ∷ []) (r ∷ a) in
      empty-refused f facts len rs c.0 (r ∷ a) c.1 whole x c.3 c.4 h begins (an_lf k)
  row-refused (at_empty_cr {x = x} h begins (before_row {c} n)) lone eb ed ev =
      let k : r.char ≡ 13 = cc in
      let l : chars w ≡ c ∷ [] = cc in
      let s = one-row w c l in
      let whole : rs ≡ b ++ (r ∷ (s.0 ∷ a)) = split ∙ ap (λ d. b ++ (d ++ (r ∷ (w ++ a)))) (no_rows es ed) ∙ ap (λ v. b ++ (r ∷ (v ++ a))) s.1 in
      empty-refused f facts len rs b (s.0 ∷ a) r whole x eb k h begins (another (λ e. n (sym s.2 ∙ e)))
  row-refused (at_empty_cr h begins before_none) lone eb ed ev = let z = ap length ev in absurd (omega arith)
  row-refused (spoilt_short e due s h few c) lone eb ed ev = let z = ap length ev in absurd (omega arith)

-- ---- refused at the length

module _ (f : Format) (facts : Facts f) (len : ℕ) (rs b es : List KeptRow) (split : rs ≡ b ++ es) (nay : (cs : List Block) → Program f cs (chars rs) → ⊥) where
  all-rows : chars rs ≡ chars b ++ chars es
  all-rows = ap chars split ∙ chars-append b es

  end_refused : {n : ℕ} {x ds v : List ℕ} → Told f n x ds v → chars b ≡ x → chars es ≡ ds → v ≡ [] → Refusal f len rs n len
  end_refused (misfit e m begins) eb ed ev = let z = ap length ev in absurd (omega arith)
  end_refused (no_lf_behind due nlf begins) eb ed ev = let z = ap length ev in absurd (omega arith)
  end_refused (code {k} {it} c due small z begins) eb ed ev =
      let speeds : Widths (Kind.Speed k) = subst Widths due.speed (item-widths facts.fair (due-item due.due)) in
      let none = ap length (both-empty (address (way_of f) it) (digits k c) ev).1 in
      absurd (omega (arith, speeds.0, digits-length k c))
  end_refused (short {n = n} {x = y} e s begins) eb ed ev =
      let is : y ≡ chars rs = e ∙ sym (all-rows ∙ rw (eb, ed)) in
      at_length (short_cut (subst (Short f n) is s) nay) (subst (Begins f) is begins)
  end_refused (spoilt e due s m) eb ed ev = let z = ap length ev in absurd (omega arith)
  end_refused (at_empty_cr h begins before_lf) eb ed ev = let z = ap length ev in absurd (omega arith)
  end_refused (at_empty_cr h begins (before_row n)) eb ed ev = let z = ap length ev in absurd (omega arith)
  end_refused (at_empty_cr {x = x} h begins before_none) eb ed ev =
      let c = last_row b x 13 eb in
      let whole : rs ≡ c.0 ++ (c.1 ∷ []) = split ∙ ap (λ d. b ++ d) (no_rows es ed) ∙ append-nil b ∙ c.2 in
      empty-refused f facts len rs c.0 [] c.1 whole x c.3 c.4 h begins nothing
  end_refused (spoilt_short {k} {it} {x = y} {ds = ds} e due s h few c) eb ed ev =
      let is : chars b ++ ds ≡ chars rs = sym (all-rows ∙ rw ed) in
      let n : length (chars es) ≡ length ds = ap length ed in
      let lost : Spoilt k (chars es) = subst (Spoilt k) (sym ed) s in
      cut_past_saving b es y split due (eb ∙ e) lost (subst (Every Digit) (sym ed) h) (omega (arith, length-map es (λ s. s.char)))
      (short_cut (subst (Short f 14) (ap (λ l. l ++ ds) (sym eb) ∙ is) c) nay)
      (λ g. past-begins f facts b es k it y (eb ∙ e) due lost (subst (Every Digit) (sym ed) h) (subst (Begins f) all-rows g)) (zeros-save f facts b es k it y (eb ∙ e) due lost)

-- ---- the theorem

pub refused-rows : (f : Format) → Facts f → (len : ℕ) (rs : List KeptRow) (n p : ℕ) → program_at len f rs ≡ refused n p → Refusal f len rs n p
refused-rows f facts len rs n p e = go (program-held f facts len rs n p e)
  where
    no_program : (cs : List Block) → Program f cs (chars rs) → ⊥
    no_program cs q = let c = complete f facts cs len rs q in let z : ◌≡◌ {A = ℕ} 0 1 = cc c.1 in absurd (omega arith)

    go : {n p : ℕ} → Held (λ l. Refuses (program_at len f l)) len (ProgramStop f) rs n p → Refusal f len rs n p
    go (at_row b ds w a r split all is lone nay) = row-refused f facts len rs b ds w a r split all nay (program-told facts is) lone refl refl refl
    go (at_end b ds split all is) = end_refused f facts len rs b ds split no_program (program-told facts is) refl refl refl
