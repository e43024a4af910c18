-- What a stop of the parsers says in the relation's words: why the rows do not fit, and that those before them begin a program's.
use Prim.Native.Nat.{ℕ, ◌^◌, ◌≤◌, ◌<◌}
use mathlib.Core.Path.{◌≡◌, refl, sym, ap, ◌∙◌, subst}
use mathlib.Core.Logic.{inl, inr}
use mathlib.Core.Bool.{Bool, true, false, false≢true}
use mathlib.Core.List.{List, [], ◌∷◌, ◌++◌, append-nil, append_assoc}
use native.Mathlib.Nat.{le_refl, zero-lt-suc}
use native.Mathlib.Omega.{arith}
use lib.ListN.{length}
use lib.Dec.{lit<}
use Rattle.rows.specs.Passes.{Every}
use Rattle.rows.specs.Answer.{refused}
use Rattle.speeds.specs.Meaning.{speed_for}
use Rattle.shorthand.specs.declared.Item.{Item}
use Rattle.shorthand.specs.declared.Format.{Format}
use Rattle.shorthand.specs.Layout.{items_of, Way, by_letter, by_both, by_tab, way_of, width, missing_of, fewest}
use Rattle.shorthand.specs.Facts.{Widths, Facts}
use Rattle.words.specs.declared.Word.{Word}
use Rattle.words.specs.declared.Wanted.{Wanted}
use Rattle.parts.specs.declared.Begun.{Begun}
use Rattle.parts.specs.Starts.{unnumbered}
use Rattle.reading.specs.declared.Block.{Block}
use Rattle.reading.specs.Record.{is_empty}
use Rattle.reading.specs.Relation.{digits, address, Words, End, lf, cr_lf, skip_rows, counted, bare, Blocks, Program, program}
use Rattle.places.specs.Begins.{Digit, Begins, Due, Empty}
use Rattle.places.specs.Faults as faults
use Rattle.places.specs.Faults.{Miscounted, too_few, too_many, EndDue, of_head, of_block, SignRow, Enters, GoesOn, NoneYet, last_of, Misfit, Cut, in_head, SpeedDue, Spoilt}
use Rattle.places.proofs.DigitLists.{last-behind, some-width, fewest-most}
use Rattle.places.proofs.Dues.{SomeWords, reached-item, item-widths, Opened, opened}
use Rattle.places.proofs.FigureStops.{still, miscounted, cut}
use Rattle.places.proofs.SignStops.{fault, cut_sign, in_sign, in_figures}
use Rattle.places.proofs.WordStops.{WordStop, in_data, thirteen}
use Rattle.places.proofs.WordsStops.{in_word}
use Rattle.places.proofs.BlockStops.{EndStop, no_end, no_lf, cut_end, cut_lf, empty_lf, empty_cr_lf, Halts, BlockStop, no_start, cut_start, in_number, in_words}
use Rattle.places.proofs.Stems.{program-lf}
use Rattle.places.proofs.ProgramStops.{HeadStop, no_percent, cut_percent, ProgramStop}
use Rattle.places.proofs.Ahead.{closes-begins, head-begins, words-close, cr-begins, number-begins, start-begins, reached-due, Outlook, open_to, spoilt_for, outlook, address-begins, before-begins, figures-begin, empty-begins}

-- ---- rows that end too soon

pub data Short (f : Format) : ℕ → List ℕ → Type 0 where
  head_short : {x e : List ℕ} (o : List ℕ) → End e → x ++ o ≡ 37 ∷ e → 0 < length o → Short f 8 x
  block_short : {bs : List Block} {h : List ℕ} (s : List ℕ) → Program f bs h → Short f 14 (h ++ s)

pub short_cut : {f : Format} {n : ℕ} {x : List ℕ} → Short f n x → ((cs : List Block) → Program f cs x → ⊥) → Cut f n x
short_cut (head_short o end e some) nay = in_head o end e some
short_cut {f} (block_short {bs} {h} [] p) nay = absurd (nay bs (rw (append-nil h) p))
short_cut (block_short (c ∷ s) p) nay = faults.in_block (c ∷ s) p (omega arith) nay

-- ---- what is said of the rows b and the digits ds before the place, and of the rows that decide

-- a CR behind the rows x of an empty block, by what follows it: 9 at an LF, 10 at the CR before another row, 14 where the tape ends
pub data CRStop (x : List ℕ) : ℕ → List ℕ → List ℕ → Type 0 where
  before_lf : CRStop x 9 (x ++ (13 ∷ [])) (10 ∷ [])
  before_row : {c : ℕ} → (c ≡ 10 → ⊥) → CRStop x 10 x (13 ∷ c ∷ [])
  before_none : CRStop x 14 (x ++ (13 ∷ [])) []

pub data Told (f : Format) : ℕ → List ℕ → List ℕ → List ℕ → Type 0 where
  misfit : {n c : ℕ} {x b ds : List ℕ} → x ≡ b ++ ds → Misfit f n x c → Begins f x → Told f n b ds (c ∷ [])
  no_lf_behind : {n c : ℕ} {b : List ℕ} → EndDue f n b → (c ≡ 10 → ⊥) → Begins f (b ++ (13 ∷ [])) → Told f n b [] (13 ∷ c ∷ [])
  at_empty_cr : {n : ℕ} {x b w : List ℕ} → Empty f x → Begins f x → CRStop x n b w → Told f n b [] w
  code : {k : ℕ} {it : Item} {b : List ℕ} (c : ℕ) → SpeedDue f it k b → c < 10 ^ k → speed_for k c ≡ refused 13 0 → Begins f b → Told f 13 b [] (address (way_of f) it ++ digits k c)
  short : {n : ℕ} {x b ds : List ℕ} → x ≡ b ++ ds → Short f n x → Begins f x → Told f n b ds []
  spoilt : {k c : ℕ} {it : Item} {b x ds : List ℕ} → b ≡ x ++ address (way_of f) it → SpeedDue f it k x → Spoilt k ds → Misfit f 11 (b ++ ds) c → Told f 11 b ds (c ∷ [])
  spoilt_short : {k : ℕ} {it : Item} {b x ds : List ℕ} → b ≡ x ++ address (way_of f) it → SpeedDue f it k x → Spoilt k ds → Every Digit ds → length ds < k → Short f 14 (b ++ ds) → Told f 14 b ds []

miscounted-most : {least most c : ℕ} {ds : List ℕ} → least ≤ most → Miscounted least most ds c → length ds ≤ most
miscounted-most l (too_few h n) = omega arith
miscounted-most l (too_many e h) = omega arith

-- ---- a word

-- an address, a sign and digits, the digits apart
apart : (x a s ds : List ℕ) → x ++ a ++ (s ++ ds) ≡ x ++ (a ++ (s ++ [])) ++ ds
apart x a s ds = simp (append-nil, append_assoc)

pub both-empty : (s ds : List ℕ) → s ++ ds ≡ [] → (s ≡ []) × (ds ≡ [])
both-empty [] ds e = (refl, e)
both-empty (c ∷ s) ds e = let z = ap length e in absurd (omega arith)

-- what may begin the data, and is no sign, is a miscounted row only behind an address
none_yet : (y : Way) {least most c : ℕ} {ds : List ℕ} → 1 ≤ most → Miscounted least most ds c → ds ≡ [] → (SignRow c → ⊥) × Enters y c → NoneYet y c
none_yet by_letter some m e h = h.0
none_yet by_both some m e h = h.0
none_yet by_tab some (too_few l d) e (n, inl k) = d k
none_yet by_tab some (too_few l d) e (n, inr k) = n k
none_yet by_tab some (too_many l d) e h = omega (arith, ap length e)

module _ {f : Format} (it : Item) (w : Widths it.kind) (x : List ℕ) (due : Due f it x) (cuts : (s : List ℕ) → Short f 14 (x ++ s)) where
  abbrev own : List ℕ
  own = address (way_of f) it

  wide : fewest (missing_of it.kind) (width it.kind) ≤ width it.kind
  wide = fewest-most (missing_of it.kind) (width it.kind) (some-width it.kind w)

  addressed : x ++ own ≡ x ++ (own ++ []) ++ []
  addressed = simp append-nil

  -- without a sign the digits stand right behind the address
  unsigned : (s : List ℕ) → s ≡ [] → x ++ (own ++ (s ++ [])) ≡ x ++ own
  unsigned s n = rw (n, append-nil own)

  word-told : {n : ℕ} {b ds v : List ℕ} → WordStop (way_of f) it n b ds v → Told f n (x ++ b) ds v
  word-told (in_data (in_sign (fault h))) = misfit addressed (faults.sign it x due h) (address-begins it w x due)
  word-told (in_data (in_sign cut_sign)) = short addressed (cuts own) (address-begins it w x due)
  word-told (in_data (in_figures {s = s} g (miscounted {ds} {c} all m d))) = go (outlook it.kind w g ds all (miscounted-most wide m))
    where
      fits : Misfit f 11 (x ++ own ++ (s ++ ds)) c
      fits = faults.figures it x due g all m (λ e. let n = both-empty s ds e in none_yet (way_of f) (some-width it.kind w) m n.1 (d n.1 n.0))

      go : Outlook it.kind s ds → Told f 11 (x ++ (own ++ (s ++ []))) ds (c ∷ [])
      go (open_to o h) = misfit (apart x own s ds) fits (figures-begin it w x due s ds o h)
      go (spoilt_for e n h) =
          spoilt {x = x} (unsigned s n) (record { speed = e; due = due }) h (subst (λ l. Misfit f 11 l c) (apart x own s ds) fits)
  word-told (in_data (in_figures {s = s} g (cut {ds} all l))) = go (outlook it.kind w g ds all (omega (arith, wide)))
    where
      few : Short f 14 (x ++ own ++ (s ++ ds))
      few = subst (Short f 14) (sym (append_assoc x own (s ++ ds))) (cuts (own ++ (s ++ ds)))

      go : Outlook it.kind s ds → Told f 14 (x ++ (own ++ (s ++ []))) ds []
      go (open_to o h) = short (apart x own s ds) few (figures-begin it w x due s ds o h)
      go (spoilt_for e n h) =
          spoilt_short {x = x} (unsigned s n) (record { speed = e; due = due }) h all (subst (λ j. length ds < fewest (missing_of j) (width j)) e l) (subst (Short f 14) (apart x own s ds) few)
  word-told (thirteen c e small z) = rw (append-nil x) (code c (record { speed = e; due = due }) small z (before-begins it w x due))

-- ---- a block, the head, and all

-- no digits, and nothing before them
nothing : (x : List ℕ) → x ≡ x ++ [] ++ []
nothing x = simp append-nil

module _ {f : Format} (facts : Facts f) {bs : List Block} {h : List ℕ} (p : Program f bs h) where
  -- behind a program's rows a block is begun
  cut-behind : (x s : List ℕ) → h ++ s ≡ x → Short f 14 x
  cut-behind x s e = subst (Short f 14) e (block_short s p)

  -- nothing goes on with a program's rows
  firm-behind : {c : ℕ} (x : List ℕ) → (GoesOn (way_of f) (last_of x) c → ⊥) → GoesOn (way_of f) (last_of (h ++ x)) c → ⊥
  firm-behind {c} [] n g =
      let q = program-lf p in
      still (λ d. omega arith) (λ e. omega arith) (subst (λ l. GoesOn (way_of f) l c) (ap last_of (append-nil h ∙ q.1) ∙ last-behind q.0 (10 ∷ []) (zero-lt-suc 0)) g)
  firm-behind {c} (d ∷ x) n g = n (subst (λ l. GoesOn (way_of f) l c) (last-behind h (d ∷ x) (zero-lt-suc _)) g)

  -- at the end of a block
  end-told : {n : ℕ} {s : Begun} {b ds w u r : List ℕ} → Opened f s u → (ws : SomeWords (way_of f) (items_of f) s r) → EndStop (Halts f s ws.0 u r) Wanted.End false n b ds w
      → Told f n (h ++ (u ++ r) ++ b) ds w
  end-told {u = u} {r} o ws (no_end a b d) =
      let k = words-close p o ws in
      misfit (nothing (h ++ (u ++ r))) (faults.end (of_block k) a b (firm-behind (u ++ r) d.firm)) (closes-begins (h ++ (u ++ r)) [] (h ++ (u ++ r)) k (sym (append-nil _)))
  end-told {u = u} {r} o ws (no_lf a) = rw (append-nil (h ++ (u ++ r))) (no_lf_behind (of_block (words-close p o ws)) a (cr-begins p o ws))
  end-told {u = u} {r} o ws cut_end = short (nothing _) (cut-behind _ (u ++ r) refl) (closes-begins (h ++ (u ++ r)) [] (h ++ (u ++ r)) (words-close p o ws) (sym (append-nil _)))
  end-told {u = u} {r} o ws cut_lf = short (sym (append-nil _)) (cut-behind _ (u ++ r ++ (13 ∷ [])) (sym (append_assoc h (u ++ r) (13 ∷ [])))) (cr-begins p o ws)
  end-told o ws (empty_lf e) = absurd (false≢true e)
  end-told o ws (empty_cr_lf e) = absurd (false≢true e)

  -- at the end of an empty one
  module _ (skip : Bool) (allowed : f.unnumbered ≡ true) {r : List ℕ} (left : Words (way_of f) (items_of f) [] r) where
    abbrev emptied : Empty f (h ++ (skip_rows skip ++ [] ++ r))
    emptied = record { blocks = bs; ended = h; skip = skip; passed = r; program = p; allowed = allowed; left_out = left; rows = rw (append-nil (skip_rows skip)) }

    empty-told : {n : ℕ} {b ds w : List ℕ} → EndStop (Halts f (unnumbered skip) [] (skip_rows skip ++ []) r) Wanted.End true n b ds w → Told f n (h ++ (skip_rows skip ++ [] ++ r) ++ b) ds w
    empty-told (no_end a b d) = misfit (nothing _) (faults.tabbed emptied (d.tabbed refl a b) a b (firm-behind (skip_rows skip ++ [] ++ r) d.firm)) (empty-begins facts emptied)
    empty-told (no_lf a) = rw (append-nil (h ++ (skip_rows skip ++ [] ++ r))) (at_empty_cr emptied (empty-begins facts emptied) (before_row a))
    empty-told cut_end = short (nothing _) (cut-behind _ (skip_rows skip ++ [] ++ r) refl) (empty-begins facts emptied)
    empty-told cut_lf = at_empty_cr emptied (empty-begins facts emptied) before_none
    empty-told (empty_lf e) = misfit (nothing _) (faults.empty emptied) (empty-begins facts emptied)
    empty-told (empty_cr_lf e) = at_empty_cr emptied (empty-begins facts emptied) before_lf

  close-told : {n : ℕ} {s : Begun} {ws : List Word} {b ds w u r : List ℕ} → Opened f s u → Words (way_of f) (items_of f) ws r → EndStop (Halts f s ws u r) Wanted.End (is_empty s ws) n b ds w
      → Told f n (h ++ (u ++ r) ++ b) ds w
  close-told {ws = []} (opened (bare skip allowed)) words q = empty-told skip allowed words q
  close-told {ws = []} (opened (counted skip alignment small)) words q = end-told (opened (counted skip alignment small)) ([], refl, words) q
  close-told {ws = v ∷ ws} o words q = end-told o (v ∷ ws, refl, words) q

  block-told : {n : ℕ} {b ds w : List ℕ} → BlockStop f n b ds w → Told f n (h ++ b) ds w
  block-told (no_start skip c) = misfit (sym (append-nil _)) (faults.start skip p c) (start-begins p skip)
  block-told (cut_start skip) = short (sym (append-nil _)) (cut-behind _ (skip_rows skip) refl) (start-begins p skip)
  block-told (in_number skip alignment (miscounted {ds} all m d)) =
      let e : h ++ faults.number_rows skip alignment ds ≡ h ++ faults.number_rows skip alignment [] ++ ds = simp append_assoc in
      misfit e (faults.number skip alignment p all m) (number-begins p skip alignment ds all (miscounted-most (le_refl f.sequence) m))
  block-told (in_number skip alignment (cut {ds} all l)) =
      let e : h ++ faults.number_rows skip alignment ds ≡ h ++ faults.number_rows skip alignment [] ++ ds = simp append_assoc in
      short e (cut-behind _ (faults.number_rows skip alignment ds) refl) (number-begins p skip alignment ds all (omega arith))
  block-told {n} (in_words {ds = ds} {w = w} {u = u} o (in_word {b = b} it r due q)) =
      let e : h ++ (u ++ r) ++ b ≡ h ++ (u ++ (r ++ b)) = simp append_assoc in
      subst (λ y. Told f n y ds w) e
      (word-told it (item-widths facts.fair (reached-item due)) (h ++ (u ++ r)) (reached-due p r it o due) (λ t. cut-behind _ (u ++ r ++ t) (sym (append_assoc h (u ++ r) t))) q)
  block-told {n} (BlockStop.in_end {b = b} {ds} {w} {u} {r} o words q) =
      let e : h ++ (u ++ r) ++ b ≡ h ++ (u ++ (r ++ b)) = simp append_assoc in
      subst (λ y. Told f n y ds w) e (close-told o words q)

head-told : {f : Format} {n : ℕ} {b ds w : List ℕ} → HeadStop n b ds w → Told f n b ds w
head-told (no_percent c) = misfit refl (faults.percent c) ([], 37 ∷ 10 ∷ [], program lf Blocks.none)
head-told cut_percent = short refl (head_short (37 ∷ 10 ∷ []) lf refl (lit< tt)) ([], 37 ∷ 10 ∷ [], program lf Blocks.none)
head-told (HeadStop.in_end (no_end a b d)) = misfit refl (faults.end of_head a b (still (λ d. omega arith) (λ e. omega arith))) head-begins
head-told (HeadStop.in_end (no_lf a)) = no_lf_behind of_head a ([], 10 ∷ [], program cr_lf Blocks.none)
head-told (HeadStop.in_end cut_end) = short refl (head_short (10 ∷ []) lf refl (lit< tt)) head-begins
head-told (HeadStop.in_end (empty_lf e)) = absurd (false≢true e)
head-told (HeadStop.in_end (empty_cr_lf e)) = absurd (false≢true e)
head-told (HeadStop.in_end cut_lf) = short refl (head_short (10 ∷ []) cr_lf refl (lit< tt)) ([], 10 ∷ [], program cr_lf Blocks.none)

pub program-told : {f : Format} → Facts f → {n : ℕ} {b ds w : List ℕ} → ProgramStop f n b ds w → Told f n b ds w
program-told facts (ProgramStop.in_head h) = head-told h
program-told facts (ProgramStop.in_block p q) = block-told facts p q
