-- The round trip: a head and blocks punched behind any accepted tape, within the row limit, read back as they were handed in, with unused places cleared.
use Prim.Native.Nat.{ℕ, ◌+◌, ◌≤◌}
use mathlib.Core.Path.{◌≡◌, refl, ap, ◌∙◌}
use mathlib.Core.Bool.{false}
use mathlib.Core.List.{List, [], ◌∷◌, ◌++◌, append_assoc, append-nil, map}
use native.Mathlib.Omega.{arith}
use lib.Dec.{lit≤}
use lib.ListN.{length, length-append, length-map}
use Rattle.rows.specs.Answer.{taken}
use Rattle.rows.specs.Kept.{kept_from, kept}
use Rattle.rows.specs.ControlOut.{WellFormed}
use Rattle.rows.specs.Passes.{Every, Passes}
use Rattle.rows.specs.Stages.{limit}
use Rattle.rows.proofs.TapesJoined.{passes_append, kept_append}
use Rattle.shorthand.specs.declared.Format.{Format}
use Rattle.shorthand.specs.Layout.{items_of, way_of}
use Rattle.shorthand.specs.Facts.{Facts}
use Rattle.profile.specs.Answers.{agreed}
use Rattle.profile.specs.Relation.{Settled}
use Rattle.profile.proofs.Settling.{settled-exactly, one_format, settled-facts}
use Rattle.reading.specs.declared.Block.{Block}
use Rattle.reading.specs.Record.{start_of, words_of}
use Rattle.reading.specs.Relation.{start_rows, lf, Blocked, none, more, Program, program, chars, TapeOf}
use Rattle.reading.specs.declared.Entry.{Entry}
use Rattle.reading.specs.Answers.{read_under}
use Rattle.reading.proofs.Outcomes.{chars-append}
use Rattle.reading.proofs.Programs.{blocks_of, tape-read, read-tape}
use Rattle.reading.proofs.ReadBlocks.{Last, Entries}
use Rattle.punching.specs.Rows.{row_of, word_rows, block_chars, rows_of, head_rows, cleared}
use Rattle.punching.specs.Fits.{record_fits}
use Rattle.punching.specs.Answers.{block_punched}
use Rattle.punching.proofs.Records.{punched-stands}
use Rattle.reading.proofs.BareRows.{Bare, block-bare}
use Rattle.reading.proofs.BlocksJoined.{program-append}
use Rattle.punching.proofs.PunchedRows.{punched-kept, punched-last, punched-pass}
use Rattle.punching.proofs.Refusals.{block_written}

-- ---- rows behind a tape

-- punched behind a tape, characters are kept as they are
pub chars-punched : {t : List ℕ} → WellFormed t → (cs : List ℕ) → Bare cs → chars (kept (t ++ map row_of cs)) ≡ chars (kept t) ++ cs
chars-punched {t} w cs bare =
    ap chars (kept_append w 0 (map row_of cs)) ∙ chars-append (kept t) _ ∙ ap (λ l. chars (kept t) ++ l) (punched-kept cs bare (0 + length t))

pub rows_pass : {t : List ℕ} → Passes t → (cs : List ℕ) → Bare cs → length (t ++ map row_of cs) ≤ limit → Passes (t ++ map row_of cs)
rows_pass {t} p cs bare h = passes_append p (punched-pass cs bare (omega (arith, length-append t (map row_of cs), length-map cs row_of))) h

module _ (f : Format) (facts : Facts f) (b : Block) (fits : record_fits f b ≡ taken tt) where
  -- every character punched for a record is one of the 50, and neither NUL, DEL, "(" nor ")"
  pub punched-bare : Bare (block_chars f b)
  punched-bare = block-bare facts (punched-stands f facts b fits)

  pub kept-punched : {t : List ℕ} → WellFormed t → chars (kept (t ++ rows_of f b)) ≡ chars (kept t) ++ block_chars f b
  kept-punched w = chars-punched w (block_chars f b) punched-bare

  pub passes-punched : {t : List ℕ} → Passes t → length (t ++ rows_of f b) ≤ limit → Passes (t ++ rows_of f b)
  passes-punched p h = rows_pass p (block_chars f b) punched-bare h

  -- punched from row j on, they are a block that begins at any row i
  pub punched-entry : (i j : ℕ) → Entries f i (record { block = cleared b; from = i; to = j + length (rows_of f b) } ∷ []) (kept_from false j (rows_of f b))
  unfolding block_chars
  punched-entry i j = by (block_chars f b) refl
    where
      ends : {p : ℕ} → Last p (kept_from false j (rows_of f b)) → p + 1 ≡ j + length (rows_of f b)
          → Entries f i (record { block = cleared b; from = i; to = j + length (rows_of f b) } ∷ []) (kept_from false j (rows_of f b))
      ends {p} l e =
          let s = kept_from false j (rows_of f b) in
          let stands : Blocked f (cleared b) (chars s) = rw (punched-kept (block_chars f b) punched-bare j) (punched-stands f facts b fits) in
          let one : Entries f i (record { block = cleared b; from = i; to = p + 1 } ∷ []) (s ++ []) = Entries.more stands l Entries.none in
          rw (← e) (rw append-nil at one)

      by : (cs : List ℕ) → block_chars f b ≡ cs → Entries f i (record { block = cleared b; from = i; to = j + length (rows_of f b) } ∷ []) (kept_from false j (rows_of f b))
      by [] e = absurd (omega (arith, ap length e, length-append (start_rows f.sequence (start_of b)) (word_rows (way_of f) (items_of f) (words_of b) ++ (10 ∷ [])), length-append (word_rows (way_of f) (items_of f) (words_of b)) (10 ∷ [])))
      by (c ∷ cs) e =
          ends {p = j + length cs} (rw e (punched-last c cs (rw e at punched-bare) j)) (rw (length-map (block_chars f b) row_of, e) (omega arith))

  program-punched : {bs : List Block} {t : List ℕ} → WellFormed t → Program f bs (chars (kept t)) → Program f (bs ++ (cleared b ∷ [])) (chars (kept (t ++ rows_of f b)))
  program-punched w q =
      rw (kept-punched w) (program-append q (rw append-nil at (more (punched-stands f facts b fits) none)))

-- ---- tapes as punched

-- the rows of some blocks
abbrev pub punched_blocks : Format → List Block → List ℕ
punched_blocks f [] = []
punched_blocks f (b ∷ bs) = rows_of f b ++ punched_blocks f bs

-- a head, and blocks behind it
abbrev pub punched_tape : Format → List Block → List ℕ
punched_tape f bs = head_rows ++ punched_blocks f bs

-- one block and then more, or all of them at once
pub regrouped : {e : ℕ} {s p : List ℕ} (bs : List Block) (b : Block) (cs : List Block) (t r u : List ℕ) → TapeOf e s p (bs ++ (b ∷ []) ++ cs) (t ++ r ++ u) → TapeOf e s p (bs ++ (b ∷ cs)) (t ++ (r ++ u))
regrouped bs b cs t r u h = rw (append_assoc bs (b ∷ []) cs, append_assoc t r u) at h

-- what is within the limit with more behind it is within the limit
front-short : (t r s : List ℕ) → length (t ++ r ++ s) ≤ limit → length (t ++ r) ≤ limit
front-short t r s h = omega (arith, length-append (t ++ r) s)

-- ---- a block behind a tape

module _ (e : ℕ) (s p : List ℕ) (f : Format) (agrees : agreed e s p ≡ taken f) where
  pub block-appended : {bs : List Block} {t : List ℕ} (b : Block) → TapeOf e s p bs t → record_fits f b ≡ taken tt → length (t ++ rows_of f b) ≤ limit
      → TapeOf e s p (bs ++ (cleared b ∷ [])) (t ++ rows_of f b)
  block-appended {bs} {t} b h fits short =
      let settled : Settled e s p f = (settled-exactly e s p f).0 agrees in
      let same : h.format ≡ f = one_format h.settled settled in
      let facts = settled-facts settled in
      record {
        format = f;
        settled = settled;
        passes = passes-punched f facts b fits h.passes short;
        stands = program-punched f facts b fits h.passes.formed (rw same at h.stands);
      }

  -- ---- blocks behind a tape

  pub blocks-appended : (cs : List Block) {bs : List Block} {t : List ℕ} → TapeOf e s p bs t → Every (λ b. record_fits f b ≡ taken tt) cs → length (t ++ punched_blocks f cs) ≤ limit
      → TapeOf e s p (bs ++ map cleared cs) (t ++ punched_blocks f cs)
  blocks-appended [] {bs} {t} h fits short = rw (append-nil bs, append-nil t) h
  blocks-appended (b ∷ cs) {bs} {t} h fits short =
      let rows = rows_of f b in
      let rest = punched_blocks f cs in
      let within : length (t ++ rows ++ rest) ≤ limit = rw (append_assoc t rows rest) short in
      let next = block-appended b h fits.0 (front-short t rows rest within) in
      regrouped bs (cleared b) (map cleared cs) t rows rest (blocks-appended cs next fits.1 within)

  -- ---- and read back

  -- punched behind any accepted tape, a block reads back behind the old ones
  pub read-appended : (t : List ℕ) (es : List Entry) (b : Block) → read_under e s p t ≡ taken es → record_fits f b ≡ taken tt → length (t ++ rows_of f b) ≤ limit
      → (es' : List Entry) × (read_under e s p (t ++ rows_of f b) ≡ taken es') × (blocks_of es' ≡ blocks_of es ++ (cleared b ∷ []))
  read-appended t es b q fits short = tape-read e s p (t ++ rows_of f b) _ (block-appended b (read-tape e s p t es q) fits short)

-- ---- a whole tape

module _ {e : ℕ} {s p : List ℕ} {f : Format} (settled : Settled e s p f) where
  -- the head alone is the program without blocks
  pub head-tape : TapeOf e s p [] head_rows
  head-tape =
      record {
        format = f;
        settled = settled;
        passes = punched-pass (37 ∷ 10 ∷ []) (tt, (tt, tt)) (lit≤ tt);
        stands = rw (punched-kept (37 ∷ 10 ∷ []) (tt, (tt, tt)) 0) (program lf none);
      }

  pub punched-tape : (bs : List Block) → Every (λ b. record_fits f b ≡ taken tt) bs → length (punched_tape f bs) ≤ limit → TapeOf e s p (map cleared bs) (punched_tape f bs)
  punched-tape bs fits short = blocks-appended e s p f ((settled-exactly e s p f).1 settled) bs head-tape fits short

  -- a head and any number of blocks punched behind it read back as those blocks
  pub punched-read : (bs : List Block) → Every (λ b. record_fits f b ≡ taken tt) bs → length (punched_tape f bs) ≤ limit
      → (es : List Entry) × (read_under e s p (punched_tape f bs) ≡ taken es) × (blocks_of es ≡ map cleared bs)
  punched-read bs fits short = tape-read e s p (punched_tape f bs) (map cleared bs) (punched-tape bs fits short)

-- what is punched for a block under an edition, a shorthand and a profile, behind any tape accepted under them, reads back behind the old blocks
pub punched-back : (e : ℕ) (s p : List ℕ) (b : Block) (buffer r t : List ℕ) (es : List Entry) → block_punched e s p b buffer ≡ taken r → read_under e s p t ≡ taken es → length (t ++ r) ≤ limit
    → (es' : List Entry) × (read_under e s p (t ++ r) ≡ taken es') × (blocks_of es' ≡ blocks_of es ++ (cleared b ∷ []))
punched-back e s p b buffer r t es q accepted short =
    let w = block_written e s p b buffer r q in
    rw w.fitted.rows (read-appended e s p w.format w.agrees t es b accepted w.fitted.fits (rw w.fitted.rows at short))
