-- A walk that fills a page: the lines of the blocks done stand in the buffer, and in the line what is known of the open one.
use mathlib.Core.Path.{◌≡◌, refl, sym, ap, subst, ◌∙◌}
use mathlib.Core.Bool.{Bool, true, false, cond}
use mathlib.Core.List.{List, [], ◌∷◌, ◌++◌, append_assoc, append-nil}
use Prim.Native.Nat.{ℕ, zero, suc, ◌+◌, ◌-◌, ◌*◌, ◌≤◌, ◌<◌, zero-le}
use native.Mathlib.Nat.{le_refl}
use native.Mathlib.Omega.{arith}
use lib.Dec.{leb}
use lib.ListN.{length, take, drop, length-append, replicate}
use lib.Seq.{sets, sets-eq, take_at, take-append_seam, length-take-le}
use borrow.Author.Tests.{le-leb, leb-true, leb-false, ne_eqb}
use Rattle.std.specs.Prelude.{Result, Ok, Err, IfOk}
use Rattle.rows.specs.Answer.{Answer, taken, refused, told}
use Rattle.rows.specs.declared.refusals.Cause.{Cause}
use Rattle.rows.specs.declared.refusals.Refusal.{Refusal}
use Rattle.rows.specs.Kept.{KeptRow}
use Rattle.shorthand.specs.declared.Format.{Format}
use Rattle.words.specs.declared.Word.{Word}
use Rattle.parts.specs.declared.Begun.{Begun}
use Rattle.parts.specs.Starts.{unnumbered}
use Rattle.parts.specs.declared.Rules.{Rules}
use Rattle.steps.specs.declared.Event.{Event}
use Rattle.steps.specs.declared.Event.TheVariants.{Finished, Opened, Out, Read, Closed}
use Rattle.parts.specs.Items.{item_at}
use Rattle.steps.specs.Steps.{Spot, Moved, between, step_at}
use Rattle.reading.specs.Record.{blank as no_word, block_of}
use Rattle.reading.specs.declared.Entry.{Entry}
use Rattle.reading.specs.Parse.{blocks_at}
use Rattle.reading.specs.Front.{Rising}
use Rattle.reading.proofs.StepLaws.{more-come, Under, entry_of, open_in, open-most, effort, Walk, walk-starts, walk-rest, words-few, Further, Goes, goes, halts}
use Rattle.punching.specs.Answers.{after}
use Rattle.text.specs.Line.{Put}
use Rattle.text.specs.Text.{word_text, words_text, start_text}
use Rattle.text.proofs.Puts.{put-none, put-more, put_as, put-length}
use Rattle.pages.specs.declared.Sheet.{Sheet}
use Rattle.lines.specs.Lines.{block_line}
use Rattle.lines.specs.Listing.{block_lines}
use Rattle.pages.specs.Pages.{blocks_from, fitting, end_of, Paged, page_of, page_in, paged, sheet_of, text_of}
use Rattle.pages.specs.Adding.{fits_in, added_to, line_after, full_at}
use Rattle.pages.proofs.OneLine.{line-after-length}

-- ---- texts and places, one more behind

words_more : (ws vs : List Word) → words_text (ws ++ vs) ≡ words_text ws ++ words_text vs
words_more [] vs = refl
words_more (w ∷ ws) vs = ap (λ t. word_text w ++ t) (words_more ws vs) ∙ sym (append_assoc (word_text w) (words_text ws) (words_text vs))

pub lines_more : (n : ℕ) (es fs : List Entry) → block_lines n (es ++ fs) ≡ block_lines n es ++ block_lines n fs
lines_more n [] fs = refl
lines_more n (e ∷ es) fs = ap (λ t. block_line n e.block ++ t) (lines_more n es fs) ∙ sym (append_assoc (block_line n e.block) (block_lines n es) (block_lines n fs))

end_more : (from : ℕ) (es : List Entry) (e : Entry) → end_of from (es ++ (e ∷ [])) ≡ e.to
end_more from [] e = refl
end_more from (x ∷ es) e = end_more x.to es e

-- what stands of a block that has begun, with these words
abbrev begun_text : ℕ → Begun → List Word → List ℕ
begun_text n b ws = start_text n b ++ words_text ws

word-behind : (n : ℕ) (b : Begun) (ws : List Word) (w : Word) → begun_text n b ws ++ word_text w ≡ begun_text n b (ws ++ (w ∷ []))
word-behind n b ws w = rw (words_more ws (w ∷ []), append-nil (word_text w), append_assoc (start_text n b) (words_text ws) (word_text w))

-- with LF behind it, it is the line of the block
line-whole : (n : ℕ) (b : Begun) (ws : List Word) → begun_text n b ws ++ (10 ∷ []) ≡ block_line n (block_of b ws)
line-whole n b ws =
    append_assoc (start_text n b) (words_text ws) (10 ∷ [])
    ∙ ap (λ v. start_text n b ++ (words_text v ++ (10 ∷ []))) (sym (take-append_seam ws (replicate (22 - length ws) no_word)))

-- what was put behind the first bytes of a line
behind-front : {l₀ l cs : List ℕ} {at n : ℕ} → Put l₀ at cs l n → n ≤ length l₀ → take n l ≡ take at l₀ ++ cs
behind-front {l₀} {l} {cs} {at} {n} p h =
    let few = length-take-le at l₀ (omega (arith, p.end, h)) in
    let whole : length (take at l₀ ++ cs) ≡ n = length-append (take at l₀) cs ∙ omega (arith, few, p.end) in
    rw (p.bytes, sets-eq cs l₀ at (omega (arith, p.end, h))) (take_at (take at l₀ ++ cs) (drop (at + length cs) l₀) n whole)

-- what was put at the front of a line, before the old rest
front_of : {l₀ l cs : List ℕ} {n : ℕ} → Put l₀ 0 cs l n → n ≤ length l₀ → l ≡ cs ++ drop (length cs) l₀
front_of {l₀} {l} {cs} {n} p h =
    let z : 0 + length cs ≡ length cs = omega arith in
    p.bytes ∙ sets-eq cs l₀ 0 (omega (arith, p.end, h)) ∙ ap (λ k. cs ++ drop k l₀) z

-- ---- the lines that fit

module _ (n : ℕ) where
  abbrev line_size : Entry → ℕ
  line_size e = length (block_line n e.block)

  lines-size : (e : Entry) (es : List Entry) → length (block_lines n (e ∷ es)) ≡ line_size e + length (block_lines n es)
  lines-size e es = length-append (block_line n e.block) (block_lines n es)

  -- those that fit one behind another, and then as many as fit behind them
  fits-done : (done rest : List Entry) (size : ℕ) → length (block_lines n done) ≤ size → fitting n size (done ++ rest) ≡ done ++ fitting n (size - length (block_lines n done)) rest
  fits-done [] rest size h = ap (λ k. fitting n k rest) (omega arith)
  fits-done (d ∷ ds) rest size h =
      let e = lines-size d ds in
      let l : line_size d ≤ size = omega (arith, e, h) in
      let z : size - line_size d - length (block_lines n ds) ≡ size - length (block_lines n (d ∷ ds)) = omega (arith, e) in
      rw (le-leb (line_size d) size l) (ap (λ x. d ∷ x) (fits-done ds rest (size - line_size d) (omega (arith, e, h)) ∙ ap (λ k. ds ++ fitting n k rest) z))

  -- the first of these is longer than what is left
  abbrev FullAt : ℕ → List Entry → Type 0
  FullAt size [] = Unit {0}
  FullAt size (e ∷ es) = size < line_size e

  fits-none : (size : ℕ) (rest : List Entry) → FullAt size rest → fitting n size rest ≡ []
  fits-none size [] h = refl
  fits-none size (e ∷ es) h = by (leb (line_size e) size) refl
    where
      by : (b : Bool) → leb (line_size e) size ≡ b → cond b (e ∷ fitting n (size - line_size e) es) [] ≡ []
      by true q = absurd (omega (arith, h, leb-true (line_size e) size q))
      by false q = refl

  -- a page of the blocks done, before the rest
  abbrev cut : ℕ → List Entry → List Entry → Answer Paged
  cut from [] [] = taken (page_of n from [])
  cut from [] (e ∷ es) = refused 19 (line_size e)
  cut from (d ∷ ds) rest = taken (page_of n from (d ∷ ds))

  cut-is : (from : ℕ) (done rest : List Entry) → page_in n from (done ++ rest) (done ++ []) ≡ cut from done rest
  cut-is from [] [] = refl
  cut-is from [] (e ∷ es) = refl
  cut-is from (d ∷ ds) rest = rw (append-nil ds)

  -- the same as a page in code
  abbrev cut_page : Sheet → List Entry → List Entry → Result Sheet Refusal
  cut_page s [] [] = Ok s
  cut_page s [] (e ∷ es) = Err (record { cause = Cause.Room; place = line_size e })
  cut_page s (d ∷ ds) rest = Ok s

  cut-told : (s : Sheet) (from : ℕ) (done rest : List Entry) → s ≡ record { blocks = length done; bytes = length (block_lines n done); next = end_of from done }
      → told (cut_page s done rest) ≡ sheet_of (cut from done rest)
  cut-told s from [] [] e = ap taken e
  cut-told s from [] (x ∷ xs) e = refl
  cut-told s from (d ∷ ds) rest e = ap taken e

  cut-text : (from : ℕ) (l l₀ : List ℕ) (done rest : List Entry) → l ≡ block_lines n done ++ drop (length (block_lines n done)) l₀ → l ≡ after l₀ (text_of (cut from done rest))
  cut-text from l l₀ [] [] e = e
  cut-text from l l₀ [] (x ∷ xs) e = e
  cut-text from l l₀ (d ∷ ds) rest e = e

  cut-size : (s : Sheet) (k : ℕ) (done rest : List Entry) → s.bytes ≤ k → IfOk (cut_page s done rest) (λ x. x.bytes ≤ k)
  cut-size s k [] [] h = h
  cut-size s k [] (x ∷ xs) h = tt
  cut-size s k (d ∷ ds) rest h = h

  cut-over : (s : Sheet) (done : List Entry) → Ok s ≡ cut_page s done []
  cut-over s [] = refl
  cut-over s (d ∷ ds) = refl

  cut-full : (s : Sheet) (done : List Entry) (e : Entry) (rest : List Entry) (k : ℕ) → s.blocks ≡ length done → k ≡ line_size e → full_at s k ≡ cut_page s done (e ∷ rest)
  cut-full s [] e rest k q z = rw (q, z)
  cut-full s (d ∷ ds) e rest k q z = rw (ne_eqb s.blocks 0 (λ o. omega (arith, o, q)))

  page-cut : (from size : ℕ) (done rest : List Entry) → length (block_lines n done) ≤ size → FullAt (size - length (block_lines n done)) rest
      → page_in n from (done ++ rest) (fitting n size (done ++ rest)) ≡ cut from done rest
  page-cut from size done rest h l = rw (fits-done done rest size h, fits-none _ rest l) (cut-is from done rest)

-- ---- the walk

module _ (len : ℕ) (f : Format) (first : ℕ) (start : List KeptRow) (l₀ : List ℕ) where
  -- what stands of the open block in the line, and the most bytes that it may have
  abbrev Begins : ℕ → Begun → List Word → List ℕ → ℕ → Type 0
  Begins zero b ws line used = Unit {0}
  Begins (suc k) b ws line used = (take used line ≡ begun_text f.sequence b ws) × (used ≡ length (begun_text f.sequence b ws)) × (used ≤ f.sequence + 24 + 23 * length ws)

  pub record Pages (s : Spot) (sheet : Sheet) (l line : List ℕ) (used : ℕ) : Type 0 where
    pub done : List Entry
    pub begun : Begun
    pub words : List Word
    pub fuel : ℕ
    pub walk : Walk len f (length start) first start done begun words fuel sheet.next s
    pub counted : sheet.blocks ≡ length done
    pub ends : sheet.next ≡ end_of first done
    pub put : Put l₀ 0 (block_lines f.sequence done) l sheet.bytes
    pub within : sheet.bytes ≤ length l₀
    pub some : sheet.blocks ≤ sheet.bytes
    pub room : length line ≡ 540
    pub begins : Begins (open_in s.stage) begun words line used

  pub none_yet : (line : List ℕ) (used : ℕ) → length line ≡ 540 → Rising len first start → Pages (between start) (record { blocks = 0; bytes = 0; next = first }) l₀ line used
  none_yet line used e h =
      let b : Begun = unnumbered false in
      record {
        done = [];
        begun = b;
        words = [];
        fuel = length start;
        walk = walk-starts len f (length start) first start b h;
        counted = refl;
        ends = refl;
        put = put-none l₀ 0;
        within = zero-le;
        some = zero-le;
        room = e;
        begins = tt;
      }

  -- the page's answer, for the blocks that are left
  abbrev pub answer : List Entry → Answer Paged
  answer es = page_in f.sequence first es (fitting f.sequence (length l₀) es)

  -- what the walk answers, leaves in the buffer, and how many bytes it says to be there
  abbrev pub Says : List Entry → Result Sheet Refusal → List ℕ → Type 0
  Says es page l = (told page ≡ sheet_of (answer es)) × ((l ≡ after l₀ (text_of (answer es))) × (IfOk page (λ s. s.bytes ≤ length l₀)))

  abbrev Nearer : ℕ → Spot → ℕ → Spot → Type 0
  Nearer next v was s = effort len next v.stage v.item < effort len was s.stage s.item

  -- what a block's end asks of the line and the page, and what a line more leaves
  pub record Ends (es : List Entry) (s : Spot) (sheet : Sheet) (l line : List ℕ) (used : ℕ) (v : Spot) (lf : ℕ) : Type 0 where
    pub lf-within : lf < len
    pub used-room : used < length line
    pub page-room : (sheet.blocks ≤ sheet.bytes) × (sheet.bytes ≤ length l)
    pub listed : (more : Sheet) (l₂ line₂ : List ℕ) → Ok more ≡ added_to used (length l) sheet (lf + 1) → length line₂ ≡ length line → l₂ ≡ line_after line used l sheet
        → Pages v more l₂ line₂ used
    pub nearer : (more : Sheet) → Ok more ≡ added_to used (length l) sheet (lf + 1) → Nearer more.next v sheet.next s
    pub as_long : (l₂ : List ℕ) → l₂ ≡ line_after line used l sheet → length l₂ ≡ length l₀
    pub filled : (k : ℕ) (l₂ : List ℕ) → Err k ≡ added_to used (length l) sheet (lf + 1) → l₂ ≡ line_after line used l sheet → (page : Result Sheet Refusal) → page ≡ full_at sheet k → Says es page l₂

  -- what holds behind a step
  abbrev pub After : List Entry → Spot → Sheet → List ℕ → List ℕ → ℕ → Spot → Event → Type 0
  After es s sheet l line used v Finished = Says es (Ok sheet) l
  After es s sheet l line used v (Opened b) =
      (0 + f.sequence + 24 ≤ length line)
      × ((line₂ : List ℕ) (n : ℕ) → Put line 0 (start_text f.sequence b) line₂ n → n ≤ 0 + f.sequence + 24 → Pages v sheet l line₂ n)
      × Nearer sheet.next v sheet.next s
  After es s sheet l line used v Out = Pages v sheet l line used × Nearer sheet.next v sheet.next s
  After es s sheet l line used v (Read w) =
      (used + 23 ≤ length line) × ((line₂ : List ℕ) (n : ℕ) → Put line used (word_text w) line₂ n → n ≤ used + 23 → Pages v sheet l line₂ n) × Nearer sheet.next v sheet.next s
  After es s sheet l line used v (Closed lf) = Ends es s sheet l line used v lf

  module _ (es : List Entry) (left : blocks_at (length start) len f first start ≡ taken es) where
    -- the page is the lines done, before the rest
    says : {s : Spot} {sheet : Sheet} {l line : List ℕ} {used : ℕ} (g : Pages s sheet l line used) (rest : List Entry) → es ≡ g.done ++ rest
        → FullAt f.sequence (length l₀ - sheet.bytes) rest → (page : Result Sheet Refusal) → page ≡ cut_page f.sequence sheet g.done rest → Says es page l
    says {sheet = sheet} {l = l} g rest e full page q =
        let size : sheet.bytes ≡ length (block_lines f.sequence g.done) = g.put.end ∙ omega arith in
        let few : length (block_lines f.sequence g.done) ≤ length l₀ = omega (arith, size, g.within) in
        let a : answer es ≡ cut f.sequence first g.done rest =
        ap answer e ∙ page-cut f.sequence first (length l₀) g.done rest few (subst (λ k. FullAt f.sequence (length l₀ - k) rest) size full) in
        let same : sheet ≡ record { blocks = length g.done; bytes = length (block_lines f.sequence g.done); next = end_of first g.done } = rw (← g.counted, ← size, ← g.ends) in
        rw (a, q) (cut-told f.sequence sheet first g.done rest same, (cut-text f.sequence first l l₀ g.done rest (front_of g.put g.within), cut-size f.sequence sheet (length l₀) g.done rest g.within))

    module _ {u : Rules} {leads : List ℕ} (h : Under f u leads) {s : Spot} {sheet : Sheet} {l line : List ℕ} {used : ℕ} (g : Pages s sheet l line used) where
      abbrev next : ℕ
      next = sheet.next

      abbrev done_with : ℕ → List Entry
      done_with lf = g.done ++ (entry_of sheet.next g.begun g.words lf ∷ [])

      longer : (lf : ℕ) → length (done_with lf) ≡ length g.done + 1
      longer lf = length-append g.done (entry_of sheet.next g.begun g.words lf ∷ [])

      same : length l ≡ length l₀
      same = put-length g.put

      -- a step behind which as many blocks are open
      still : {v : Spot} → open_in v.stage ≡ open_in s.stage → Walk len f (length start) first start g.done g.begun g.words g.fuel sheet.next v → Pages v sheet l line used
      still e w =
          record {
            done = g.done;
            begun = g.begun;
            words = g.words;
            fuel = g.fuel;
            walk = w;
            counted = g.counted;
            ends = g.ends;
            put = g.put;
            within = g.within;
            some = g.some;
            room = g.room;
            begins = rw e g.begins;
          }

      opens : (v : Spot) (b : Begun) → (less : ℕ) → g.fuel ≡ suc less → Further len f (length start) first start g.done b [] less next next s v → After es s sheet l line used v (Opened b)
      opens v b less q o =
          let most-s = open-most s.stage in
          let most-v = open-most v.stage in
          let opened : open_in v.stage ≡ 1 = omega (arith, g.walk.room, q, o.walk.room, most-s, most-v) in
          let wide : 0 + f.sequence + 24 ≤ length line = omega (arith, g.room, h.facts.sequence.1) in (
            wide,
            (λ line₂ n p k. record {
              done = g.done;
              begun = b;
              words = [];
              fuel = less;
              walk = o.walk;
              counted = g.counted;
              ends = g.ends;
              put = g.put;
              within = g.within;
              some = g.some;
              room = put-length p ∙ g.room;
              begins = rw opened (behind-front p (omega (arith, wide, k)) ∙ sym (append-nil _), omega (arith, p.end, ap length (append-nil (start_text f.sequence b))), omega (arith, k));
            }),
            o.nearer,
          )

      -- what stands of the open block
      stands : open_in s.stage ≡ 1
          → (take used line ≡ begun_text f.sequence g.begun g.words) × (used ≡ length (begun_text f.sequence g.begun g.words)) × (used ≤ f.sequence + 24 + 23 * length g.words)
      stands e = subst (λ k. Begins k g.begun g.words line used) e g.begins

      reads : (v : Spot) (w : Word) → Further len f (length start) first start g.done g.begun (g.words ++ (w ∷ [])) g.fuel next next s v → length g.words < f.count → open_in s.stage ≡ 1
          → After es s sheet l line used v (Read w)
      reads v w o few e =
          let opened : open_in v.stage ≡ 1 = omega (arith, g.walk.room, o.walk.room, e) in
          let t = stands e in
          let more : length (g.words ++ (w ∷ [])) ≡ length g.words + 1 = length-append g.words (w ∷ []) in
          let wide : used + 23 ≤ length line = omega (arith, g.room, t.2, few, h.facts.few, h.facts.sequence.1) in (
            wide,
            (λ line₂ n p k. record {
              done = g.done;
              begun = g.begun;
              words = g.words ++ (w ∷ []);
              fuel = g.fuel;
              walk = o.walk;
              counted = g.counted;
              ends = g.ends;
              put = g.put;
              within = g.within;
              some = g.some;
              room = put-length p ∙ g.room;
              begins =
                  rw opened (
                    behind-front p (omega (arith, wide, k)) ∙ ap (λ x. x ++ word_text w) t.0 ∙ word-behind f.sequence g.begun g.words w,
                    omega (arith, p.end, t.1, length-append (begun_text f.sequence g.begun g.words) (word_text w), ap length (word-behind f.sequence g.begun g.words w)),
                    omega (arith, t.2, k, more),
                  );
            }),
            o.nearer,
          )

      closes : (v : Spot) (lf : ℕ) → Further len f (length start) first start (done_with lf) g.begun g.words g.fuel (lf + 1) next s v → lf < len → Ends es s sheet l line used v lf
      closes v lf o below =
          let most-s = open-most s.stage in
          let most-v = open-most v.stage in
          let more = longer lf in
          let opened : open_in s.stage ≡ 1 = omega (arith, g.walk.room, o.walk.room, more, most-s, most-v) in
          let shut : open_in v.stage ≡ 0 = omega (arith, g.walk.room, o.walk.room, more, most-s, most-v) in
          let t = stands opened in
          let few = words-few len f (length start) first start g.walk opened in
          let line-is : take used line ++ (10 ∷ []) ≡ block_line f.sequence (block_of g.begun g.words) = ap (λ x. x ++ (10 ∷ [])) t.0 ∙ line-whole f.sequence g.begun g.words in
          let size : length (block_line f.sequence (block_of g.begun g.words)) ≡ used + 1 =
          ap length (sym (line-whole f.sequence g.begun g.words)) ∙ length-append (begun_text f.sequence g.begun g.words) (10 ∷ []) ∙ omega (arith, t.1) in
          record {
            lf-within = below;
            used-room = omega (arith, g.room, t.2, few, h.facts.few, h.facts.sequence.1);
            page-room = (g.some, omega (arith, g.within, same));
            listed = λ sh l₂ line₂ q e r. by-listed shut line-is size o sh l₂ line₂ (fits_in used (length l) sheet) refl q e r;
            nearer = λ sh q. by-nearer o sh (fits_in used (length l) sheet) q;
            as_long = λ l₂ r. ap length r ∙ line-after-length line used l sheet ∙ same;
            filled = λ k l₂ q r page z. by-full line-is size o k l₂ (fits_in used (length l) sheet) refl q r page z;
          }
        where
          by-listed : open_in v.stage ≡ 0 → take used line ++ (10 ∷ []) ≡ block_line f.sequence (block_of g.begun g.words) → length (block_line f.sequence (block_of g.begun g.words)) ≡ used + 1
              → Further len f (length start) first start (done_with lf) g.begun g.words g.fuel (lf + 1) next s v → (sh : Sheet) (l₂ line₂ : List ℕ) (b : Bool) → fits_in used (length l) sheet ≡ b
              → ◌≡◌ {A = Result Sheet ℕ} (Ok sh) (cond b (Ok (record { blocks = sheet.blocks + 1; bytes = sheet.bytes + (used + 1); next = lf + 1 })) (Err (used + 1))) → length line₂ ≡ length line
              → l₂ ≡ cond b (sets l sheet.bytes (take used line ++ (10 ∷ []))) l → Pages v sh l₂ line₂ used
          by-listed shut line-is size o sh l₂ line₂ false q z e r = let w : ◌≡◌ {A = ℕ} 0 1 = cc in absurd (omega (arith, w))
          by-listed shut line-is size o sh l₂ line₂ true q z e r =
              let is : sh ≡ record { blocks = sheet.blocks + 1; bytes = sheet.bytes + (used + 1); next = lf + 1 } = cc in
              let room = leb-true (used + 1) (length l - sheet.bytes) q in
              let line-put : Put l sheet.bytes (block_line f.sequence (block_of g.begun g.words) ++ []) l₂ (sheet.bytes + (used + 1)) =
              record { end = omega (arith, size, ap length (append-nil (block_line f.sequence (block_of g.begun g.words)))); bytes = r ∙ ap (sets l sheet.bytes) (line-is ∙ sym (append-nil _)) } in
              rw is
              (record {
                done = done_with lf;
                begun = g.begun;
                words = g.words;
                fuel = g.fuel;
                walk = o.walk;
                counted = omega (arith, g.counted, longer lf);
                ends = sym (end_more first g.done (entry_of next g.begun g.words lf));
                put = put_as (sym (lines_more f.sequence g.done (entry_of next g.begun g.words lf ∷ []))) (put-more g.put line-put);
                within = omega (arith, room, same, g.within);
                some = omega (arith, g.some);
                room = e ∙ g.room;
                begins = rw shut tt;
              })

          by-nearer : Further len f (length start) first start (done_with lf) g.begun g.words g.fuel (lf + 1) next s v → (sh : Sheet) (b : Bool)
              → ◌≡◌ {A = Result Sheet ℕ} (Ok sh) (cond b (Ok (record { blocks = sheet.blocks + 1; bytes = sheet.bytes + (used + 1); next = lf + 1 })) (Err (used + 1))) → Nearer sh.next v next s
          by-nearer o sh false z = let w : ◌≡◌ {A = ℕ} 0 1 = cc in absurd (omega (arith, w))
          by-nearer o sh true z = let is : sh ≡ record { blocks = sheet.blocks + 1; bytes = sheet.bytes + (used + 1); next = lf + 1 } = cc in rw is o.nearer

          by-full : take used line ++ (10 ∷ []) ≡ block_line f.sequence (block_of g.begun g.words) → length (block_line f.sequence (block_of g.begun g.words)) ≡ used + 1
              → Further len f (length start) first start (done_with lf) g.begun g.words g.fuel (lf + 1) next s v → (k : ℕ) (l₂ : List ℕ) (b : Bool) → fits_in used (length l) sheet ≡ b
              → ◌≡◌ {A = Result Sheet ℕ} (Err k) (cond b (Ok (record { blocks = sheet.blocks + 1; bytes = sheet.bytes + (used + 1); next = lf + 1 })) (Err (used + 1)))
              → l₂ ≡ cond b (sets l sheet.bytes (take used line ++ (10 ∷ []))) l → (page : Result Sheet Refusal) → page ≡ full_at sheet k → Says es page l₂
          by-full line-is size o k l₂ true q z r page w = let x : ◌≡◌ {A = ℕ} 0 1 = cc in absurd (omega (arith, x))
          by-full line-is size o k l₂ false q z r page w =
              let is : k ≡ used + 1 = cc in
              let e = entry_of next g.begun g.words lf in
              let rest = walk-rest len f (length start) first start o.walk left in
              let whole : es ≡ g.done ++ (e ∷ rest.0) = rest.1 ∙ append_assoc g.done (e ∷ []) rest.0 in
              let long = leb-false (used + 1) (length l - sheet.bytes) q in
              rw r (says g (e ∷ rest.0) whole (omega (arith, long, size, same)) page (w ∙ cut-full f.sequence sheet g.done e rest.0 k g.counted (is ∙ sym size)))

      pub page-on : (m : Moved) → taken m ≡ step_at len u leads (item_at f s.item) s → (e : Event) → m.event ≡ e → After es s sheet l line used m.spot e
      page-on m q e r = by e (goes len f (length start) first start h g.walk (more-come len f (length start) first start g.walk (le_refl _)) m q e r)
        where
          by : (v : Event) → Goes len f (length start) first start g.done g.begun g.words g.fuel next s m.spot v → After es s sheet l line used m.spot v
          by Finished o = let is : es ≡ g.done = (let z = sym left ∙ o.0 in cc) in says g [] (is ∙ sym (append-nil g.done)) tt (Ok sheet) (cut-over f.sequence sheet g.done)
          by (Opened b) o = opens m.spot b o.0 o.1 o.2
          by Out o = (still (omega (arith, g.walk.room, o.walk.room)) o.walk, o.nearer)
          by (Read w) o = reads m.spot w o.0 o.1 o.2
          by (Closed lf) o = closes m.spot lf o.0 o.2

      -- no step of an accepted tape is refused
      pub never-refused : (n p : ℕ) → refused n p ≡ step_at len u leads (item_at f s.item) s → ⊥
      never-refused n p e =
          let z = sym left ∙ halts len f (length start) first start h g.walk (more-come len f (length start) first start g.walk (le_refl _)) n p e in
          let w : ◌≡◌ {A = ℕ} 0 1 = cc in absurd (omega (arith, w))

-- ---- the page by what is left

pub paged-are : (f : Format) (size : ℕ) (t : List ℕ) (from : ℕ) (es : List Entry) → blocks_from f t from ≡ taken es → paged f size t from ≡ page_in f.sequence from es (fitting f.sequence size es)
unfolding paged
paged-are f size t from es e = rw e
