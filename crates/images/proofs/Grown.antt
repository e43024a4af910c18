-- A block appended to an image: the image is then a tape of the old blocks and that one, and its rows went where they should.
use Prim.Native.Nat.{ℕ, zero, suc, ◌+◌, ◌≤◌, ◌<◌, zero-le}
use mathlib.Core.Path.{◌≡◌, refl, sym, ap, ◌∙◌, subst}
use mathlib.Core.Bool.{Bool, true, false, ◌||◌, cond, false≢true}
use mathlib.Core.Logic.{◌⊎◌, inl, inr}
use mathlib.Core.List.{List, [], ◌∷◌, ◌++◌, append_assoc, append-nil}
use native.Mathlib.Nat.{le_of_suc-le-suc}
use native.Mathlib.Omega.{arith}
use lib.Dec.{eqb, leb}
use lib.ListN.{length, take, drop, length-append, length-drop, length-map, take-append-drop}
use lib.Seq.{length-take-le, take-length}
use borrow.Author.Tests.{leb-true, leb-false, eqb-true}
use Rattle.rows.specs.Answer.{taken, ◌>>◌}
use Rattle.rows.specs.Kept.{kept_from}
use Rattle.rows.specs.Passes.{Every, Passes}
use Rattle.rows.specs.Stages.{limit}
use Rattle.rows.proofs.Blanks.{Blank, past-blanks, blanks-formed}
use Rattle.rows.proofs.FormedBehind.{parts-pass}
use Rattle.rows.proofs.TapesJoined.{passes_append, kept_append}
use Rattle.shorthand.specs.declared.Format.{Format}
use Rattle.shorthand.specs.Facts.{Facts}
use Rattle.reading.specs.declared.Block.{Block}
use Rattle.reading.specs.declared.Entry.{Entry}
use Rattle.reading.specs.Answers.{read}
use Rattle.reading.specs.Survey.{Surveyed, surveyed}
use Rattle.reading.proofs.Outcomes.{never}
use Rattle.reading.proofs.Programs.{from-taken, both-taken}
use Rattle.reading.proofs.ReadBlocks.{Entries}
use Rattle.reading.proofs.Exchanged.{Cut, behind-last, exchanged}
use Rattle.reading.proofs.Surveys.{cut-last}
use Rattle.punching.specs.Rows.{row_of, block_chars, rows_of, cleared}
use Rattle.punching.specs.Fits.{unless, record_fits}
use Rattle.punching.specs.Answers.{measured_for}
use Rattle.punching.proofs.Measures.{measured-fit}
use Rattle.punching.proofs.PunchedRows.{punched-pass}
use Rattle.punching.proofs.PunchedTapes.{punched-bare, punched-entry}
use Rattle.index.specs.Index.{index_room}
use Rattle.index.proofs.Indexing.{room-both}
use Rattle.images.specs.declared.Site.{Site}
use Rattle.images.specs.Images.{is_blank, blanks, sited_after, sited, Append, append_for, pasted, buffer_grown}
use Rattle.images.proofs.Pasting.{pasted-within, pasted-behind}

-- ---- blank rows

blank-is : (b : ℕ) → is_blank b ≡ true → Blank b
blank-is b e = by (eqb b 0) refl (eqb b 255) refl e
  where
    by : (x : Bool) → eqb b 0 ≡ x → (y : Bool) → eqb b 255 ≡ y → (x || y) ≡ true → Blank b
    by true p y q h = inl (eqb-true b 0 p)
    by false p true q h = inr (eqb-true b 255 q)
    by false p false q h = absurd (false≢true h)

is-blank : (b : ℕ) → Blank b → is_blank b ≡ true
is-blank b (inl e) = rw e
is-blank b (inr e) = rw e

-- n rows go into blank ones: there are as many, and each is blank
abbrev pub Fit : ℕ → List ℕ → Type 0
Fit n t = (n ≤ length t) × Every Blank (take n t)

pub blanks-fit : (n : ℕ) (t : List ℕ) → n ≤ blanks t → Fit n t
unfolding blanks
blanks-fit zero t h = (zero-le, tt)
blanks-fit (suc n) [] h = absurd (omega arith)
blanks-fit (suc n) (b ∷ t) h = by (λ l. blanks-fit n t l) (is_blank b) refl h
  where
    by : (n ≤ blanks t → Fit n t) → (x : Bool) → is_blank b ≡ x → suc n ≤ cond x (suc (blanks t)) 0 → Fit (suc n) (b ∷ t)
    by turn true e l = let k = turn (le_of_suc-le-suc l) in (omega (arith, k.0), (blank-is b e, k.1))
    by turn false e l = absurd (omega (arith, l))

pub fit-blanks : (n : ℕ) (t : List ℕ) → Fit n t → n ≤ blanks t
unfolding blanks
fit-blanks zero t h = zero-le
fit-blanks (suc n) [] h = absurd (omega (arith, h.0))
fit-blanks (suc n) (b ∷ t) h = rw (is-blank b h.1.0) (omega (arith, fit-blanks n t (le_of_suc-le-suc h.0, h.1.1)))

-- ---- where they go

-- after the last row, where image and buffer have room
pub record After (t : List ℕ) (capacity n : ℕ) (s : Site) : Type 0 where
  pub at : s.at ≡ length t
  pub rows : s.rows ≡ length t + n
  pub short : length t + n ≤ limit
  pub room : length t + n ≤ capacity

-- into blank rows, and the image stays as long
pub record Into (t : List ℕ) (from n : ℕ) (s : Site) : Type 0 where
  pub at : s.at ≡ from
  pub rows : s.rows ≡ length t
  pub fits : Fit n (drop from t)

module _ (t : List ℕ) (from capacity n : ℕ) where
  after-taken : {s : Site} → sited_after t capacity n ≡ taken s → After t capacity n s
  after-taken {s} q = by (leb (length t + n) limit) refl (leb (length t + n) capacity) refl q
    where
      by : (x : Bool) → leb (length t + n) limit ≡ x → (y : Bool) → leb (length t + n) capacity ≡ y
          → (unless x 4 limit >> unless y 19 (length t + n) >> taken (record { at = length t; rows = length t + n })) ≡ taken s → After t capacity n s
      by true h true k e =
          let z : record { at = length t; rows = length t + n } ≡ s = cc in
          subst (After t capacity n) z (record { at = refl; rows = refl; short = leb-true _ limit h; room = leb-true _ capacity k })
      by true h false k e = never e
      by false h y k e = never e

  -- one or the other
  pub sited-by : {s : Site} → sited t from capacity n ≡ taken s → Into t from n s ⊎ ((Fit n (drop from t) → ⊥) × After t capacity n s)
  sited-by {s} q = by (leb n (blanks (drop from t))) refl q
    where
      by : (x : Bool) → leb n (blanks (drop from t)) ≡ x → cond x (taken (record { at = from; rows = length t })) (sited_after t capacity n) ≡ taken s
          → Into t from n s ⊎ ((Fit n (drop from t) → ⊥) × After t capacity n s)
      by true h e =
          let z : record { at = from; rows = length t } ≡ s = cc in
          inl (subst (Into t from n) z (record { at = refl; rows = refl; fits = blanks-fit n (drop from t) (leb-true n _ h) }))
      by false h e = inr ((λ w. omega (arith, leb-false n _ h, fit-blanks n (drop from t) w)), after-taken e)

-- ---- what was judged before

-- the blocks of the tape, the record's rows, room for one entry more, and where the rows go
pub record Appends (f : Format) (t : List ℕ) (capacity firsts numbers : ℕ) (b : Block) (a : Append) : Type 0 where
  pub survey : Surveyed
  pub surveys : surveyed f t ≡ taken survey
  pub fits : record_fits f b ≡ taken tt
  pub rows : a.punched ≡ rows_of f b
  pub size : a.plan.size ≡ length (rows_of f b)
  pub blocks : a.plan.blocks ≡ length survey.entries
  pub first : a.plan.first ≡ survey.last.to
  pub roomy : (length survey.entries < firsts) × (length survey.entries < numbers)
  pub site : Site
  pub sits : sited t survey.last.to capacity (length (rows_of f b)) ≡ taken site
  pub at : a.plan.at ≡ site.at
  pub long : a.plan.rows ≡ site.rows

module _ (f : Format) (t : List ℕ) (capacity firsts numbers : ℕ) (b : Block) where
  pub append-taken : {a : Append} → append_for f t capacity firsts numbers b ≡ taken a → Appends f t capacity firsts numbers b a
  unfolding append_for
  append-taken {a} q =
      let x = from-taken (surveyed f t) _ a q in
      let n = from-taken (measured_for f b) _ a x.2 in
      let r = both-taken (index_room (suc (length x.0.entries)) firsts numbers) _ a n.2 in
      let s = from-taken (sited t x.0.last.to capacity n.0) _ a r.1 in
      let fit = measured-fit f b n.0 n.1 in
      let same : ◌≡◌ {A = Append} (record { plan = record { blocks = length x.0.entries; first = x.0.last.to; at = s.0.at; size = n.0; rows = s.0.rows }; punched = rows_of f b }) a =
      let z = s.2 in cc in
      subst (Appends f t capacity firsts numbers b) same
      (record {
        survey = x.0;
        surveys = x.1;
        fits = fit.0;
        rows = refl;
        size = sym fit.1;
        blocks = refl;
        first = refl;
        roomy = room-both (suc (length x.0.entries)) firsts numbers (sym r.0);
        site = s.0;
        sits = ap (sited t x.0.last.to capacity) fit.1 ∙ s.1;
        at = refl;
        long = refl;
      })

-- ---- the image then

-- the entry of the new block: from just after the last end to its own LF
abbrev pub new_entry : Block → Append → Entry
new_entry b a = record { block = cleared b; from = a.plan.first; to = a.plan.at + length a.punched }

-- the image then, where it was the first rows of a buffer
abbrev pub image_grown : List ℕ → Append → List ℕ
image_grown buffer a = take a.plan.rows (buffer_grown buffer (taken a))

module _ {f : Format} (facts : Facts f) (b : Block) (fits : record_fits f b ≡ taken tt) where
  abbrev rows : List ℕ
  rows = rows_of f b

  rows_pass : length rows ≤ limit → Passes rows
  rows_pass l = punched-pass (block_chars f b) (punched-bare f facts b fits) (omega (arith, l, length-map (block_chars f b) row_of))

  module _ {t : List ℕ} {es : List Entry} {i : ℕ} (c : Cut f t es (length es) i) where
    -- put into blank rows just after the last end
    read-into : Fit (length rows) (drop i t) → read f (pasted t i rows) ≡ taken (es ++ (record { block = cleared b; from = i; to = i + length rows } ∷ []))
    read-into fit =
        let n = length rows in
        let z = take n (drop i t) in
        let w = drop n (drop i t) in
        let split : z ++ w ≡ drop i t = take-append-drop n (drop i t) in
        let long : length z ≡ n = length-take-le n (drop i t) fit.0 in
        let size = length-drop i t in
        let rest = length-drop n (drop i t) in
        let short = c.passes.short in
        let within = c.within in
        let clear : kept_from false (i + n) w ≡ [] =
        ap (λ k. kept_from false (i + k) w) (sym long) ∙ sym (past-blanks false i z w fit.1) ∙ ap (kept_from false i) split ∙ behind-last c (omega arith) in
        let passes : Passes w = (parts-pass {a = z} {u = w} (blanks-formed z fit.1) (subst Passes (sym split) c.behind)).1 in
        let joined = length-append rows w in
        let kept : kept_from false i (rows ++ w) ≡ kept_from false i rows =
        kept_append (rows_pass (omega (arith, fit.0, size, short))).formed i w ∙ rw clear (append-nil (kept_from false i rows)) in
        let fresh : Entries f i (record { block = cleared b; from = i; to = i + length rows } ∷ []) (kept_from false i (rows ++ w)) = rw kept (punched-entry f facts b fits i i) in
        exchanged facts c (rows ++ w) (passes_append (rows_pass (omega (arith, fit.0, size, short))) passes (omega (arith, fit.0, size, short, rest, joined)))
        (omega (arith, fit.0, size, short, rest, joined, within)) fresh ∙ rw (take-length es)

    -- put behind the last row
    read_behind : length t + length rows ≤ limit → read f (t ++ rows) ≡ taken (es ++ (record { block = cleared b; from = i; to = length t + length rows } ∷ []))
    read_behind l =
        let u = drop i t in
        let size = length-drop i t in
        let within = c.within in
        let joined = length-append u rows in
        let end : i + length u ≡ length t = omega (arith, size, within) in
        let kept : kept_from false i (u ++ rows) ≡ kept_from false (length t) rows =
        kept_append c.behind.formed i rows ∙ rw (behind-last c (omega arith), end) in
        let whole : take i t ++ (u ++ rows) ≡ t ++ rows = sym (append_assoc (take i t) u rows) ∙ ap (λ v. v ++ rows) (take-append-drop i t) in
        let fresh : Entries f i (record { block = cleared b; from = i; to = length t + length rows } ∷ []) (kept_from false i (u ++ rows)) =
        rw kept (punched-entry f facts b fits i (length t)) in
        ap (read f) (sym whole)
        ∙ exchanged facts c (u ++ rows) (passes_append c.behind (rows_pass (omega arith)) (omega (arith, joined, size, l))) (omega (arith, joined, end, l)) fresh
        ∙ rw (take-length es)

-- after an append the image is read as the old blocks and the new one
module _ {f : Format} (facts : Facts f) {t : List ℕ} (buffer : List ℕ) (image : take (length t) buffer ≡ t) (within : length t ≤ length buffer) {firsts numbers : ℕ} {b : Block} {a : Append}
    (h : Appends f t (length buffer) firsts numbers b a) where
  pub read-grown : read f (image_grown buffer a) ≡ taken (h.survey.entries ++ (new_entry b a ∷ []))
  read-grown = by (sited-by t h.survey.last.to (length buffer) (length (rows_of f b)) h.sits)
    where
      cut : Cut f t h.survey.entries (length h.survey.entries) h.survey.last.to
      cut = cut-last f t h.surveys

      by : Into t h.survey.last.to (length (rows_of f b)) h.site ⊎ ((Fit (length (rows_of f b)) (drop h.survey.last.to t) → ⊥) × After t (length buffer) (length (rows_of f b)) h.site)
          → read f (image_grown buffer a) ≡ taken (h.survey.entries ++ (new_entry b a ∷ []))
      by (inl o) =
          let i = h.survey.last.to in
          let n = length (rows_of f b) in
          let size = length-drop i t in
          let same : image_grown buffer a ≡ pasted t i (rows_of f b) =
          rw (h.long, h.at, h.rows, o.rows, o.at) (pasted-within buffer i (rows_of f b) (length t) (omega (arith, o.fits.0, size, cut.within)) within ∙ ap (λ v. pasted v i (rows_of f b)) image) in
          ap (read f) same ∙ read-into facts b h.fits cut o.fits ∙ rw (h.first, h.at, h.rows, o.at)
      by (inr o) =
          let i = h.survey.last.to in
          let same : image_grown buffer a ≡ t ++ rows_of f b =
          rw (h.long, h.at, h.rows, o.1.rows, o.1.at) (pasted-behind buffer (length t) (rows_of f b) within ∙ ap (λ v. v ++ rows_of f b) image) in
          ap (read f) same ∙ read_behind facts b h.fits cut o.1.short ∙ rw (h.first, h.at, h.rows, o.1.at)
