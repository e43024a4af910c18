-- An index that these operations made for an image is the index of its blocks, and what is found through it is what the plain walk finds.
use Prim.Native.Nat.{ℕ, suc, ◌-◌, ◌≤◌, ◌<◌}
use mathlib.Core.Path.{◌≡◌, refl, sym, ap, ◌∙◌, subst}
use mathlib.Core.List.{List, [], ◌∷◌, ◌++◌, map-append}
use native.Mathlib.Numerals.{add-one}
use native.Mathlib.Omega.{arith}
use lib.ListN.{length, take, length-append, length-map, length-take}
use lib.Seq.{length-take-le, take_at}
use Rattle.rows.specs.Answer.{taken, ◌>>◌}
use Rattle.shorthand.specs.declared.Format.{Format}
use Rattle.profile.specs.Answers.{agreed}
use Rattle.profile.proofs.Settling.{agreed-facts}
use Rattle.reading.specs.declared.Block.{Block}
use Rattle.reading.specs.Relation.{TapeOf}
use Rattle.reading.specs.declared.Entry.{Entry}
use Rattle.reading.specs.Answers.{read, read_under, block_numbered, rows_numbered}
use Rattle.reading.specs.Survey.{Surveyed}
use Rattle.reading.proofs.Programs.{from-taken, both-taken, tape-read, read-tape}
use Rattle.reading.proofs.Surveys.{survey-taken}
use Rattle.punching.specs.Rows.{cleared}
use Rattle.punching.specs.Answers.{after}
use Rattle.index.specs.Index.{number_in, firsts_of, numbers_of, Indexes, index_room, indexed_for, indexed, laid}
use Rattle.index.specs.Finding.{block_found, rows_found, number_found, first_numbered}
use Rattle.index.proofs.Lookups.{block, rows, number}
use Rattle.images.specs.Images.{Append, append_for, appended, firsts_grown, numbers_grown, last_for, last_taken, overpunched}
use Rattle.images.specs.Made.{Made, built, grown, shrunk}
use Rattle.images.proofs.Pasting.{image-rows}
use Rattle.images.proofs.Grown.{append-taken, new_entry, image_grown, read-grown}
use Rattle.images.proofs.Shrunk.{last_taken_lem, image_shrunk, image-less, read-less}
use Rattle.images.proofs.KeptRight.{number-cleared, take-map, index-more, index-fewer}

-- these are the blocks of the image, and the arrays index them
pub record Right (e : ℕ) (s p t firsts numbers : List ℕ) (count : ℕ) : Type 0 where
  pub entries : List Entry
  pub accepted : read_under e s p t ≡ taken entries
  pub all : count ≡ length entries
  pub index : Indexes entries firsts numbers

module _ (e : ℕ) (s p : List ℕ) where
  -- under the Format that was agreed on
  under : {f : Format} (t : List ℕ) {es : List Entry} → agreed e s p ≡ taken f → read f t ≡ taken es → read_under e s p t ≡ taken es
  unfolding read_under
  under t q r = rw (q, r)

  -- the same blocks by two readings
  same_blocks : (t : List ℕ) {f : Format} {es ys : List Entry} → agreed e s p ≡ taken f → read_under e s p t ≡ taken es → read f t ≡ taken ys → es ≡ ys
  same_blocks t {es = es} {ys = ys} q a r = let z : taken es ≡ taken ys = sym a ∙ under t q r in cc

  -- ---- built

  pub build-right : {t : List ℕ} (firsts numbers : List ℕ) {es : List Entry} → indexed e s p t (length firsts) (length numbers) ≡ taken es
      → Right e s p t (after firsts (laid firsts_of (taken es))) (after numbers (laid numbers_of (taken es))) (length es)
  unfolding indexed indexed_for
  build-right {t} firsts numbers {es} q =
      let g = from-taken (agreed e s p) (λ f. indexed_for f t (length firsts) (length numbers)) es q in
      let r = from-taken (read g.0 t) (λ ys. index_room (length ys) (length firsts) (length numbers) >> taken ys) es g.2 in
      let same : r.0 ≡ es = let z = (both-taken (index_room (length r.0) (length firsts) (length numbers)) (taken r.0) es r.2).1 in cc in
      record {
        entries = es;
        accepted = under t g.1 (r.1 ∙ ap taken same);
        all = refl;
        index = record { rows = take_at (firsts_of es) _ (length es) (length-map es (λ x. x.from)); marks = take_at (numbers_of es) _ (length es) (length-map es (λ x. number_in x.block)) };
      }

  -- ---- a block appended

  module _ (buffer : List ℕ) (rows : ℕ) where
    short : length (take rows buffer) ≤ length buffer
    short = omega (arith, length-take rows buffer)

    -- the image is then a tape of the old blocks and the new one, which begins just after the last end
    pub append-read : (firsts numbers : ℕ) (b : Block) {a : Append} {es : List Entry} → read_under e s p (take rows buffer) ≡ taken es
        → appended e s p (take rows buffer) (length buffer) firsts numbers b ≡ taken a
        → (read_under e s p (image_grown buffer a) ≡ taken (es ++ (new_entry b a ∷ []))) × (a.plan.blocks ≡ length es) × (length es < firsts) × (length es < numbers)
    unfolding appended
    append-read firsts numbers b {a} {es} accepted q =
        let t = take rows buffer in
        let g = from-taken (agreed e s p) (λ f. append_for f t (length buffer) firsts numbers b) a q in
        let h = append-taken g.0 t (length buffer) firsts numbers b g.2 in
        let same : es ≡ h.survey.entries = same_blocks t g.1 accepted (survey-taken g.0 t h.surveys).reads in (
          rw same (under (image_grown buffer a) g.1 (read-grown (agreed-facts e s p g.0 g.1) buffer (image-rows rows buffer) short h)),
          h.blocks ∙ sym (ap length same),
          rw same h.roomy.0,
          rw same h.roomy.1,
        )

    pub append_right : (b : Block) {firsts numbers : List ℕ} {count : ℕ} {a : Append} → Right e s p (take rows buffer) firsts numbers count
        → appended e s p (take rows buffer) (length buffer) (length firsts) (length numbers) b ≡ taken a
        → Right e s p (image_grown buffer a) (firsts_grown firsts (taken a)) (numbers_grown numbers b (taken a)) (suc a.plan.blocks)
    append_right b {firsts} {numbers} {a = a} h q =
        let r = append-read (length firsts) (length numbers) b h.accepted q in
        record {
          entries = h.entries ++ (new_entry b a ∷ []);
          accepted = r.0;
          all = rw r.1 (sym (length-append h.entries (new_entry b a ∷ []) ∙ add-one (length h.entries)));
          index = rw r.1 (index-more h.index r.2 r.3 (new_entry b a) (number_in b) (sym (number-cleared b)));
        }

    -- it is a tape of the old program and that block
    pub append-tape : (firsts numbers : ℕ) (b : Block) {a : Append} {bs : List Block} → TapeOf e s p bs (take rows buffer)
        → appended e s p (take rows buffer) (length buffer) firsts numbers b ≡ taken a → TapeOf e s p (bs ++ (cleared b ∷ [])) (image_grown buffer a)
    append-tape firsts numbers b {a = a} {bs = bs} h q =
        let o = tape-read e s p (take rows buffer) bs h in
        let r = append-read firsts numbers b o.1 q in
        subst (λ (l : List Block). TapeOf e s p l (image_grown buffer a)) (map-append (λ (x : Entry). x.block) o.0 (new_entry b a ∷ []) ∙ ap (λ (l : List Block). l ++ (cleared b ∷ [])) o.2)
        (read-tape e s p (image_grown buffer a) (o.0 ++ (new_entry b a ∷ [])) r.0)

    -- ---- the last block taken off

    -- the image is then a tape of the others
    pub shrink-read : {x : Surveyed} {es : List Entry} → read_under e s p (take rows buffer) ≡ taken es → last_taken e s p (take rows buffer) ≡ taken x
        → (x.entries ≡ es) × (0 < length es) × (read_under e s p (image_shrunk buffer (take rows buffer) x) ≡ taken (take (length es - 1) es))
    unfolding last_taken
    shrink-read {x} {es} accepted q =
        let t = take rows buffer in
        let g = from-taken (agreed e s p) (λ f. last_for f t) x q in
        let h = last_taken_lem g.0 t g.2 in
        let same : es ≡ x.entries = same_blocks t g.1 accepted h.reads in
        let n : h.n ≡ length es - 1 = omega (arith, h.many, ap length same) in
        let image : image_shrunk buffer t x ≡ overpunched t x.last = image-less h buffer (image-rows rows buffer) short in (
          sym same,
          omega (arith, h.many, ap length same),
          under (image_shrunk buffer t x) g.1 (ap (read g.0) image ∙ read-less h (agreed-facts e s p g.0 g.1) ∙ rw (n, same)),
        )

    pub shrink-right : {firsts numbers : List ℕ} {count : ℕ} {x : Surveyed} → Right e s p (take rows buffer) firsts numbers count → last_taken e s p (take rows buffer) ≡ taken x
        → Right e s p (image_shrunk buffer (take rows buffer) x) firsts numbers (length x.entries - 1)
    shrink-right h q =
        let r = shrink-read h.accepted q in
        let n = length h.entries - 1 in
        record {
          entries = take n h.entries;
          accepted = r.2;
          all = rw (r.0, length-take-le n h.entries (omega arith));
          index = index-fewer h.index n (omega arith);
        }

    -- it is a tape of the old program without its last block
    pub shrink-tape : {x : Surveyed} {bs : List Block} → TapeOf e s p bs (take rows buffer) → last_taken e s p (take rows buffer) ≡ taken x
        → TapeOf e s p (take (length bs - 1) bs) (image_shrunk buffer (take rows buffer) x)
    shrink-tape {x} {bs} h q =
        let o = tape-read e s p (take rows buffer) bs h in
        let r = shrink-read o.1 q in
        let n : length o.0 ≡ length bs = sym (length-map o.0 (λ (y : Entry). y.block)) ∙ ap length o.2 in
        subst (λ (l : List Block). TapeOf e s p l (image_shrunk buffer (take rows buffer) x))
        (sym (take-map (λ (y : Entry). y.block) (length o.0 - 1) o.0) ∙ rw (n, o.2))
        (read-tape e s p (image_shrunk buffer (take rows buffer) x) (take (length o.0 - 1) o.0) r.2)

  -- ---- made by these operations

  -- an index that these operations made for an image is the index of its blocks
  pub made-right : {t firsts numbers : List ℕ} {count : ℕ} → Made e s p t firsts numbers count → Right e s p t firsts numbers count
  made-right (built firsts numbers q) = build-right firsts numbers q
  made-right (grown buffer rows b m q) = append_right buffer rows b (made-right m) q
  made-right (shrunk buffer rows m q) = shrink-right buffer rows (made-right m) q

  -- through it, block n and its rows are what the plain walk finds, and a refusal and its place too
  module _ {t firsts numbers : List ℕ} {count : ℕ} (m : Made e s p t firsts numbers count) (n : ℕ) where
    pub block_made : block_found e s p t (take count firsts) n ≡ block_numbered e s p t n
    block_made = let h = made-right m in rw h.all (block e s p t h.accepted h.index n)

    pub rows_made : rows_found e s p t (take count firsts) n ≡ rows_numbered e s p t n
    rows_made = let h = made-right m in rw h.all (rows e s p t h.accepted h.index n)

    -- and so is the first block with the number n, among the blocks of the image
    pub number-made : {es : List Entry} → read_under e s p t ≡ taken es → number_found (take count numbers) n ≡ first_numbered n 0 es
    number-made {es} accepted =
        let h = made-right m in
        let same : h.entries ≡ es = let z : taken h.entries ≡ taken es = sym h.accepted ∙ accepted in cc in
        ap (λ c. number_found (take c numbers) n) h.all ∙ number e s p t h.accepted h.index n ∙ ap (first_numbered n 0) same
