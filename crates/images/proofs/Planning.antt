-- What an append has to do: the answer by what each judge said in turn, and that what is planned finds room in the buffer and in the arrays.
use Prim.Native.Nat.{ℕ, suc, ◌+◌, ◌^◌, ◌≤◌, ◌<◌}
use mathlib.Core.Path.{◌≡◌, refl, sym, ap}
use mathlib.Core.Bool.{Bool, true, false, cond}
use mathlib.Core.List.{List}
use native.Mathlib.Numerals.{add-one}
use native.Mathlib.Omega.{arith}
use borrow.Author.Tests.{leb-true}
use lib.Dec.{leb}
use lib.ListN.{length, drop, length-drop}
use Rattle.rows.specs.Answer.{Answer, taken, refused}
use Rattle.rows.specs.Stages.{limit}
use Rattle.shorthand.specs.declared.Format.{Format}
use Rattle.shorthand.specs.Facts.{Facts}
use Rattle.reading.specs.declared.Block.{Block}
use Rattle.reading.specs.declared.Part.{Part}
use Rattle.reading.specs.Survey.{surveyed, last_in}
use Rattle.reading.proofs.Programs.{both-taken}
use Rattle.punching.specs.Rows.{rows_of}
use Rattle.punching.specs.Fits.{unless}
use Rattle.punching.specs.Answers.{measured_for}
use Rattle.punching.proofs.Measures.{tested, record-most, measured-fit}
use Rattle.index.specs.Index.{index_room}
use Rattle.index.proofs.Indexing.{room-both}
use Rattle.images.specs.declared.Site.{Site}
use Rattle.images.specs.Images.{blanks, sited_after, sited, Plan, Append, append_for}
use Rattle.images.proofs.BlankRows.{blanks-most}
use Rattle.images.proofs.TapesSeen.{SurveyTold, survey-refused}

-- what is planned for a block of n rows at a site, behind so many blocks and the last end
abbrev pub plan_of : ℕ → ℕ → ℕ → Site → Plan
plan_of blocks first n s = record { blocks = blocks; first = first; at = s.at; size = n; rows = s.rows }

-- ---- room for what is planned

-- a site has room for the rows
site-fits : (t : List ℕ) (from capacity n : ℕ) → from ≤ length t → length t ≤ capacity → (s : Site) → sited t from capacity n ≡ taken s → s.at + n ≤ capacity
site-fits t from capacity n h l s e = by (leb n (blanks (drop from t))) refl e
  where
    by : (x : Bool) → leb n (blanks (drop from t)) ≡ x → cond x (taken (record { at = from; rows = length t })) (sited_after t capacity n) ≡ taken s → s.at + n ≤ capacity
    by true q r =
        let same : ◌≡◌ {A = Site} (record { at = from; rows = length t }) s = cc in
        omega (arith, ap (λ (y : Site). y.at) same, leb-true n (blanks (drop from t)) q, blanks-most (drop from t), length-drop from t)
    by false q r =
        let one = both-taken (unless (leb (length t + n) limit) 4 limit) _ s r in
        let two = both-taken (unless (leb (length t + n) capacity) 19 (length t + n)) _ s one.1 in
        let same : ◌≡◌ {A = Site} (record { at = length t; rows = length t + n }) s = let e = two.1 in cc in
        omega (arith, ap (λ (y : Site). y.at) same, leb-true (length t + n) capacity (tested (leb (length t + n) capacity) 19 (length t + n) two.0))

-- what is known of a plan: it is the whole answer, and its rows and the two entries find room
pub record Fitting (f : Format) (t : List ℕ) (capacity firsts numbers : ℕ) (b : Block) (p : Plan) : Type 0 where
  pub whole : append_for f t capacity firsts numbers b ≡ taken (record { plan = p; punched = rows_of f b })
  pub buffer : p.at + p.size ≤ capacity
  pub first : p.blocks < firsts
  pub number : p.blocks < numbers

-- ---- by what each judge said in turn

module _ (f : Format) (t : List ℕ) (capacity firsts numbers : ℕ) (b : Block) where
  abbrev answer : Answer Append
  answer = append_for f t capacity firsts numbers b

  pub unsurveyed : (m q : ℕ) → refused m q ≡ last_in (surveyed f t) → answer ≡ refused m q
  unfolding append_for
  unsurveyed m q e = rw (survey-refused f t m q e)

  module _ {k : ℕ} {p : Part} (x : SurveyTold f t k p) where
    -- one more than the blocks so far
    pub one_more : k + 1 < 2 ^ 64
    one_more = omega (arith, x.many, x.seen.few, x.seen.short)

    pub unmeasured : (m q : ℕ) → refused m q ≡ measured_for f b → answer ≡ refused m q
    unfolding append_for
    unmeasured m q e = rw (x.surveys, sym e)

    -- a site is looked for among no more rows than the limit
    pub sites : Facts f → (n : ℕ) → taken n ≡ measured_for f b → (length t ≤ limit) × (p.to ≤ length t) × (n ≤ limit)
    sites h n e =
        let fit = measured-fit f b n (sym e) in
        (x.seen.short, omega (arith, x.seen.last.1, ap (λ (y : Part). y.to) x.ended), omega (arith, fit.1, record-most h b fit.0))

    module _ (n : ℕ) (m : taken n ≡ measured_for f b) where
      room_is : index_room (k + 1) firsts numbers ≡ index_room (suc (length x.survey.entries)) firsts numbers
      room_is = rw (x.many, add-one)

      pub unindexed : (i q : ℕ) → refused i q ≡ index_room (k + 1) firsts numbers → answer ≡ refused i q
      unfolding append_for
      unindexed i q e = rw (x.surveys, sym m, sym room_is, sym e)

      module _ (r : taken tt ≡ index_room (k + 1) firsts numbers) where
        site_is : sited t p.to capacity n ≡ sited t x.survey.last.to capacity n
        site_is = rw x.ended

        pub unsited : (i q : ℕ) → refused i q ≡ sited t p.to capacity n → answer ≡ refused i q
        unfolding append_for
        unsited i q e = rw (x.surveys, sym m, sym room_is, sym r, sym site_is, sym e)

        judged : (s : Site) → taken s ≡ sited t p.to capacity n → answer ≡ taken (record { plan = plan_of k p.to n s; punched = rows_of f b })
        unfolding append_for
        judged s e = rw (x.surveys, sym m, sym room_is, sym r, sym site_is, sym e, x.many, x.ended)

        pub fitting : length t ≤ capacity → (s : Site) → taken s ≡ sited t p.to capacity n → Fitting f t capacity firsts numbers b (plan_of k p.to n s)
        fitting l s e =
            let room = room-both (k + 1) firsts numbers r in
            let within : p.to ≤ length t = omega (arith, x.seen.last.1, ap (λ (y : Part). y.to) x.ended) in
            record { whole = judged s e; buffer = site-fits t p.to capacity n within l s (sym e); first = omega (arith, room.0); number = omega (arith, room.1) }
