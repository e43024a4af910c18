-- Demand 1 of an index and of an image that is kept with one: what is refused, by which number and where, and that a refusal changes nothing.
use Prim.Native.Nat.{ℕ, suc, ◌+◌, ◌≤◌, ◌<◌}
use mathlib.Core.Path.{◌≡◌, refl, ap, ◌∙◌}
use mathlib.Core.Bool.{Bool, true, false, ◌&&◌, cond}
use mathlib.Core.Logic.{⊎_elim}
use mathlib.Core.List.Memᴰ
use mathlib.Core.List.{List, [], ◌∷◌}
use native.Mathlib.Omega.{arith}
use lib.Dec.{eqb, leb, ltb}
use lib.ListN.{length, get_or, drop}
use borrow.Author.Tests.{eqb-true, eqb-false, leb-true, leb-false, ltb-true, ltb-false}
use Rattle.rows.specs.Answer.{Answer, taken, refused, ◌>>=◌, ◌>>◌}
use Rattle.rows.specs.Kept.{KeptRow, kept_at}
use Rattle.rows.specs.Stages.{limit, in_limit, judged}
use Rattle.rows.specs.Faults.{RowRefusal}
use Rattle.rows.proofs.Outcomes.{Holds, refusal, value, holds-bind, holds-cond, of-refused, wider}
use Rattle.rows.proofs.RowRefusals.{row-refusals}
use Rattle.shorthand.specs.declared.Format.{Format}
use Rattle.profile.specs.Answers.{agreed}
use Rattle.profile.specs.Relation.{Settled, Unsettled}
use Rattle.profile.proofs.Settling.{settled-facts, settled-exactly}
use Rattle.words.specs.Figures.{Behind}
use Rattle.reading.specs.declared.Block.{Block}
use Rattle.reading.specs.declared.Entry.{Entry}
use Rattle.reading.specs.Parse.{BlockRead, entry, block_at}
use Rattle.reading.specs.Answers.{read, read_under, counted}
use Rattle.reading.specs.Front.{Rising, over, rise}
use Rattle.reading.specs.Survey.{Surveyed, surveyed, entry_from}
use Rattle.reading.proofs.Refusals.{AtRow, Listed, listed-number, listed-place, block-refusals}
use Rattle.reading.proofs.Places.{rising-at}
use Rattle.reading.proofs.Surveys.{survey-taken, read-unsurveyed}
use Rattle.punching.specs.Rows.{rows_of}
use Rattle.punching.specs.Fits.{unless}
use Rattle.punching.specs.Answers.{measured_for, measured}
use Rattle.punching.proofs.Measures.{measured-fit}
use Rattle.index.specs.Index.{mark, index_room, indexed_for, indexed}
use Rattle.index.specs.Finding.{shifted, up_to, own_entry, entry_by, entry_found, block_found, rows_found, first_at, number_found}
use Rattle.images.specs.declared.Site.{Site}
use Rattle.images.specs.Images.{blanks, sited_after, sited, Append, append_for, appended, buffer_grown, firsts_grown, numbers_grown, last_for, last_taken, buffer_shrunk}
use Rattle.demands.specs.Tables.{Reading, Measuring, Indexing, Appending, TakingOff, LookingUp, Seeking}
use Rattle.demands.proofs.Demand1.{Answered, settled-answered, under-answered, measuring-answered}

-- ---- through an index

-- the place of a kept row lies on the tape, and so does every place of the fourth stage's table, or at its end
row_within : {n i k : ℕ} {rs : List KeptRow} → Rising n i rs → AtRow rs k → k ≤ n
row_within over m = elim m [ ]
row_within (rise a b h) (Memᴰ.head e) = omega (arith, b, e)
row_within (rise a b h) (Memᴰ.tail m) = row_within h m

listed-within : {n i m k : ℕ} {rs : List KeptRow} → Rising n i rs → Listed n rs m k → k ≤ n
listed-within {n} {k = k} r w = ⊎_elim (λ e. omega (arith, e)) (λ a. row_within r a) (listed-place w)

module _ (e : ℕ) (s p t firsts : List ℕ) (n : ℕ) where
  own-answered : {f : Format} → Settled e s p f → n < length firsts → Answered (LookingUp e s p t firsts n) (own_entry f (up_to t firsts n) (get_or firsts n 0))
  unfolding entry_from
  own-answered {f} q l = by (judged (drop i u)) (row-refusals (drop i u)) (block_at (length u) f (kept_at u i)) refl
    where
      u : List ℕ
      u = up_to t firsts n

      i : ℕ
      i = get_or firsts n 0

      by : (a : Answer (Unit {0})) → Answered (RowRefusal (drop (get_or firsts n 0) (up_to t firsts n))) a → (b : Answer (Behind BlockRead)) → block_at (length (up_to t firsts n)) f (kept_at (up_to t firsts n) (get_or firsts n 0)) ≡ b
          → Answered (LookingUp e s p t firsts n) (shifted (get_or firsts n 0) a >> (b >>= λ x. taken (entry (get_or firsts n 0) x.value)))
      by (refused m k) (refusal h) b r = refusal (LookingUp.own_rows q l h)
      by (taken x) h (taken b) r = value tt
      by (taken x) h (refused m k) r =
          let w = block-refusals f (settled-facts q) (length (up_to t firsts n)) (kept_at (up_to t firsts n) (get_or firsts n 0)) m k r in
          let b = listed-number w in
          refusal (LookingUp.own_block q l b.0 b.1 (listed-within (rising-at (up_to t firsts n) (get_or firsts n 0)) w))

  entry-found-answered : Answered (LookingUp e s p t firsts n) (entry_found e s p t firsts n)
  unfolding entry_found entry_by
  entry-found-answered = by (settled-answered e s p)
    where
      among : {f : Format} → Settled e s p f → Answered (LookingUp e s p t firsts n) (in_limit t >> cond (ltb n (length firsts)) (own_entry f (up_to t firsts n) (get_or firsts n 0)) (refused 15 (length firsts)))
      among {f} q = limited (ltb limit (length t)) refl
        where
          limited : (b : Bool) → ltb limit (length t) ≡ b
              → Answered (LookingUp e s p t firsts n) (◌>>◌ {A = Unit {0}} (cond b (refused 4 limit) (taken tt)) (cond (ltb n (length firsts)) (own_entry f (up_to t firsts n) (get_or firsts n 0)) (refused 15 (length firsts))))
          limited true h = refusal (LookingUp.long q (ltb-true limit (length t) h))
          limited false h =
              holds-cond (ltb n (length firsts)) (λ l. own-answered q (ltb-true n (length firsts) l)) (λ l. refusal (LookingUp.past q (ltb-false n (length firsts) l)))

      by : {a : Answer Format} → Holds (Unsettled e s p) (λ f. Settled e s p f) a → Answered (LookingUp e s p t firsts n) (a >>= λ f. entry_by f t firsts n)
      by (refusal h) = refusal (LookingUp.settling h)
      by (value q) = among q

  pub found-answered : Answered (LookingUp e s p t firsts n) (block_found e s p t firsts n)
  found-answered = holds-bind entry-found-answered (λ x h. value tt)

  pub found-rows-answered : Answered (LookingUp e s p t firsts n) (rows_found e s p t firsts n)
  found-rows-answered = holds-bind entry-found-answered (λ x h. value tt)

module _ (q : ℕ) where
  -- one entry more that is another
  one_more : (n : ℕ) (ns : List ℕ) → (n ≡ q → ⊥) → (m k : ℕ) → Seeking ns q m k → Seeking (n ∷ ns) q m k
  one_more n ns other m k (Seeking.the_mark e) = Seeking.the_mark e
  one_more n ns other m k (Seeking.nowhere all) = Seeking.nowhere (other, all)

  first-answered : (i : ℕ) (ns : List ℕ) → Answered (Seeking ns q) (first_at q i ns)
  unfolding first_at
  first-answered i [] = refusal (Seeking.nowhere tt)
  first-answered i (n ∷ ns) = holds-cond (eqb n q) (λ l. value tt) (λ l. wider (one_more n ns (eqb-false n q l)) (first-answered (suc i) ns))

  pub number-answered : (ns : List ℕ) → Answered (Seeking ns q) (number_found ns q)
  number-answered ns = holds-cond (eqb q mark) (λ l. refusal (Seeking.the_mark (eqb-true q mark l))) (λ l. first-answered 0 ns)

-- ---- built, appended, taken off

room-refused : {A : Type 0} {table : ℕ → ℕ → Type 0} (n firsts numbers : ℕ) {a : Answer A} → ((n ≤ firsts → n ≤ numbers → ⊥) → table 24 n) → Answered table a → Answered table (index_room n firsts numbers >> a)
room-refused {table = table} n firsts numbers {a} none some = by (leb n firsts) refl (leb n numbers) refl
  where
    by : (x : Bool) → leb n firsts ≡ x → (y : Bool) → leb n numbers ≡ y → Answered table (◌>>◌ {A = Unit {0}} (cond (x && y) (taken tt) (refused 24 n)) a)
    by true h true k = some
    by true h false k = refusal (none (λ l m. omega (arith, m, leb-false n numbers k)))
    by false h y k = refusal (none (λ l m. omega (arith, l, leb-false n firsts h)))

module _ (e : ℕ) (s p t : List ℕ) where
  pub index-answered : (firsts numbers : ℕ) → Answered (Indexing e s p t firsts numbers) (indexed e s p t firsts numbers)
  unfolding read_under indexed indexed_for
  index-answered firsts numbers = by (read_under e s p t) refl (under-answered e s p t) (same (agreed e s p))
    where
      same : (a : Answer Format) → ((a >>= λ f. read f t) >>= λ es. index_room (length es) firsts numbers >> taken es) ≡ (a >>= λ f. read f t >>= λ es. index_room (length es) firsts numbers >> taken es)
      same (taken f) = refl
      same (refused n k) = refl

      by : (a : Answer (List Entry)) → read_under e s p t ≡ a → Answered (Reading e s p t) a → {x : Answer (List Entry)} → (read_under e s p t >>= λ es. index_room (length es) firsts numbers >> taken es) ≡ x
          → Answered (Indexing e s p t firsts numbers) x
      by (refused n k) q (refusal h) r = rw (← r, q) (refusal (Indexing.unread h))
      by (taken es) q h r = rw (← r, q) (room-refused (length es) firsts numbers (λ w. Indexing.no_room (rw q) w) (value tt))

-- the tape of an append or a taking off
module _ (e : ℕ) (s p t : List ℕ) where
  counted-as : {f : Format} {x : Surveyed} → Settled e s p f → surveyed f t ≡ taken x → counted e s p t ≡ taken (length x.entries)
  unfolding read_under
  counted-as {f} q h = rw ((settled-exactly e s p f).1 q, (survey-taken f t h).reads)

  surveying : {table : ℕ → ℕ → Type 0} {f : Format} → Settled e s p f → ((n k : ℕ) → Reading e s p t n k → table n k) → Holds table (λ x. surveyed f t ≡ taken x) (surveyed f t)
  unfolding read_under
  surveying {table} {f} q unread = by (surveyed f t) refl
    where
      by : (a : Answer Surveyed) → surveyed f t ≡ a → Holds table (λ x. surveyed f t ≡ taken x) a
      by (taken x) h = value h
      by (refused n k) h = refusal (unread n k (of-refused (under-answered e s p t) (rw ((settled-exactly e s p f).1 q, read-unsurveyed f t n k h))))

  pub off-answered : Answered (TakingOff e s p t) (last_taken e s p t)
  unfolding last_taken last_for
  off-answered = by (settled-answered e s p)
    where
      by : {a : Answer Format} → Holds (Unsettled e s p) (λ f. Settled e s p f) a → Answered (TakingOff e s p t) (a >>= λ f. last_for f t)
      by (refusal h) = refusal (TakingOff.unread (Reading.settling h))
      by (value q) =
          holds-bind (surveying q (λ n k r. TakingOff.unread r)) (λ x h.
          holds-cond (ltb 0 (length x.entries)) (λ l. value tt) (λ l. refusal (TakingOff.empty (counted-as q h ∙ ap taken (omega (arith, ltb-false 0 (length x.entries) l))))))

  module _ (capacity firsts numbers : ℕ) (b : Block) where
    abbrev Table : ℕ → ℕ → Type 0
    Table = Appending e s p t capacity firsts numbers b

    measuring : {f : Format} {c : ℕ} → Settled e s p f → counted e s p t ≡ taken c → Holds Table (λ n. measured_for f b ≡ taken n) (measured_for f b)
    unfolding measured
    measuring {f} q h = by (measured_for f b) refl
      where
        by : (a : Answer ℕ) → measured_for f b ≡ a → Holds Table (λ n. measured_for f b ≡ taken n) a
        by (taken n) m = value m
        by (refused n k) m = let r : measured e s p b ≡ refused n k = rw ((settled-exactly e s p f).1 q, m) in refusal (Appending.unmeasured h (of-refused (measuring-answered e s p b) r))

    siting : {f : Format} (from n : ℕ) → Settled e s p f → measured_for f b ≡ taken n → Answered Table (sited t from capacity n)
    siting {f} from n q m =
        let size = (measured-fit f b n m).1 in
        holds-cond (leb n (blanks (drop from t))) (λ l. value tt) (λ l.
        rw (← size) (by f q (leb (length t + length (rows_of f b)) limit) refl (leb (length t + length (rows_of f b)) capacity) refl))
      where
        by : (f : Format) → Settled e s p f → (x : Bool) → leb (length t + length (rows_of f b)) limit ≡ x → (y : Bool) → leb (length t + length (rows_of f b)) capacity ≡ y
            → Answered {A = Site} Table (unless x 4 limit >> unless y 19 (length t + length (rows_of f b)) >> taken (record { at = length t; rows = length t + length (rows_of f b) }))
        by f q true h true k = value tt
        by f q true h false k = refusal (Appending.full q (leb-true _ limit h) (leb-false _ capacity k))
        by f q false h y k = refusal (Appending.too_long q (leb-false _ limit h))

    pub append-answered : Answered Table (appended e s p t capacity firsts numbers b)
    unfolding appended append_for
    append-answered = by (settled-answered e s p)
      where
        by : {a : Answer Format} → Holds (Unsettled e s p) (λ f. Settled e s p f) a → Answered Table (a >>= λ f. append_for f t capacity firsts numbers b)
        by (refusal h) = refusal (Appending.unread (Reading.settling h))
        by (value q) =
            holds-bind (surveying q (λ n k r. Appending.unread r)) (λ x h.
            holds-bind (measuring q (counted-as q h)) (λ n m.
            room-refused (suc (length x.entries)) firsts numbers (λ w. Appending.no_room (counted-as q h) w) (holds-bind (siting x.last.to n q m) (λ z w. value tt))))

-- ---- a refusal changes nothing

pub image-untouched : (buffer : List ℕ) (a : Answer Append) (n k : ℕ) → a ≡ refused n k → buffer_grown buffer a ≡ buffer
image-untouched buffer a n k q = rw q

pub arrays-untouched : (firsts numbers : List ℕ) (b : Block) (a : Answer Append) (n k : ℕ) → a ≡ refused n k → (firsts_grown firsts a ≡ firsts) × (numbers_grown numbers b a ≡ numbers)
arrays-untouched firsts numbers b a n k q = (rw q, rw q)

pub nothing-off : (buffer : List ℕ) (a : Answer Surveyed) (n k : ℕ) → a ≡ refused n k → buffer_shrunk buffer a ≡ buffer
nothing-off buffer a n k q = rw q
