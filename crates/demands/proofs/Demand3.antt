-- Demand 3: no tape is shared, and damage is found.
use mathlib.Core.Path.{◌≡◌, sym, ap, ◌∙◌, subst}
use mathlib.Core.List.{List}
use Prim.Native.Nat.{ℕ, ◌<◌, ◌≤◌}
use native.Mathlib.Omega.{arith}
use lib.ListN.{length, get_or, take}
use borrow.Author.Tests.{le-leb}
use Rattle.rows.specs.Answer.{taken, refused}
use Rattle.rows.specs.Stages.{judged}
use Rattle.rows.specs.Passes.{Changed, Damaged, First}
use Rattle.rows.proofs.Parity.{damaged, some_first}
use Rattle.shorthand.specs.declared.Format.{Format}
use Rattle.profile.specs.Answers.{agreed}
use Rattle.profile.proofs.Settling.{settled-exactly}
use Rattle.parts.specs.Ends.{entered}
use Rattle.parts.proofs.Entering.{entered-refused}
use Rattle.reading.specs.declared.Block.{Block}
use Rattle.reading.specs.Relation.{TapeOf}
use Rattle.reading.specs.declared.Entry.{Entry}
use Rattle.reading.specs.Answers.{nowhere, read, read_under, counted, block_numbered, rows_numbered, size_of}
use Rattle.reading.specs.Remains.{Remains, all, later}
use Rattle.reading.proofs.Programs.{one-program}
use Rattle.reading.proofs.BlockWalk.{survey-refused}
use Rattle.index.specs.Index.{Indexes, indexed_for, indexed}
use Rattle.index.specs.Finding.{entry_found, block_found, rows_found}
use Rattle.index.proofs.Lookups.{damaged as lookup-damaged}
use Rattle.corrections.specs.Answers.{entry_corrected, place_corrected, rows_corrected}
use Rattle.images.specs.Images.{append_for, appended, last_for, last_taken}
use Rattle.images.specs.Made.{Made}
use Rattle.images.proofs.MadeIndexes.{made-right}
use Rattle.lines.specs.Listing.{most, listed_under}

module _ (e : ℕ) (s p : List ℕ) where
  -- "Under one edition and shorthand", and profile, "two different programs never share a tape,
  -- whatever blanks, rubouts, remarks and dropped zeros they carry."
  pub never-shared : (t : List ℕ) (bs cs : List Block) → TapeOf e s p bs t → TapeOf e s p cs t → bs ≡ cs
  never-shared = one-program e s p

  -- every function that reads a tape, but for saving, which alone answers for one with odd rows, refuses u by the number n at the place k, each by the definition that its promise cites: rows::check, parts::enter_tape,
  -- reading::count_blocks with crumbtrellis_count_blocks, read_block, block_rows, index::build_index, images::append_block and take_off, corrections::corrected_entry
  -- and corrected_rows, as the correction and, behind one that is accepted, as the master, and lines::count_listed
  -- within its own limit of rows. pages::list_page asks for what is left of an accepted tape, which u is not. Through an index a block's own rows alone are judged:
  -- of these see `damage-found`. All else that is handed rows takes a step of a walk, behind one of these
  pub record Refused (u : List ℕ) (n k : ℕ) : Type 0 where
    pub check : judged u ≡ refused n k
    pub enter : entered u ≡ refused n k
    pub count : counted e s p u ≡ refused n k
    pub block : (i : ℕ) → block_numbered e s p u i ≡ refused n k
    pub rows : (i : ℕ) → rows_numbered e s p u i ≡ refused n k
    pub index : (firsts numbers : ℕ) → indexed e s p u firsts numbers ≡ refused n k
    pub append : (capacity firsts numbers : ℕ) (b : Block) → appended e s p u capacity firsts numbers b ≡ refused n k
    pub off : last_taken e s p u ≡ refused n k
    pub correction : (m : List ℕ) (i : ℕ) → (entry_corrected e s p u m i ≡ refused n k) × (rows_corrected e s p u m i ≡ refused n k)
    pub master : (c : List ℕ) {cs : List Entry} → read_under e s p c ≡ taken cs → (i : ℕ) → (entry_corrected e s p c u i ≡ refused n k) × (rows_corrected e s p c u i ≡ refused n k)
    pub listed : length u ≤ most → size_of (listed_under e s p u) ≡ refused n k
    pub pages : (f : Format) (from : ℕ) (es : List Entry) → Remains f u from es → ⊥

  -- what is left of an accepted tape is not left of one that is not entered
  none-remains : {f : Format} {u : List ℕ} {from : ℕ} {es : List Entry} (n k : ℕ) → entered u ≡ refused n k → Remains f u from es → ⊥
  none-remains n k e (all r o) = let z : ◌≡◌ {A = ℕ} 0 1 = cc in omega (arith, z)
  none-remains n k e (later r) = none-remains n k e r

  -- "And if in any choice of rows of an accepted tape, at least one, an odd number of holes is changed in each, the tape is
  -- refused for parity at the first of those rows."
  pub damage-refused : (t u : List ℕ) (bs : List Block) → TapeOf e s p bs t → Damaged t u
      → (i : ℕ) → i < length t → Changed (get_or t i 0) (get_or u i 0) → (k : ℕ) × First t u k × Refused u 5 k
  unfolding read_under read listed_under indexed indexed_for appended append_for last_taken last_for entry_corrected place_corrected
  damage-refused t u bs h d i l c =
      let f = some_first t u h.passes.even d i l c in
      let j : judged u ≡ refused 5 f.0 = damaged t u h.passes.even d h.passes.short f.0 f.1 in
      let g : agreed e s p ≡ taken h.format = (settled-exactly e s p h.format).1 h.settled in
      let r : read_under e s p u ≡ refused 5 f.0 = rw (g, j) in
      let o = entered-refused u 5 f.0 j in (
        f.0,
        f.1,
        record {
          check = j;
          enter = o;
          count = rw r;
          block = λ i. rw r;
          rows = λ i. rw r;
          index = λ firsts numbers. rw (g, j);
          append = λ capacity firsts numbers b. rw (g, survey-refused u h.format 5 f.0 o);
          off = rw (g, survey-refused u h.format 5 f.0 o);
          correction = λ m i. (rw (g, j), rw (g, j));
          master = λ c q i. let a = rw g at q in (rw (g, a, j), rw (g, a, j));
          listed = λ few. rw (g, le-leb (length u) most few, j);
          pages = λ f from es r. none-remains 5 _ o r;
        },
      )

  -- the same through an index that was made for the tape before it was damaged: 5 at the first of those rows among the block's own
  module _ {t firsts numbers : List ℕ} {count : ℕ} (m : Made e s p t firsts numbers count) {es : List Entry} (accepted : read_under e s p t ≡ taken es) where
    pub damage-found : (n : ℕ) → n < length es → {u : List ℕ} → Damaged t u → (k : ℕ) → (get_or es n nowhere).from ≤ k → k < (get_or es n nowhere).to → Changed (get_or t k 0) (get_or u k 0)
        → ((i : ℕ) → (get_or es n nowhere).from ≤ i → i < k → get_or u i 0 ≡ get_or t i 0)
        → (block_found e s p u (take count firsts) n ≡ refused 5 k) × (rows_found e s p u (take count firsts) n ≡ refused 5 k)
    damage-found n l {u} d k from to changed before =
        let r = made-right e s p m in
        let same : r.entries ≡ es = let z : taken r.entries ≡ taken es = sym r.accepted ∙ accepted in cc in
        let index : Indexes es firsts numbers = subst (λ (xs : List Entry). Indexes xs firsts numbers) same r.index in
        let x : entry_found e s p u (take count firsts) n ≡ refused 5 k =
        ap (λ c. entry_found e s p u (take c firsts) n) (r.all ∙ ap length same) ∙ lookup-damaged e s p t accepted index n l d k from to changed before in
        (rw x, rw x)
