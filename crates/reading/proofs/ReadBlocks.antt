-- What the parsers of an end, a block, the head and all blocks read.
use Prim.Native.Nat.{ℕ, zero, suc, ◌+◌, ◌≤◌, ◌<◌, zero-le, suc-le-suc}
use mathlib.Core.Path.{◌≡◌, refl, sym, ap, ◌∙◌, subst}
use mathlib.Core.Logic.{◌⊎◌, inl, inr}
use mathlib.Core.Bool.{Bool, true, false, ◌&&◌, ◌||◌, cond, false≢true}
use mathlib.Core.List.{List, [], ◌∷◌, ◌++◌, append-nil}
use native.Mathlib.Nat.{le_refl}
use native.Mathlib.Omega.{arith}
use lib.ListN.{length, length-append}
use lib.Dec.{eqb, lit≤}
use borrow.Author.Tests.{eqb-true}
use Rattle.rows.specs.Answer.{taken, refused}
use Rattle.rows.specs.Kept.{KeptRow}
use Rattle.rows.specs.Passes.{Every}
use Rattle.shorthand.specs.declared.Missing.TheVariants.{Nothing}
use Rattle.shorthand.specs.declared.Format.{Format}
use Rattle.shorthand.specs.Layout.{items_of, way_of}
use Rattle.reading.specs.declared.Block.{Block}
use Rattle.reading.specs.Relation.{End, lf, cr_lf, sequence_rows, start_rows, Start, counted, bare, Blocked, block, chars}
use Rattle.reading.specs.Record.{is_empty}
use Rattle.parts.specs.declared.Begun.{Begun}
use Rattle.words.specs.declared.Wanted.{Wanted}
use Rattle.words.specs.Figures.{Behind, wrong_by, fronts, behind}
use Rattle.parts.specs.Ends.{after_cr, ended, close_at}
use Rattle.parts.specs.Items.{bare_in}
use Rattle.reading.specs.declared.Entry.{Entry}
use Rattle.reading.specs.Parse.{BlockRead, block_at, blocks_at}
use Rattle.parts.specs.Ends.{head_at}
use Rattle.reading.specs.Answers.{program_at}
use Rattle.parts.specs.Starts.{number_at, start_at}
use Rattle.rows.proofs.Outcomes.{Holds, refusal, value, holds-map, holds-bind, holds-cond, holds-with}
use Rattle.reading.proofs.Outcomes.{Reads, Table, Placed, next_row, placed-behind, chars-append, cut-told, row_told, wrong-told, reads-done, reads-map, reads-after, reads_then}
use Rattle.reading.proofs.Runs.{figures-read}
use Rattle.reading.proofs.ReadData.{either, punched-full, Sayable}
use Rattle.reading.proofs.ReadWords.{Fronted, fronted, words-read}

-- the last of some rows has the place p
pub data Last (p : ℕ) : List KeptRow → Type 0 where
  last : {r : KeptRow} → r.place ≡ p → Last p (r ∷ [])
  before : {r : KeptRow} {rs : List KeptRow} → Last p rs → Last p (r ∷ rs)

pub last-after : {p : ℕ} (s u : List KeptRow) → Last p u → Last p (s ++ u)
last-after [] u h = h
last-after (r ∷ s) u h = before (last-after s u h)

-- ---- an end

module _ {Q : ℕ → ℕ → Type 0} {P : ℕ → Type 0} {len : ℕ} (t : Table Q P len) where
  after_read : (w : Wanted) (cr : KeptRow) → cr.char ≡ 13 → P cr.place → (rs : List KeptRow)
      → Holds Q (Reads (λ p s. End (chars s) × Last p s) (cr ∷ rs)) (after_cr len w cr rs)
  after_read w cr is h [] = refusal (cut-told t w)
  after_read w cr is h (r ∷ rs) =
      holds-cond (eqb r.char 10)
      (λ q. value (record { took = cr ∷ r ∷ []; split = refl; stands = (rw (is, eqb-true r.char 10 q) cr_lf, before (last refl)) }))
      (λ q. refusal (row_told t w cr.place h))

  pub ended-read : (w : Wanted) (rs : List KeptRow) → Placed P rs → Holds Q (Reads (λ p s. End (chars s) × Last p s) rs) (ended len w rs)
  ended-read w [] all = refusal (cut-told t w)
  ended-read w (r ∷ rs) (next_row h all) =
      holds-cond (eqb r.char 10)
      (λ q. value (record { took = r ∷ []; split = refl; stands = (rw (eqb-true r.char 10 q) lf, last refl) }))
      (λ q. holds-cond (eqb r.char 13) (λ is. after_read w r (eqb-true r.char 13 is) h rs) (λ other. refusal (row_told t w r.place h)))

-- ---- a block

-- N or ":" at the front
lead : {P : ℕ → Type 0} (rs : List KeptRow) → Placed P rs → (fronts 78 rs || fronts 58 rs) ≡ true → Fronted P (cond (fronts 58 rs) 58 78) rs
lead {P} rs all e = go (fronts 58 rs) refl (either (fronts 78 rs) (fronts 58 rs) e)
  where
    go : (b : Bool) → fronts 58 rs ≡ b → (fronts 78 rs ≡ true) ⊎ (fronts 58 rs ≡ true) → Fronted P (cond b 58 78) rs
    go true q h = fronted 58 rs all q
    go false q (inl h) = fronted 78 rs all h
    go false q (inr h) = absurd (false≢true (sym q ∙ h))

-- the rows of a block's start
abbrev pub StartRows : Format → Begun → List KeptRow → Type 0
StartRows f b s = Start f b × (chars s ≡ start_rows f.sequence b)

first-true : (a b : Bool) → (a && b) ≡ true → a ≡ true
first-true true b e = refl
first-true false b e = e

module _ {Q : ℕ → ℕ → Type 0} {P : ℕ → Type 0} {len : ℕ} (t : Table Q P len) (f : Format) where
  -- N or ":" and its digits, or no number; no "/" stands among them
  number_read : (skip : Bool) (rs : List KeptRow) → Placed P rs
      → Holds Q (Reads (λ b s. (b.skip ≡ skip) × Start f b × (chars s ≡ sequence_rows f.sequence b)) rs) (number_at len f.sequence (bare_in f) skip rs)
  number_read skip rs all =
      holds-cond (fronts 78 rs || fronts 58 rs)
      (λ e. let l = lead rs all e in
      reads-after (l.row ∷ []) l.split
      (reads_then l.after (figures-read t Wanted.Start Nothing f.sequence (behind rs) l.after) λ v ds all₁ p.
      let full = punched-full p in reads-done (refl, counted skip (fronts 58 rs) full.0, rw (append-nil ds, l.is, full.1))))
      (λ e. holds-cond (bare_in f rs) (λ q. reads-done (refl, bare skip (first-true f.unnumbered _ q), refl)) (λ q. wrong-told t Wanted.Start rs all))

  pub start-read : (rs : List KeptRow) → Placed P rs → Holds Q (Reads (StartRows f) rs) (start_at len f.sequence (bare_in f) rs)
  unfolding start_at
  start-read rs all =
      holds-cond (fronts 47 rs)
      (λ e. let s = fronted 47 rs all e in
      reads-after (s.row ∷ []) s.split (reads-map (λ b u h. (h.1, rw (s.is, h.0, h.2))) (number_read true (behind rs) s.after)))
      (λ e. reads-map (λ b u h. (h.1, rw (h.0, h.2))) (number_read false rs all))

last-placed : {P : ℕ → Type 0} {p : ℕ} {s : List KeptRow} → Last p s → (rest : List KeptRow) → Placed P (s ++ rest) → P p
last-placed {P} (last e) rest (next_row h all) = subst P e h
last-placed (before l) rest (next_row h all) = last-placed l rest all

-- an end, of a block that is not empty
pub close-read : {Q : ℕ → ℕ → Type 0} {P : ℕ → Type 0} {len : ℕ} → Table Q P len → (empty : Bool) (rs : List KeptRow) → Placed P rs
    → Holds Q (Reads (λ p s. End (chars s) × Last p s × (empty ≡ false)) rs) (close_at len empty rs)
close-read {Q} {P} t empty rs all = holds-bind (ended-read t Wanted.End rs all) λ e k. by empty e k
  where
    by : (x : Bool) (e : Behind ℕ) → Reads (λ p s. End (chars s) × Last p s) rs e
        → Holds Q (Reads (λ p s. End (chars s) × Last p s × (x ≡ false)) rs) (cond x (refused (wrong_by Wanted.Start) e.value) (taken e))
    by true e k = refusal (row_told t Wanted.Start e.value (last-placed k.stands.1 e.rest (subst (Placed P) k.split all)))
    by false e k = value (record { took = k.took; split = k.split; stands = (k.stands.0, k.stands.1, refl) })

-- a block's rows, to its LF
abbrev pub BlockRows : Format → BlockRead → List KeptRow → Type 0
BlockRows f b s = Blocked f b.block (chars s) × Last b.lf s

module _ {Q : ℕ → ℕ → Type 0} {P : ℕ → Type 0} {len : ℕ} (t : Table Q P len) (f : Format) (says : Every (λ it. Sayable Q P it.kind) (items_of f)) where
  pub block_read : (rs : List KeptRow) → Placed P rs → Holds Q (Reads (BlockRows f) rs) (block_at len f rs)
  unfolding block_at
  block_read rs all =
      reads_then all (start-read t f rs all) λ b r all₁ p.
      reads_then all₁ (words-read t (way_of f) (items_of f) says b.rest all₁) λ ws u all₂ h.
      reads_then all₂ (close-read t (is_empty b.value ws.value) ws.rest all₂) λ x s all₃ z.
      reads-done (
        rw (append-nil s, chars-append r (u ++ s), chars-append u s, p.1) (block p.0 z.2 h z.0),
        rw (append-nil s) (last-after r (u ++ s) (last-after u s z.1)),
      )

-- ---- the head and all blocks

-- "%" and an end, to the LF at p
pub record HeadRows (p : ℕ) (s : List KeptRow) : Type 0 where
  pub mark : List ℕ
  pub rows : chars s ≡ 37 ∷ mark
  pub ends : End mark
  pub to : Last p s

pub head_read : {Q : ℕ → ℕ → Type 0} {P : ℕ → Type 0} {len : ℕ} → Table Q P len → (rs : List KeptRow) → Placed P rs → Holds Q (Reads HeadRows rs) (head_at len rs)
unfolding head_at
head_read {len = len} t rs all =
    holds-cond (fronts 37 rs)
    (λ e. let s = fronted 37 rs all e in
    reads-after (s.row ∷ []) s.split
    (reads-map (λ p r h. record { mark = chars r; rows = rw s.is; ends = h.0; to = before h.1 }) (ended-read t Wanted.Head (behind rs) s.after)))
    (λ e. wrong-told t Wanted.Head rs all)

-- the blocks of a tape one after the other, each from the place after the LF before it to its own
pub data Entries (f : Format) : ℕ → List Entry → List KeptRow → Type 0 where
  none : {from : ℕ} → Entries f from [] []
  more : {from p : ℕ} {b : Block} {es : List Entry} {s rest : List KeptRow} → Blocked f b (chars s) → Last p s → Entries f (p + 1) es rest
      → Entries f from (record { block = b; from = from; to = p + 1 } ∷ es) (s ++ rest)

pub last_some : {p : ℕ} {s : List KeptRow} → Last p s → 0 < length s
last_some (last e) = lit≤ tt
last_some (before h) = suc-le-suc zero-le

module _ {Q : ℕ → ℕ → Type 0} {P : ℕ → Type 0} {len : ℕ} (t : Table Q P len) (f : Format) (says : Every (λ it. Sayable Q P it.kind) (items_of f)) where
  pub blocks-read : (k from : ℕ) (rs : List KeptRow) → length rs ≤ k → Placed P rs → Holds Q (λ es. Entries f from es rs) (blocks_at k len f from rs)
  unfolding blocks_at
  blocks-read zero from [] fuel all = value none
  blocks-read zero from (r ∷ rs) fuel all = absurd (omega arith)
  blocks-read (suc k) from [] fuel all = value none
  blocks-read (suc k) from (r ∷ rs) fuel all =
      holds-bind (block_read t f says (r ∷ rs) all) λ b h.
      let some : 0 < length h.took = last_some h.stands.1 in
      let whole : suc (length rs) ≡ length h.took + length b.rest = ap length h.split ∙ length-append h.took b.rest in
      let left : length b.rest ≤ k = omega arith in
      holds-bind (blocks-read k (b.value.lf + 1) b.rest left (placed-behind h.took h.split all)) λ es m.
      value (rw h.split (more h.stands.0 h.stands.1 m))

-- the head and the blocks behind it
pub record ProgramRows (len : ℕ) (f : Format) (rs : List KeptRow) (es : List Entry) : Type 0 where
  pub head : Behind ℕ
  pub begins : head_at len rs ≡ taken head
  pub front : Reads HeadRows rs head
  pub blocks : Entries f (head.value + 1) es head.rest

pub program-read : {Q : ℕ → ℕ → Type 0} {P : ℕ → Type 0} {len : ℕ} → Table Q P len → (f : Format) → Every (λ it. Sayable Q P it.kind) (items_of f) → (rs : List KeptRow) → Placed P rs
    → Holds Q (ProgramRows len f rs) (program_at len f rs)
unfolding program_at
program-read t f says rs all =
    holds-bind (holds-with (head_read t rs all)) λ h k.
    holds-map (λ es m. record { head = h; begins = k.0; front = k.1; blocks = m })
    (blocks-read t f says (length h.rest) (h.value + 1) h.rest (le_refl _) (placed-behind k.1.took k.1.split all))
