-- Soundness: the program that the fourth stage answers stands as the kept rows.
use Prim.Native.Nat.{ℕ}
use mathlib.Core.Path.{◌≡◌}
use mathlib.Core.Bool.{Bool, true, false}
use mathlib.Core.List.{List, [], ◌∷◌, ◌++◌, map}
use Rattle.rows.specs.Answer.{Answer, taken, refused}
use Rattle.rows.specs.Kept.{KeptRow}
use Rattle.rows.specs.Passes.{Every}
use Rattle.speeds.specs.Meaning.{speed_for}
use Rattle.shorthand.specs.declared.Kind.{Kind}
use Rattle.shorthand.specs.declared.Kind.TheVariants.{Plain}
use Rattle.shorthand.specs.declared.Item.{Item}
use Rattle.shorthand.specs.declared.Format.{Format}
use Rattle.shorthand.specs.Layout.{items_of, Way}
use Rattle.reading.specs.Relation.{address, Worded, End, Blocks, none, more, Program, program, chars}
use Rattle.words.specs.Figures.{Behind}
use Rattle.parts.specs.Ends.{close_at}
use Rattle.words.specs.Data.{word_at}
use Rattle.parts.specs.Items.{steps, begins, bare_in}
use Rattle.reading.specs.declared.Entry.{Entry}
use Rattle.reading.specs.Parse.{BlockRead, block_at}
use Rattle.parts.specs.Ends.{head_at}
use Rattle.reading.specs.Answers.{program_at}
use Rattle.parts.specs.declared.Begun.{Begun}
use Rattle.words.specs.declared.Word.{Word}
use Rattle.parts.specs.Starts.{start_at}
use Rattle.rows.proofs.Outcomes.{Holds, refusal, value, of-taken}
use Rattle.reading.proofs.Outcomes.{Reads, Table, Placed, no_row, next_row, chars-append}
use Rattle.reading.proofs.ReadData.{Sayable}
use Rattle.reading.proofs.ReadWords.{Stepped, steps-over, Addressed, address-over, word_read}
use Rattle.reading.proofs.ReadBlocks.{Last, StartRows, start-read, close-read, BlockRows, block_read, HeadRows, head_read, Entries, ProgramRows, program-read}

-- ---- where nothing is asked of refusals

abbrev AnyPlace : ℕ → Type 0
AnyPlace p = Unit {0}

abbrev AnyRefusal : ℕ → ℕ → Type 0
AnyRefusal n p = Unit {0}

any-answer : {A : Type 0} (x : Answer A) → Holds (λ n p. Unit {0}) (λ a. Unit {0}) x
any-answer (taken a) = value tt
any-answer (refused n p) = refusal tt

any-kind : (k : Kind) → Sayable AnyRefusal AnyPlace k
any-kind (Plain n) = tt
any-kind (Kind.Speed k) = λ c a h q. any-answer (speed_for k c)
any-kind (Kind.Dimension d) = tt

any-items : (its : List Item) → Every (λ it. Sayable AnyRefusal AnyPlace it.kind) its
any-items [] = tt
any-items (it ∷ its) = (any-kind it.kind, any-items its)

any-rows : (rs : List KeptRow) → Placed AnyPlace rs
any-rows [] = no_row
any-rows (r ∷ rs) = next_row tt (any-rows rs)

-- what the fourth stage takes is the head's rows and then those of its blocks
pub taken-rows : (f : Format) (len : ℕ) (rs : List KeptRow) (es : List Entry) → program_at len f rs ≡ taken es → ProgramRows len f rs es
taken-rows f len rs es e = of-taken (program-read (record { at_row = λ n l h p a. tt; no_head = tt; cut = tt }) f (any-items (items_of f)) rs (any-rows rs)) e

-- a block's rows, and what is behind them
pub block-rows : (f : Format) (len : ℕ) (rs : List KeptRow) (b : Behind BlockRead) → block_at len f rs ≡ taken b → Reads (BlockRows f) rs b
block-rows f len rs b e = of-taken (block_read (record { at_row = λ n l h p a. tt; no_head = tt; cut = tt }) f (any-items (items_of f)) rs (any-rows rs)) e

pub head_rows : (len : ℕ) (rs : List KeptRow) (x : Behind ℕ) → head_at len rs ≡ taken x → Reads HeadRows rs x
head_rows len rs x e = of-taken (head_read {Q = AnyRefusal} {P = AnyPlace} (record { at_row = λ n l h p a. tt; no_head = tt; cut = tt }) rs (any-rows rs)) e

-- the rows that the parts of a block take, and what is behind them
module _ (len : ℕ) (rs : List KeptRow) where
  any-table : Table AnyRefusal AnyPlace len
  any-table = record { at_row = λ n l h p a. tt; no_head = tt; cut = tt }

  pub start-rows : (f : Format) (x : Behind Begun) → start_at len f.sequence (bare_in f) rs ≡ taken x → Reads (StartRows f) rs x
  start-rows f x e = of-taken (start-read any-table f rs (any-rows rs)) e

  pub step-rows : (y : Way) → steps y rs ≡ true → Stepped AnyPlace y rs
  step-rows y e = steps-over y rs (any-rows rs) e

  pub address-rows : (y : Way) (it : Item) → begins y it.letter rs ≡ true → Addressed AnyPlace y it rs
  address-rows y it e = address-over y it rs (any-rows rs) e

  pub word_rows : (it : Item) (a : ℕ) (x : Behind Word) → word_at len it a rs ≡ taken x → Reads (λ w s. (y : Way) → Worded y it w (address y it ++ chars s)) rs x
  word_rows it a x e = of-taken (word_read any-table it (any-kind it.kind) a tt rs (any-rows rs)) e

  pub end-rows : (empty : Bool) (x : Behind ℕ) → close_at len empty rs ≡ taken x → Reads (λ p s. End (chars s) × Last p s × (empty ≡ false)) rs x
  end-rows empty x e = of-taken (close-read any-table empty rs (any-rows rs)) e

-- ---- soundness

-- blocks one behind another
pub entries-stand : {f : Format} {from : ℕ} {es : List Entry} {rs : List KeptRow} → Entries f from es rs → Blocks f (map (λ e. e.block) es) (chars rs)
entries-stand Entries.none = none
entries-stand (Entries.more {s = s} {rest = rest} b l m) = rw (chars-append s rest) (more b (entries-stand m))

pub sound : (f : Format) (len : ℕ) (rs : List KeptRow) (es : List Entry) → program_at len f rs ≡ taken es → Program f (map (λ e. e.block) es) (chars rs)
sound f len rs es e =
    let h = taken-rows f len rs es e in
    rw (h.front.split, chars-append, h.front.stands.rows) (program h.front.stands.ends (entries-stand h.blocks))
