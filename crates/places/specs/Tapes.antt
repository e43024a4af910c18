-- Refusal places on the tape itself: which of its beginnings could still become a program's tape (document 01, "Refusal numbers").
-- The limit of 1,000,000 rows is left out, as in Begins: it is the first stage's.
use Rattle.std.specs.Prelude.{ℕ, suc, ◌≤◌, ◌<◌, ◌≡◌, ◌⊎◌, List, [], ◌∷◌, ◌++◌, map, T, eqb, length, take}
use Rattle.rows.specs.Row.{character, even, characters, among}
use Rattle.rows.specs.Kept.{KeptRow, kept}
use Rattle.rows.specs.ControlOut.{WellFormed}
use Rattle.rows.specs.Passes.{Every}
use Rattle.shorthand.specs.declared.Format.{Format}
use Rattle.shorthand.specs.Edition.{letters, any_of}
use Rattle.profile.specs.Relation.{Settled}
use Rattle.reading.specs.declared.Block.{Block}
use Rattle.reading.specs.Relation.{Program, chars}
use Rattle.punching.specs.Rows.{row_of}
use Rattle.places.specs.Begins.{Digit}
use Rattle.places.specs.Faults.{last_of, Spoilt, BehindCR}

-- t is a tape of the program bs under the edition e, the shorthand s and the profile p, but for the limit of rows: within it, it is one (`TapeOf`)
pub record LongTape (e : ℕ) (s p : List ℕ) (bs : List Block) (t : List ℕ) : Type 0 where
  pub format : Format
  pub settled : Settled e s p format
  pub even : Every (λ b. T (even b)) t
  pub known : Every (λ b. T (among (character b) characters)) t
  pub formed : WellFormed t
  pub stands : Program format bs (chars (kept t))

-- some rows behind u make a program's tape
abbrev pub Opens : ℕ → List ℕ → List ℕ → List ℕ → Type 0
Opens e s p u = (m : List ℕ) × (bs : List Block) × LongTape e s p bs (u ++ m)

-- no rows behind u do
abbrev pub Shuts : ℕ → List ℕ → List ℕ → List ℕ → Type 0
Shuts e s p u = (m : List ℕ) (bs : List Block) → LongTape e s p bs (u ++ m) → ⊥

-- the rows of t before a kept row, with these characters punched in its place and behind it
abbrev pub instead : List ℕ → KeptRow → List ℕ → List ℕ
instead t l cs = take l.place t ++ map row_of cs

-- the address of a word: nothing right behind a tab, or an item's letter
abbrev pub Address : ℕ → List ℕ → Type 0
Address last [] = last ≡ 9
Address last (c ∷ []) = T (any_of (λ l. eqb l c) letters)
Address last (c ∷ (d ∷ x)) = ⊥

-- the tape t is refused by n at k
pub data TapePlace (e : ℕ) (s p t : List ℕ) : ℕ → ℕ → Type 0 where
  -- 8 to 12: the rows before k could still become a program's tape, and with row k no more
  first_wrong : {n k : ℕ} → 8 ≤ n → n ≤ 12 → k < length t → Opens e s p (take k t) → Shuts e s p (take (suc k) t) → TapePlace e s p t n k
  -- 8 and 10 at a CR: the next kept row is the one that cannot stand there
  cr_alone : {n : ℕ} (b a : List KeptRow) (cr r : KeptRow) → (n ≡ 8) ⊎ (n ≡ 10) → kept t ≡ b ++ (cr ∷ (r ∷ a)) → cr.char ≡ 13 → (r.char ≡ 10 → ⊥)
      → Opens e s p (take r.place t) → Shuts e s p (take (suc r.place) t) → TapePlace e s p t n cr.place
  -- 9, 10 and 14 at a CR of a block with neither number nor word, or behind it: the rows before the CR could, and with it no more
  empty_cr : {n k : ℕ} (b a : List KeptRow) (cr : KeptRow) → kept t ≡ b ++ (cr ∷ a) → cr.char ≡ 13 → BehindCR (length t) cr a n k
      → Opens e s p (take cr.place t) → Shuts e s p (take (suc cr.place) t) → TapePlace e s p t n k
  -- 13 at the word's first row: no digit stands behind its digits ds; other digits, as many, could stand behind the same address, and these no more
  unsaid : (b w a : List KeptRow) (r : KeptRow) (m ds : List ℕ) → kept t ≡ b ++ (r ∷ (w ++ a)) → chars (r ∷ w) ≡ m ++ ds → Address (last_of (chars b)) m → Every Digit ds
      → ((d : KeptRow) (v : List KeptRow) → a ≡ d ∷ v → Digit d.char → ⊥) → ((o : List ℕ) × Every Digit o × (length o ≡ length ds) × Opens e s p (instead t r (m ++ o)))
      → Shuts e s p (instead t r (m ++ ds)) → TapePlace e s p t 13 r.place
  -- 8 and 14: the whole tape still could, and is no program's itself
  ended : {n : ℕ} → (n ≡ 8) ⊎ (n ≡ 14) → Opens e s p t → ((bs : List Block) → LongTape e s p bs t → ⊥) → TapePlace e s p t n (length t)
  -- 11 before 13: the digits ds before row r are past saving; with other digits, as many, behind the same address the rows could, and with r behind them, whatever the digits, no more
  past_saving : {k : ℕ} (b v a : List KeptRow) (l r : KeptRow) (m ds : List ℕ) → kept t ≡ b ++ (l ∷ (v ++ (r ∷ a))) → chars (l ∷ v) ≡ m ++ ds → Address (last_of (chars b)) m → Spoilt k ds → Every Digit ds
      → Shuts e s p (take r.place t) → ((o : List ℕ) × Every Digit o × (length o ≡ length ds) × Opens e s p (instead t l (m ++ o)))
      → ((o : List ℕ) → Every Digit o → length o ≡ length ds → Shuts e s p (instead t l (m ++ (o ++ (r.char ∷ []))))) → TapePlace e s p t 11 r.place
  -- the same where the tape ends before there are enough digits
  cut_past_saving : {k : ℕ} (b v : List KeptRow) (l : KeptRow) (m ds : List ℕ) → kept t ≡ b ++ (l ∷ v) → chars (l ∷ v) ≡ m ++ ds → Address (last_of (chars b)) m → Spoilt k ds → Every Digit ds → Shuts e s p t
      → ((o : List ℕ) × Every Digit o × (length o ≡ length ds) × Opens e s p (instead t l (m ++ o))) → TapePlace e s p t 14 (length t)
