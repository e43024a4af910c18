-- What a refusal of the fourth stage says, by its number and place, of the rows (documents 01, "Refusal numbers" and its paragraph on order, and 02, 5/12).
use Rattle.std.specs.Prelude.{ℕ, ◌^◌, ◌≤◌, ◌<◌, ◌≡◌, ◌⊎◌, Bool, true, cond, List, [], ◌∷◌, ◌++◌, length, ℤ}
use Rattle.rows.specs.Answer.{refused}
use Rattle.rows.specs.Kept.{KeptRow, kept}
use Rattle.rows.specs.Passes.{Every, Passes}
use Rattle.speeds.specs.Meaning.{speed_for}
use Rattle.shorthand.specs.declared.Kind.{Kind}
use Rattle.shorthand.specs.declared.Item.{Item}
use Rattle.shorthand.specs.declared.Format.{Format}
use Rattle.shorthand.specs.Layout.{items_of, Way, by_letter, by_both, by_tab, way_of, width, missing_of, fewest, Sign, barred, required, sign_of}
use Rattle.profile.specs.Relation.{Settled}
use Rattle.reading.specs.declared.Block.{Block}
use Rattle.reading.specs.Relation.{digits, Signed, address, End, skip_rows, Program, chars}
use Rattle.places.specs.Begins.{Digit, Begins, Closes, Due, Empty}

-- ---- one row that does not fit

-- N or ":" with these digits, "/" before it or not
abbrev pub number_rows : Bool → Bool → List ℕ → List ℕ
number_rows skip alignment ds = skip_rows skip ++ (cond alignment 58 78 ∷ ds)

-- with what an item's turn begins: its HT, or without tabs its letter
abbrev pub Turn : Way → Item → ℕ → Type 0
Turn by_letter it c = c ≡ it.letter
Turn by_both it c = c ≡ 9
Turn by_tab it c = c ≡ 9

-- neither an item's turn nor a CR, which an end begins with
abbrev pub NoTurn : Format → ℕ → Type 0
NoTurn f c = Every (λ it. Turn (way_of f) it c → ⊥) (items_of f) × (c ≡ 13 → ⊥)

-- none of the characters that a block may begin with: "/" but behind another, N and ":", and where there need be no number an item's turn
abbrev pub NoStart : Format → Bool → ℕ → Type 0
NoStart f skip c = (c ≡ 78 → ⊥) × (c ≡ 58 → ⊥) × (c ≡ 47 → skip ≡ true) × (f.unnumbered ≡ true → NoTurn f c)

-- too few digits and another row, or as many as may stand and one more
pub data Miscounted (least most : ℕ) (ds : List ℕ) (c : ℕ) : Type 0 where
  too_few : length ds < least → (Digit c → ⊥) → Miscounted least most ds c
  too_many : length ds ≡ most → Digit c → Miscounted least most ds c

abbrev pub SignRow : ℕ → Type 0
SignRow c = (c ≡ 43) ⊎ (c ≡ 45)

-- what a word's data begin with
abbrev pub FigureRow : ℕ → Type 0
FigureRow c = Digit c ⊎ SignRow c

-- the character may begin an item's data here: behind an address any may, at fault or not; behind a tab alone a digit or a sign
abbrev pub Enters : Way → ℕ → Type 0
Enters by_letter c = Unit {0}
Enters by_both c = Unit {0}
Enters by_tab c = FigureRow c

-- where the data begin: a sign that the item bars, or none where one must stand
pub data SignFault (y : Way) : Sign → ℕ → Type 0 where
  barred_sign : {c : ℕ} → SignRow c → SignFault y barred c
  missing_sign : {c : ℕ} → (SignRow c → ⊥) → Enters y c → SignFault y required c

-- the character goes on with what stands before it: a digit behind a digit, or a word's data right behind a tab where words have no address
pub data GoesOn (y : Way) (last c : ℕ) : Type 0 where
  digit_behind : Digit last → Digit c → GoesOn y last c
  data_behind : y ≡ by_tab → last ≡ 9 → FigureRow c → GoesOn y last c

-- where no sign and no digit stands yet, the count of digits is at fault: behind an address, unless the character is a sign; behind a tab alone no word has begun
abbrev pub NoneYet : Way → ℕ → Type 0
NoneYet by_letter c = SignRow c → ⊥
NoneYet by_both c = SignRow c → ⊥
NoneYet by_tab c = ⊥

-- where an end could stand: behind "%" (8), or where it would close a block (10)
pub data EndDue (f : Format) : ℕ → List ℕ → Type 0 where
  of_head : EndDue f 8 (37 ∷ [])
  of_block : {x : List ℕ} → Closes f x → EndDue f 10 x

-- the last of some rows
abbrev pub last_of : List ℕ → ℕ
last_of [] = 0
last_of (c ∷ []) = c
last_of (c ∷ (d ∷ x)) = last_of (d ∷ x)

-- why the character c does not fit behind the rows x, by the refusal's number
pub data Misfit (f : Format) : ℕ → List ℕ → ℕ → Type 0 where
  percent : {c : ℕ} → (c ≡ 37 → ⊥) → Misfit f 8 [] c
  end : {n c : ℕ} {x : List ℕ} → EndDue f n x → (c ≡ 10 → ⊥) → (c ≡ 13 → ⊥) → (GoesOn (way_of f) (last_of x) c → ⊥) → Misfit f n x c
  start : {c : ℕ} {bs : List Block} {h : List ℕ} (skip : Bool) → Program f bs h → NoStart f skip c → Misfit f 9 (h ++ skip_rows skip) c
  empty : {x : List ℕ} → Empty f x → Misfit f 9 x 10
  tabbed : {c : ℕ} {x : List ℕ} (e : Empty f x) → 0 < length e.passed → (c ≡ 10 → ⊥) → (c ≡ 13 → ⊥) → (GoesOn (way_of f) (last_of x) c → ⊥) → Misfit f 10 x c
  number : {c : ℕ} {bs : List Block} {h ds : List ℕ} (skip alignment : Bool) → Program f bs h → Every Digit ds → Miscounted f.sequence f.sequence ds c
      → Misfit f 9 (h ++ number_rows skip alignment ds) c
  figures : {c m : ℕ} {z : ℤ} {s ds : List ℕ} (it : Item) (x : List ℕ) → Due f it x → Signed m (sign_of it.kind) z s → Every Digit ds
      → Miscounted (fewest (missing_of it.kind) (width it.kind)) (width it.kind) ds c → (s ++ ds ≡ [] → NoneYet (way_of f) c)
      → Misfit f 11 (x ++ address (way_of f) it ++ (s ++ ds)) c
  sign : {c : ℕ} (it : Item) (x : List ℕ) → Due f it x → SignFault (way_of f) (sign_of it.kind) c → Misfit f 12 (x ++ address (way_of f) it) c

-- ---- a tape that ends too soon

-- within "%" and an end (8); or behind a program's rows within a block, so that they are no program's (14)
pub data Cut (f : Format) : ℕ → List ℕ → Type 0 where
  in_head : {x e : List ℕ} (more : List ℕ) → End e → x ++ more ≡ 37 ∷ e → 0 < length more → Cut f 8 x
  in_block : {bs : List Block} {h : List ℕ} (s : List ℕ) → Program f bs h → 0 < length s → ((cs : List Block) → Program f cs (h ++ s) → ⊥) → Cut f 14 (h ++ s)

-- ---- speeds

-- a word of a speed item with k digits could stand behind x
pub record SpeedDue (f : Format) (it : Item) (k : ℕ) (x : List ℕ) : Type 0 where
  pub speed : it.kind ≡ Kind.Speed k
  pub due : Due f it x

-- whatever digits follow these, the code of k digits that they begin is refused by 13
pub record Spoilt (k : ℕ) (ds : List ℕ) : Type 0 where
  pub fits : length ds ≤ k
  pub lost : (c : ℕ) (more : List ℕ) → c < 10 ^ k → ds ++ more ≡ digits k c → speed_for k c ≡ refused 13 0

-- ---- an end of a block with neither number nor word

-- by what stands behind its CR: LF, and 9 is there; another row, and 10 is at the CR; nothing, and the tape ends inside a block
pub data BehindCR (len : ℕ) (cr : KeptRow) : List KeptRow → ℕ → ℕ → Type 0 where
  an_lf : {r : KeptRow} {a : List KeptRow} → r.char ≡ 10 → BehindCR len cr (r ∷ a) 9 r.place
  another : {r : KeptRow} {a : List KeptRow} → (r.char ≡ 10 → ⊥) → BehindCR len cr (r ∷ a) 10 cr.place
  nothing : BehindCR len cr [] 14 len

-- ---- the refusals

pub data Refusal (f : Format) (len : ℕ) (rs : List KeptRow) : ℕ → ℕ → Type 0 where
  -- 8, 9, 10, 11, 12 at the first wrong row: the rows before it begin a program's, and with it no more
  at_row : {n : ℕ} (b a : List KeptRow) (r : KeptRow) → rs ≡ b ++ (r ∷ a) → Misfit f n (chars b) r.char → Begins f (chars b) → (Begins f (chars b ++ (r.char ∷ [])) → ⊥)
      → Refusal f len rs n r.place
  -- 8, 10 at a CR's own row: with it the rows begin a program's, and with the row behind it no more
  at_cr : {n : ℕ} (b a : List KeptRow) (cr r : KeptRow) → rs ≡ b ++ (cr ∷ (r ∷ a)) → EndDue f n (chars b) → cr.char ≡ 13 → (r.char ≡ 10 → ⊥)
      → Begins f (chars b ++ (13 ∷ [])) → (Begins f (chars b ++ (13 ∷ (r.char ∷ []))) → ⊥) → Refusal f len rs n cr.place
  -- 9, 10 and 14 at a CR of an empty block or behind it: the rows before the CR begin a program's, and with it no more
  empty_cr : {n p : ℕ} (b a : List KeptRow) (cr : KeptRow) → rs ≡ b ++ (cr ∷ a) → Empty f (chars b) → cr.char ≡ 13 → BehindCR len cr a n p
      → Begins f (chars b) → (Begins f (chars b ++ (13 ∷ [])) → ⊥) → Refusal f len rs n p
  -- 13 at the word's first row, its address or without one its first digit: the rows before it begin a program's, and up to its last digit no more; a further digit would be 11
  at_word : {k : ℕ} {it : Item} (c : ℕ) (b w a : List KeptRow) (r : KeptRow) → rs ≡ b ++ (r ∷ (w ++ a)) → SpeedDue f it k (chars b) → chars (r ∷ w) ≡ address (way_of f) it ++ digits k c
      → c < 10 ^ k → speed_for k c ≡ refused 13 0 → ((d : KeptRow) (l : List KeptRow) → a ≡ d ∷ l → Digit d.char → ⊥) → Begins f (chars b) → (Begins f (chars b ++ chars (r ∷ w)) → ⊥)
      → Refusal f len rs 13 r.place
  -- 8, 14 at the length: all rows begin a program's
  at_length : {n : ℕ} → Cut f n (chars rs) → Begins f (chars rs) → Refusal f len rs n len
  -- 11 before 13: the digits ds before the wrong row are past saving; other digits in their place begin a program's rows, and with the wrong row none do
  past_saving : {k : ℕ} {it : Item} (b ds a : List KeptRow) (r : KeptRow) (x : List ℕ) → rs ≡ b ++ (ds ++ (r ∷ a)) → SpeedDue f it k x → chars b ≡ x ++ address (way_of f) it
      → Spoilt k (chars ds) → Every Digit (chars ds) → Misfit f 11 (chars b ++ chars ds) r.char → (Begins f (chars b ++ chars ds) → ⊥)
      → ((o : List ℕ) × Every Digit o × (length o ≡ length ds) × Begins f (chars b ++ o))
      → ((o : List ℕ) → Every Digit o → length o ≡ length ds → Begins f (chars b ++ (o ++ (r.char ∷ []))) → ⊥) → Refusal f len rs 11 r.place
  -- the same where the tape ends before there are enough digits
  cut_past_saving : {k : ℕ} {it : Item} (b ds : List KeptRow) (x : List ℕ) → rs ≡ b ++ ds → SpeedDue f it k x → chars b ≡ x ++ address (way_of f) it → Spoilt k (chars ds)
      → Every Digit (chars ds) → length ds < k → Cut f 14 (chars rs) → (Begins f (chars rs) → ⊥)
      → ((o : List ℕ) × Every Digit o × (length o ≡ length ds) × Begins f (chars b ++ o))
      → Refusal f len rs 14 len

-- the tape t passes the first three stages, and under the edition e, the shorthand s and the profile p the fourth refuses it by n at k
pub record RefusalOf (e : ℕ) (s p t : List ℕ) (n k : ℕ) : Type 0 where
  pub format : Format
  pub settled : Settled e s p format
  pub passes : Passes t
  pub says : Refusal format (length t) (kept t) n k
