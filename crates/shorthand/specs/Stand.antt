-- How an item stands at a place of the text: whole, or short and still to be mended by further bytes, or past mending (documents 01, "The shorthand", and 02, 1/12 and 4/12).
use Rattle.std.specs.Prelude.{ℕ, ◌-◌, Bool, ◌&&◌, ◌||◌, cond, List, [], ◌∷◌, eqb, Option, Some, None}
use Rattle.std.specs.Bool.{beq}
use Rattle.shorthand.specs.declared.Mark.{Mark}
use Rattle.shorthand.specs.declared.Mark.TheVariants.{Unmarked, Plus, Delta}
use Rattle.shorthand.specs.declared.Missing.{Missing}
use Rattle.shorthand.specs.declared.Missing.TheVariants.{Nothing, Leading, Trailing}
use Rattle.shorthand.specs.declared.Kind.{Kind}
use Rattle.shorthand.specs.declared.Kind.TheVariants.{Plain, Speed, Dimension}
use Rattle.shorthand.specs.declared.Item.{Item}
use Rattle.shorthand.specs.declared.Order.{Order}
use Rattle.shorthand.specs.declared.Edition.{Edition}
use Rattle.shorthand.specs.Spell.{starts, is_digit}
use Rattle.shorthand.specs.Edition.{later, sequence_most, speed_least, speed_most, allowed}
use Rattle.shorthand.specs.Lawful.{digit_in, figures_fit}
use Rattle.shorthand.specs.Order.{due_as_feed, due_as_dimension, due_in_turn, any_due}

-- ---- the pieces of a text

abbrev pub without : ℕ → List ℕ → List ℕ
without c [] = []
without c (b ∷ t) = cond (eqb b c) t (b ∷ t)

-- an item's digits are all that stand together
unfoldable pub digits_of : List ℕ → List ℕ
digits_of [] = []
digits_of (b ∷ t) = cond (is_digit b) ((b - 48) ∷ digits_of t) []

unfoldable pub after_digits : List ℕ → List ℕ
after_digits [] = []
after_digits (b ∷ t) = cond (is_digit b) (after_digits t) (b ∷ t)

abbrev pub mark_of : List ℕ → Mark
mark_of t = cond (starts 43 t) Plus (cond (starts 68 t) Delta Unmarked)

abbrev pub after_mark : List ℕ → List ℕ
after_mark t = cond (starts 43 t) (without 43 t) (without 68 t)

-- an item's pieces behind its dot: the letter, the mark, all the digits that stand together, and what comes after
pub record Pieces : Type 0 where
  pub letter : ℕ
  pub mark : Mark
  pub digits : List ℕ
  pub rest : List ℕ

abbrev pub pieces : ℕ → List ℕ → Pieces
pieces c t = record { letter = c; mark = mark_of t; digits = digits_of (after_mark t); rest = after_digits (after_mark t) }

-- ---- what digits make

-- digits make a kind, or more could, or none do
pub data Made (A : Type 0) : Type 0 where
  made : A → Made A
  more : Made A
  wrong : Made A

abbrev pub one_digit : {A : Type 0} → ℕ → ℕ → (ℕ → A) → List ℕ → Made A
one_digit lo hi k [] = more
one_digit lo hi k (d ∷ []) = cond (digit_in lo hi d) (made (k d)) wrong
one_digit lo hi k (d ∷ (x ∷ ds)) = wrong

abbrev pub figured : Edition → Mark → Missing → ℕ → ℕ → Kind
figured e m z a b = Dimension (record { mark = m; before = a; after = b; missing = z; bare = later e })

-- three digits name the end at which zeros may be missing by the one outer zero
abbrev pub three_digits : Edition → Mark → ℕ → ℕ → ℕ → Made Kind
three_digits e m x y z =
    cond (eqb x 0 && figures_fit e Leading y z) (made (figured e m Leading y z))
    (cond (eqb z 0 && figures_fit e Trailing x y) (made (figured e m Trailing x y)) wrong)

-- `00` makes no item, but in 2539 a third digit may
abbrev pub two_digits : Edition → Mark → ℕ → ℕ → Made Kind
two_digits e m a b = cond (figures_fit e Nothing a b) (made (figured e m Nothing a b)) (cond (later e) more wrong)

abbrev pub dimensioned : Edition → Mark → List ℕ → Made Kind
dimensioned e m [] = more
dimensioned e m (a ∷ []) = more
dimensioned e m (a ∷ (b ∷ [])) = two_digits e m a b
dimensioned e m (x ∷ (y ∷ (z ∷ []))) = three_digits e m x y z
dimensioned e m (x ∷ (y ∷ (z ∷ (w ∷ ds)))) = wrong

-- only a dimension has a mark
abbrev pub unmarked : {A : Type 0} → Mark → Made A → Made A
unmarked Unmarked d = d
unmarked Plus d = wrong
unmarked Delta d = wrong

-- two readings of the same digits: what one of them makes; else more, where one of them wants more
abbrev pub either : {A : Type 0} → Made A → Made A → Made A
either (made a) y = made a
either more (made a) = made a
either more more = more
either more wrong = more
either wrong y = y

-- the coded speed of a letter
abbrev pub speed_made : Edition → ℕ → List ℕ → Made Kind
speed_made e c ds = one_digit (speed_least e c) speed_most Speed ds

-- F, E and D as feeds
abbrev pub as_feed : Edition → Order → Pieces → Made Kind
as_feed e o p =
    cond ((eqb p.letter 70 || eqb p.letter 69 || eqb p.letter 68) && due_as_feed o p.letter) (unmarked p.mark (speed_made e p.letter p.digits)) wrong

abbrev pub as_dimension : Edition → Order → Pieces → Made Kind
as_dimension e o p = cond (allowed e p.letter && due_as_dimension o p.letter) (dimensioned e p.mark p.digits) wrong

-- G2 and M2; T with 1 to 9; S
abbrev pub turn_made : Edition → ℕ → List ℕ → Made Kind
turn_made e c ds =
    cond (eqb c 71 || eqb c 77) (one_digit 2 2 Plain ds) (cond (eqb c 84) (one_digit 1 9 Plain ds) (cond (eqb c 83) (speed_made e c ds) wrong))

abbrev pub in_turn : Edition → Order → Pieces → Made Kind
in_turn e o p = cond (due_in_turn o p.letter) (unmarked p.mark (turn_made e p.letter p.digits)) wrong

-- whether E or D is a feed or a dimension is settled by mark and digits
abbrev pub kind_made : Edition → Order → Pieces → Made Kind
kind_made e o p = either (as_feed e o p) (either (as_dimension e o p) (in_turn e o p))

-- ---- how an item stands

pub data Stand (A : Type 0) : Type 0 where
  whole : A → List ℕ → Stand A
  short : Stand A
  unfit : Stand A

-- where more digits are wanted, further bytes could bring them only at the end of the text
abbrev pub closed : {A B : Type 0} → (A → B) → Made A → List ℕ → Stand B
closed f (made a) rest = whole (f a) rest
closed f more [] = short
closed f more (b ∷ t) = unfit
closed f wrong rest = unfit

abbrev pub lettered : Edition → Order → Pieces → Stand Item
lettered e o p = closed (λ k. record { letter = p.letter; kind = k }) (kind_made e o p) p.rest

-- whether the word items begin with a dot, once the first has settled it
abbrev pub Dots : Type 0
Dots = Option Bool

-- in 1057 they do
abbrev pub dot_fits : Edition → Dots → Bool → Bool
dot_fits e None dot = later e || dot
dot_fits e (Some settled) dot = beq dot settled

-- what stands at the front of a text: an item's pieces, behind a dot or not; or the text ends there
pub data Seen : Type 0 where
  nothing : Bool → Seen
  item : Bool → Pieces → Seen

abbrev pub behind_dot : Bool → List ℕ → Seen
behind_dot dot [] = nothing dot
behind_dot dot (c ∷ t) = item dot (pieces c t)

unfoldable pub seen : List ℕ → Seen
seen t = behind_dot (starts 46 t) (without 46 t)

abbrev pub dot_of : Seen → Bool
dot_of (nothing dot) = dot
dot_of (item dot p) = dot

-- at the end of the text an item could still come, or none
abbrev pub named : Edition → Order → Seen → Stand Item
named e o (nothing dot) = cond (any_due o) short unfit
named e o (item dot p) = lettered e o p

-- a word item so seen, behind these dots and in this order
unfoldable pub stand : Edition → Dots → Order → Seen → Stand Item
stand e dots o s = cond (dot_fits e dots (dot_of s)) (named e o s) unfit

-- the N item at the front of t
unfoldable pub stand_n : Edition → List ℕ → Stand ℕ
stand_n e [] = short
stand_n e (c ∷ t) = cond (eqb c 78) (closed (λ d. d) (one_digit 3 (sequence_most e) (λ d. d) (digits_of t)) (after_digits t)) unfit
