-- Which Formats an edition allows, as a relation (documents 01, "The shorthand", and 02, 1/12, 4/12 and 5/12).
use Rattle.std.specs.Prelude.{ℕ, ◌≡◌, Bool, false, ◌&&◌, ◌||◌, not, List, [], ◌∷◌, ◌++◌, map, T, eqb, leb}
use Rattle.std.specs.Bool.{beq}
use Rattle.rows.specs.Passes.{Every}
use Rattle.shorthand.specs.declared.Missing.{Missing}
use Rattle.shorthand.specs.declared.Missing.TheVariants.{Nothing, Leading, Trailing}
use Rattle.shorthand.specs.declared.Kind.{Kind}
use Rattle.shorthand.specs.declared.Kind.TheVariants.{Plain, Speed, Dimension}
use Rattle.shorthand.specs.declared.Item.{Item}
use Rattle.shorthand.specs.declared.Format.{Format}
use Rattle.shorthand.specs.declared.Edition.{Edition}
use Rattle.shorthand.specs.Layout.{format_of}
use Rattle.shorthand.specs.Edition.{number_of, later, sequence_most, speed_least, speed_most, allowed, any_of}

abbrev pub digit_in : ℕ → ℕ → ℕ → Bool
digit_in lo hi d = leb lo d && leb d hi

-- ---- one item

abbrev pub plain_kind : ℕ → ℕ → Kind → Bool
plain_kind lo hi (Plain n) = digit_in lo hi n
plain_kind lo hi (Speed n) = false
plain_kind lo hi (Dimension d) = false

-- the coded speed of a letter
abbrev pub speed_kind : Edition → ℕ → Kind → Bool
speed_kind e c (Plain n) = false
speed_kind e c (Speed n) = digit_in (speed_least e c) speed_most n
speed_kind e c (Dimension d) = false

-- two digits, not `00`; in 2539 also three: `0ab` with b not 0, `ab0` with a not 0
abbrev pub figures_fit : Edition → Missing → ℕ → ℕ → Bool
figures_fit e Nothing a b = not (eqb a 0 && eqb b 0)
figures_fit e Leading a b = later e && not (eqb b 0)
figures_fit e Trailing a b = later e && not (eqb a 0)

abbrev pub dimension_kind : Edition → Kind → Bool
dimension_kind e (Plain n) = false
dimension_kind e (Speed n) = false
dimension_kind e (Dimension d) =
    leb d.before 9 && leb d.after 9 && figures_fit e d.missing d.before d.after && beq d.bare (later e)

-- G2 and M2; T with 1 to 9; S
abbrev pub is_g : Item → Bool
is_g it = eqb it.letter 71 && plain_kind 2 2 it.kind

abbrev pub is_s : Edition → Item → Bool
is_s e it = eqb it.letter 83 && speed_kind e it.letter it.kind

abbrev pub is_t : Item → Bool
is_t it = eqb it.letter 84 && plain_kind 1 9 it.kind

abbrev pub is_m : Item → Bool
is_m it = eqb it.letter 77 && plain_kind 2 2 it.kind

-- the first, second and third feed: F, E and D
abbrev pub is_feed : Edition → Item → Bool
is_feed e it = (eqb it.letter 70 || eqb it.letter 69 || eqb it.letter 68) && speed_kind e it.letter it.kind

-- the second and third may stand behind their own axis
abbrev pub is_own_feed : Edition → Item → Bool
is_own_feed e it = (eqb it.letter 69 || eqb it.letter 68) && speed_kind e it.letter it.kind

-- the dimension of a letter
abbrev pub is_dimension : Edition → ℕ → Item → Bool
is_dimension e c it = eqb it.letter c && allowed e c && dimension_kind e it.kind

-- ---- the order of the items

-- items that pass some of these tests, each at most one, in their order
pub data InTurn : List (Item → Bool) → List Item → Type 0 where
  none : InTurn [] []
  left : {f : Item → Bool} {fs : List (Item → Bool)} {its : List Item} → InTurn fs its → InTurn (f ∷ fs) its
  next : {f : Item → Bool} {fs : List (Item → Bool)} {it : Item} {its : List Item} → T (f it) → InTurn fs its → InTurn (f ∷ fs) (it ∷ its)

-- dimensions of some of these letters, in their order, each with at most one E or D feed directly behind it
pub data Axes (e : Edition) : List ℕ → List Item → Type 0 where
  none : Axes e [] []
  left : {c : ℕ} {cs : List ℕ} {its : List Item} → Axes e cs its → Axes e (c ∷ cs) its
  axis : {c : ℕ} {cs : List ℕ} {it : Item} {its : List Item} → T (is_dimension e c it) → Axes e cs its → Axes e (c ∷ cs) (it ∷ its)
  fed : {c : ℕ} {cs : List ℕ} {it own : Item} {its : List Item} → T (is_dimension e c it) → T (is_own_feed e own) → Axes e cs its → Axes e (c ∷ cs) (it ∷ own ∷ its)

-- X Y Z U V W P Q R, then I J K, then A B C D E
abbrev pub axes : List ℕ
axes = 88 ∷ 89 ∷ 90 ∷ 85 ∷ 86 ∷ 87 ∷ 80 ∷ 81 ∷ 82 ∷ 73 ∷ 74 ∷ 75 ∷ 65 ∷ 66 ∷ 67 ∷ 68 ∷ 69 ∷ []

-- no letter twice
pub data Distinct : List ℕ → Type 0 where
  none : Distinct []
  more : {c : ℕ} {cs : List ℕ} → T (not (any_of (λ d. eqb d c) cs)) → Distinct cs → Distinct (c ∷ cs)

abbrev pub letters_of : List Item → List ℕ
letters_of its = map (λ i. i.letter) its

-- G2; the dimensions, with feeds behind their own axis; behind the last of them feeds in any order; S, T, M2; no letter twice
pub record Ordered (e : Edition) (its : List Item) : Type 0 where
  pub general : List Item
  pub dimensions : List Item
  pub feeds : List Item
  pub others : List Item
  pub parts : its ≡ general ++ (dimensions ++ (feeds ++ others))
  pub first : InTurn (is_g ∷ []) general
  pub second : Axes e axes dimensions
  pub third : Every (λ it. T (is_feed e it)) feeds
  pub last : InTurn (is_s e ∷ is_t ∷ is_m ∷ []) others
  pub once : Distinct (letters_of its)

-- 1057 requires the dots; where there is no item there are none
abbrev pub dots_fit : Edition → Bool → List Item → Bool
dots_fit e dots [] = not dots
dots_fit e dots (it ∷ its) = later e || dots

-- a Format of an edition; in 2539 alone a block may have no number
pub record LawfulIn (e : Edition) (f : Format) : Type 0 where
  pub items : List Item
  pub sequence : T (digit_in 3 (sequence_most e) f.sequence)
  pub dots : T (dots_fit e f.dots items)
  pub order : Ordered e items
  pub parts : f ≡ format_of (later e) f.sequence f.dots items

-- and of the edition that has the number n
pub record Lawful (n : ℕ) (f : Format) : Type 0 where
  pub edition : Edition
  pub number : n ≡ number_of edition
  pub within : LawfulIn edition f
