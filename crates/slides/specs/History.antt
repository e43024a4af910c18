-- What the history of an axis is, with no travel: once as a fold over the blocks, and once by what its own words say (document 02, 11/12).
use Rattle.std.specs.Prelude.{ℕ, ◌<◌, ◌≡◌, Bool, true, false, cond, List, [], ◌∷◌, ◌++◌, map, eqb, ℤ, pos, ◌+ℤ◌, length, get_or, take, Option, None, Some}
use Rattle.words.specs.declared.Word.{Word}
use Rattle.reading.specs.declared.Block.{Block}
use Rattle.reading.specs.Record.{words_of, empty_block}
use Rattle.slides.specs.declared.Slides.{Slides}
use Rattle.slides.specs.declared.Rule.{Rule}
use Rattle.slides.specs.declared.Motion.{Motion}
use Rattle.slides.specs.Moves.{motion_of, adds, moved, leaves, chosen, counts}

-- ---- a fold over the blocks

unfoldable pub words_moved : Rule → Bool → List Word → List ℤ → List ℤ
words_moved r increments [] zs = zs
words_moved r increments (w ∷ ws) zs = words_moved r increments ws (moved r increments zs (motion_of w))

-- a block that counts chooses first, and then moves the axes by its words
abbrev pub block_moved : Rule → Block → Slides → Slides
block_moved r b s =
    cond (counts r b)
    (record {
      places = words_moved r (chosen r (words_of b) s.increments) (words_of b) s.places;
      increments = chosen r (words_of b) s.increments;
    })
    s

unfoldable pub history : Rule → List Block → Slides → Slides
history r [] s = s
history r (b ∷ bs) s = history r bs (block_moved r b s)

-- ---- the words of one axis

-- what a word says to its axis
pub data Act : Type 0 where
  sets adding : ℤ → Act

abbrev pub act_by : Bool → ℤ → Act
act_by true x = adding x
act_by false x = sets x

-- what a word says to axis a
abbrev pub act_of : Rule → Bool → ℕ → Option Motion → List Act
act_of r increments a None = []
act_of r increments a (Some m) = cond (eqb a m.axis) (act_by (adds r increments m.axis) m.value ∷ []) []

abbrev pub acts_in : Rule → Bool → ℕ → List Word → List Act
acts_in r increments a [] = []
acts_in r increments a (w ∷ ws) = act_of r increments a (motion_of w) ++ acts_in r increments a ws

-- what some blocks say to axis a: those that count, with what was chosen before them
unfoldable pub acts_of : Rule → ℕ → Bool → List Block → List Act
acts_of r a old [] = []
acts_of r a old (b ∷ bs) =
    cond (counts r b) (acts_in r (chosen r (words_of b) old) a (words_of b) ++ acts_of r a (chosen r (words_of b) old) bs) (acts_of r a old bs)

abbrev pub sum : List ℤ → ℤ
sum [] = pos 0
sum (x ∷ xs) = x +ℤ sum xs

-- where an axis stands that began at zero: the sum of all that was added; or what it was set to last, and the sum of what was added since
pub data Stands : List Act → ℤ → Type 0 where
  never_set : (xs : List ℤ) → Stands (map adding xs) (sum xs)
  last_set : (before : List Act) (z : ℤ) (xs : List ℤ) → Stands (before ++ (sets z ∷ map adding xs)) (z +ℤ sum xs)

-- ---- leaving the travel

-- a block counts and has a word that puts its axis outside the travel, from where the words before it left the axes
pub record Leaves (r : Rule) (b : Block) (s : Slides) : Type 0 where
  pub counted : counts r b ≡ true
  pub before : List Word
  pub word : Word
  pub behind : List Word
  pub words : words_of b ≡ before ++ (word ∷ behind)
  pub outside : leaves r (chosen r (words_of b) s.increments) (words_moved r (chosen r (words_of b) s.increments) before s.places) (motion_of word) ≡ true

-- block k is the first of some that does, each from where those before it left the axes
pub record FirstLeaving (r : Rule) (bs : List Block) (s : Slides) (k : ℕ) : Type 0 where
  pub within : k < length bs
  pub leaving : Leaves r (get_or bs k empty_block) (history r (take k bs) s)
  pub none_before : (j : ℕ) → j < k → Leaves r (get_or bs j empty_block) (history r (take j bs) s) → ⊥
