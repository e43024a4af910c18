-- How a block moves the axes: what its words set or add, and whether it counts at all (document 02, 11/12).
use Rattle.std.specs.Prelude.{ℕ, suc, ◌-◌, Bool, true, false, ◌||◌, ◌&&◌, not, cond, List, [], ◌∷◌, map, eqb, ltb, ℤ, pos, ◌+ℤ◌, length, get_or, set, replicate, Option, None, Some}
use Rattle.rows.specs.Answer.{Answer, taken, refused, ◌>>=◌}
use Rattle.shorthand.specs.declared.Format.{Format}
use Rattle.shorthand.specs.Layout.{items_of}
use Rattle.profile.specs.Agreement.{is_increment}
use Rattle.profile.specs.Answers.{any_item}
use Rattle.words.specs.declared.Value.{Value}
use Rattle.words.specs.declared.Value.TheVariants.{Number, Speed, Dimension}
use Rattle.words.specs.declared.Word.{Word}
use Rattle.reading.specs.declared.Block.{Block}
use Rattle.reading.specs.Record.{words_of}
use Rattle.slides.specs.declared.Travel.{Travel}
use Rattle.slides.specs.declared.Slides.{Slides}
use Rattle.slides.specs.declared.Rule.{Rule}
use Rattle.slides.specs.declared.Motion.{Motion}
use Rattle.slides.specs.Axes.{axes, axis_of, of, within}

-- ---- what settles how blocks move the axes

-- a shorthand marked B: its profile ends in B
abbrev pub choosing : List ℕ → Bool
choosing p = eqb (get_or p (length p - 1) 0) 66

-- whether the letter c has a "D" item
abbrev pub is_delta : Format → ℕ → Bool
is_delta f c = any_item (λ it. eqb it.letter c && is_increment it.kind) (items_of f)

abbrev pub rule_of : Format → List ℕ → Travel → Bool → Rule
rule_of f p t slashed = record { chooses = choosing p; deltas = map (is_delta f) axes; slashed = slashed; travel = t }

-- ---- one word

-- G90 chooses absolute places and G91 increments; a word, and what was chosen before it
abbrev pub chosen_by : ℕ → Value → Bool → Bool
chosen_by c (Number n) old = cond (eqb c 71 && eqb n 90) false (cond (eqb c 71 && eqb n 91) true old)
chosen_by c (Dimension z) old = old
chosen_by c (Speed s) old = old

-- a word of the axis a, if there is such an axis: a dimension moves it, to or by its value
abbrev pub motion_by : ℕ → Value → Option Motion
motion_by a (Dimension x) = cond (ltb a (length axes)) (Some (record { axis = a; value = x })) None
motion_by a (Number n) = None
motion_by a (Speed s) = None

abbrev pub motion_of : Word → Option Motion
motion_of w = motion_by (axis_of w.letter) w.value

-- whether a word of axis a adds: where G90 and G91 choose, by what they chose; elsewhere by its item's mark
abbrev pub adds : Rule → Bool → ℕ → Bool
adds r increments a = cond r.chooses increments (get_or r.deltas a false)

-- a value set, or added to the place z
abbrev pub put : Bool → ℤ → ℤ → ℤ
put false z x = x
put true z x = z +ℤ x

-- where axis a stands behind its word
abbrev pub placed : Rule → Bool → List ℤ → ℕ → ℤ → ℤ
placed r increments zs a x = put (adds r increments a) (of zs a) x

-- the places behind a word: that of its axis alone is another
abbrev pub moved : Rule → Bool → List ℤ → Option Motion → List ℤ
moved r increments zs None = zs
moved r increments zs (Some m) = set zs m.axis (placed r increments zs m.axis m.value)

-- a word puts its axis outside the travel; of other axes nothing is asked
abbrev pub leaves : Rule → Bool → List ℤ → Option Motion → Bool
leaves r increments zs None = false
leaves r increments zs (Some m) = not (within r.travel m.axis (placed r increments zs m.axis m.value))

-- ---- one block

-- what is chosen behind some words, and so for all words of their block
unfoldable pub chosen_in : List Word → Bool → Bool
chosen_in [] old = old
chosen_in (w ∷ ws) old = chosen_in ws (chosen_by w.letter w.value old)

-- where G90 and G91 choose nothing, nothing is ever chosen
abbrev pub chosen : Rule → List Word → Bool → Bool
chosen r ws old = cond r.chooses (chosen_in ws old) old

-- the words of block k, one behind another; 27 at the block
unfoldable pub words_tried : Rule → Bool → ℕ → List Word → List ℤ → Answer (List ℤ)
words_tried r increments k [] zs = taken zs
words_tried r increments k (w ∷ ws) zs =
    cond (leaves r increments zs (motion_of w)) (refused 27 k) (words_tried r increments k ws (moved r increments zs (motion_of w)))

-- a block without "/" counts, and one with it as the operator's switch says
abbrev pub counts : Rule → Block → Bool
counts r b = not b.skip || r.slashed

-- block k: its G word chooses for all its words; a block that does not count is passed by wholly
abbrev pub counted : Rule → ℕ → List Word → Slides → Answer Slides
counted r k ws s =
    words_tried r (chosen r ws s.increments) k ws s.places >>= λ zs. taken (record { places = zs; increments = chosen r ws s.increments })

unfoldable pub block_tried : Rule → ℕ → Block → Slides → Answer Slides
block_tried r k b s = cond (counts r b) (counted r k (words_of b) s) (taken s)

-- ---- some blocks

-- zero on every axis, and absolute
abbrev pub start : Slides
start = record { places = replicate (length axes) (pos 0); increments = false }

-- block k and those behind it
unfoldable pub followed : Rule → ℕ → List Block → Slides → Answer Slides
followed r k [] s = taken s
followed r k (b ∷ bs) s = block_tried r k b s >>= followed r (suc k) bs
