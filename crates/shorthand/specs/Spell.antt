-- The one text of a Format (document 01, "The shorthand"): N item, word items, "*".
use Rattle.std.specs.Prelude.{ℕ, ◌+◌, Bool, true, false, ◌&&◌, List, [], ◌∷◌, ◌++◌, eqb, leb}
use Rattle.shorthand.specs.declared.Mark.{Mark}
use Rattle.shorthand.specs.declared.Mark.TheVariants.{Unmarked, Plus, Delta}
use Rattle.shorthand.specs.declared.Missing.{Missing}
use Rattle.shorthand.specs.declared.Missing.TheVariants.{Nothing, Leading, Trailing}
use Rattle.shorthand.specs.declared.Kind.{Kind}
use Rattle.shorthand.specs.declared.Kind.TheVariants.{Plain, Speed, Dimension}
use Rattle.shorthand.specs.declared.Item.{Item}
use Rattle.shorthand.specs.declared.Format.{Format}
use Rattle.shorthand.specs.Layout.{items_of}

abbrev pub digit : ℕ → ℕ
digit d = 48 + d

abbrev pub is_digit : ℕ → Bool
is_digit b = leb 48 b && leb b 57

-- the byte c stands at the front of a text
abbrev pub starts : ℕ → List ℕ → Bool
starts c [] = false
starts c (b ∷ t) = eqb b c

-- "+" or "D", or nothing
abbrev pub spell_mark : Mark → List ℕ
spell_mark Unmarked = []
spell_mark Plus = 43 ∷ []
spell_mark Delta = 68 ∷ []

-- `ab`; `0ab` where leading zeros may be missing; `ab0` where trailing ones may
abbrev pub spell_figures : Missing → ℕ → ℕ → List ℕ
spell_figures Nothing a b = digit a ∷ digit b ∷ []
spell_figures Leading a b = digit 0 ∷ digit a ∷ digit b ∷ []
spell_figures Trailing a b = digit a ∷ digit b ∷ digit 0 ∷ []

abbrev pub spell_kind : Kind → List ℕ
spell_kind (Plain n) = digit n ∷ []
spell_kind (Speed n) = digit n ∷ []
spell_kind (Dimension d) = spell_mark d.mark ++ spell_figures d.missing d.before d.after

-- each word item begins with a dot, or none does
abbrev pub spell_dot : Bool → List ℕ
spell_dot true = 46 ∷ []
spell_dot false = []

abbrev pub spell_item : Bool → Item → List ℕ
spell_item dots it = spell_dot dots ++ (it.letter ∷ spell_kind it.kind)

unfoldable pub spell_items : Bool → List Item → List ℕ
spell_items dots [] = []
spell_items dots (it ∷ its) = spell_item dots it ++ spell_items dots its

unfoldable pub spell : Format → List ℕ
spell f = 78 ∷ digit f.sequence ∷ (spell_items f.dots (items_of f) ++ (42 ∷ []))
