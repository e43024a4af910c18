-- What a general shorthand says, and when a detailed one agrees with it, as a relation (document 02, 2/12; refusal 23).
use Rattle.std.specs.Prelude.{ℕ, suc, ◌-◌, ◌≤◌, ◌≡◌, ◌⊎◌, ◌↔◌, Bool, true, false, ◌&&◌, not, cond, List, [], ◌∷◌, eqb, get_or}
use Rattle.rows.specs.Row.{among}
use Rattle.rows.specs.Passes.{Every}
use Rattle.shorthand.specs.declared.Edition.{Edition}
use Rattle.shorthand.specs.declared.Edition.TheVariants.{Iso1057, Iso2539}
use Rattle.shorthand.specs.declared.Kind.{Kind}
use Rattle.shorthand.specs.declared.Kind.TheVariants.{Plain, Speed, Dimension}
use Rattle.shorthand.specs.declared.Item.{Item}
use Rattle.shorthand.specs.declared.Format.{Format}
use Rattle.shorthand.specs.Layout.{items_of, addressed, incremental}
use Rattle.profile.specs.declared.General.{General}

abbrev pub only_later : Edition → ℕ → ℕ
only_later Iso1057 b = 0
only_later Iso2539 b = b

-- what the bytes at the places of the form say; 1057 has neither A, T or S nor A, I or B
abbrev pub said_in : Edition → List ℕ → General
said_in e bs =
    record {
      way = only_later e (get_or bs 1 0);
      rotary = get_or bs 3 0;
      first = get_or bs 5 48 - 48;
      second = get_or bs 6 48 - 48;
      third = get_or bs 7 48 - 48;
      moves = only_later e (get_or bs 9 0);
    }

-- ---- the items of the detailed shorthand

abbrev pub is_dimension : Kind → Bool
is_dimension (Plain n) = false
is_dimension (Speed n) = false
is_dimension (Dimension d) = true

-- a "D" item
abbrev pub is_increment : Kind → Bool
is_increment (Plain n) = false
is_increment (Speed n) = false
is_increment (Dimension d) = incremental d.mark

-- A, B, C, D or E as a dimension
abbrev pub is_rotary : Item → Bool
is_rotary it = is_dimension it.kind && among it.letter (65 ∷ 66 ∷ 67 ∷ 68 ∷ 69 ∷ [])

-- a dimension but I, J and K
abbrev pub is_counted : Item → Bool
is_counted it = is_dimension it.kind && not (among it.letter (73 ∷ 74 ∷ 75 ∷ []))

abbrev pub how_many : (Item → Bool) → List Item → ℕ
how_many f [] = 0
how_many f (it ∷ its) = cond (f it) (suc (how_many f its)) (how_many f its)

-- ---- agreement

pub record Agrees (f : Format) (g : General) : Type 0 where
  -- neither R nor D stands exactly when none of A to E is a dimension
  pub rotary : (g.rotary ≡ 0) ↔ Every (λ it. is_rotary it ≡ false) (items_of f)
  -- A means no dots, S and T dots; without items there is nothing to say
  pub dots : (items_of f ≡ []) ⊎ ((g.way ≡ 65 → f.dots ≡ false) × (g.way ≡ 83 → f.dots ≡ true) × (g.way ≡ 84 → f.dots ≡ true))
  -- last A: no "D" item; last I: no dimension but "D" items
  pub absolute : g.moves ≡ 65 → Every (λ it. is_increment it.kind ≡ false) (items_of f)
  pub increments : g.moves ≡ 73 → Every (λ it. is_dimension it.kind ≡ true → is_increment it.kind ≡ true) (items_of f)
  -- the dimensions but I, J and K are as many as the second digit, the third digit is not above it, nor it above the first
  pub counted : how_many is_counted (items_of f) ≡ g.second
  pub third : g.third ≤ g.second
  pub second : g.second ≤ g.first

-- ---- what it means for whoever reads a tape

-- T: tabs and no word addresses
abbrev pub under : General → Format → Format
under g f = addressed (not (eqb g.way 84)) f
