-- What reading and punching rest on: facts of every Format that the shorthand can give.
use Rattle.std.specs.Prelude.{◌+◌, ◌≤◌, not, ◌≡◌, List, [], ◌∷◌, map, T, eqb}
use Rattle.shorthand.specs.declared.Kind.{Kind}
use Rattle.shorthand.specs.declared.Kind.TheVariants.{Plain, Speed, Dimension}
use Rattle.shorthand.specs.declared.Item.{Item}
use Rattle.shorthand.specs.declared.Format.{Format}
use Rattle.shorthand.specs.Layout.{items_of, format_of, addressed}
use Rattle.shorthand.specs.Edition.{letters, any_of}

-- 1 to 9 digits of a plain word, 2 to 5 of a speed, 1 to 18 of a dimension
abbrev pub Widths : Kind → Type 0
Widths (Plain n) = (1 ≤ n) × (n ≤ 9)
Widths (Speed n) = (2 ≤ n) × (n ≤ 5)
Widths (Dimension d) = (d.before ≤ 9) × (d.after ≤ 9) × (1 ≤ d.before + d.after)

-- each item has one of the 22 letters and fit widths, and no letter stands twice
pub data Fair : List Item → Type 0 where
  none : Fair []
  more : {it : Item} {its : List Item} → T (any_of (λ c. eqb c it.letter) letters) → Widths it.kind → T (not (any_of (λ c. eqb c it.letter) (map (λ i. i.letter) its)))
      → Fair its → Fair (it ∷ its)

pub record Facts (f : Format) : Type 0 where
  pub sequence : (3 ≤ f.sequence) × (f.sequence ≤ 9)
  pub few : f.count ≤ 22
  pub fair : Fair (items_of f)
  pub parts : f ≡ addressed f.addresses (format_of f.unnumbered f.sequence f.dots (items_of f))
