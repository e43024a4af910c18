-- A Format as its parts: whether a block may have no number, N's digits, dots or none, whether words have addresses, and the items; and what reading and
-- punching need of these.
use Rattle.std.specs.Prelude.{ℕ, ◌+◌, ◌-◌, Bool, true, false, cond, List, [], ◌++◌, length, take, replicate}
use Rattle.shorthand.specs.declared.Mark.{Mark}
use Rattle.shorthand.specs.declared.Mark.TheVariants.{Unmarked, Plus, Delta}
use Rattle.shorthand.specs.declared.Missing.{Missing}
use Rattle.shorthand.specs.declared.Missing.TheVariants.{Nothing, Leading, Trailing}
use Rattle.shorthand.specs.declared.Kind.{Kind}
use Rattle.shorthand.specs.declared.Kind.TheVariants.{Plain, Speed, Dimension}
use Rattle.shorthand.specs.declared.Item.{Item}
use Rattle.shorthand.specs.declared.Format.{Format}

-- what an unused place holds
abbrev pub blank : Item
blank = record { letter = 0; kind = Plain 0 }

-- the Format with these parts: the items and then unused places, 22 in all; by the detailed shorthand words have addresses
abbrev pub format_of : Bool → ℕ → Bool → List Item → Format
format_of unnumbered n dots its =
    record { unnumbered = unnumbered; sequence = n; dots = dots; addresses = true; count = length its; items = its ++ replicate (22 - length its) blank }

-- a Format whose words have addresses, or not
abbrev pub addressed : Bool → Format → Format
addressed b f = record { unnumbered = f.unnumbered; sequence = f.sequence; dots = f.dots; addresses = b; count = f.count; items = f.items }

-- the items of a Format
abbrev pub items_of : Format → List Item
items_of f = take f.count f.items

-- what a refusal hands back
abbrev pub empty_format : Format
empty_format = format_of false 0 false []

-- how an item's word is known: by its address; by its tab, and the address behind it; or by its tab alone (A, S and T of the general shorthand)
pub data Way : Type 0 where
  by_letter by_both by_tab : Way

-- dots are tabs on the tape; without them words always have addresses
abbrev pub way_by : Bool → Bool → Way
way_by false addresses = by_letter
way_by true true = by_both
way_by true false = by_tab

-- how a Format's words are known
abbrev pub way_of : Format → Way
way_of f = way_by f.dots f.addresses

-- how many digits an item's word has, all punched
abbrev pub width : Kind → ℕ
width (Plain n) = n
width (Speed n) = n
width (Dimension d) = d.before + d.after

-- at which end zeros may be missing: in dimensions alone
abbrev pub missing_of : Kind → Missing
missing_of (Plain n) = Nothing
missing_of (Speed n) = Nothing
missing_of (Dimension d) = d.missing

-- the fewest digits of a number of n: all of them, or where zeros may be missing at least one
abbrev pub fewest : Missing → ℕ → ℕ
fewest Nothing n = n
fewest Leading n = 1
fewest Trailing n = 1

-- whether a sign may stand, and must
pub data Sign : Type 0 where
  barred required optional : Sign

-- no mark: never a sign; else by the edition, a missing sign means plus or is refused
abbrev pub mark_sign : Mark → Bool → Sign
mark_sign Unmarked bare = barred
mark_sign Plus bare = cond bare optional required
mark_sign Delta bare = cond bare optional required

abbrev pub sign_of : Kind → Sign
sign_of (Plain n) = barred
sign_of (Speed n) = barred
sign_of (Dimension d) = mark_sign d.mark d.bare

-- "D" is incremental, all else absolute
abbrev pub incremental : Mark → Bool
incremental Unmarked = false
incremental Plus = false
incremental Delta = true
