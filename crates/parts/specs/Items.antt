-- How an item stands, by how its word is known, which item is due next, and where a block without number may begin (documents 01, "Four stages", and 02, 2/12
-- and 5/12).
use Rattle.std.specs.Prelude.{ℕ, ◌<◌, ◌≡◌, Bool, true, false, ◌&&◌, ◌||◌, not, cond, List, [], ◌∷◌, eqb, ltb, length, get_or}
use Rattle.rows.specs.Kept.{KeptRow}
use Rattle.shorthand.specs.declared.Item.{Item}
use Rattle.shorthand.specs.declared.Format.{Format}
use Rattle.shorthand.specs.Layout.{blank, items_of, Way, by_letter, by_both, by_tab, way_of}
use Rattle.words.specs.Figures.{fronts, behind, front_place, figure_next}
use Rattle.parts.specs.declared.Rules.{Rules}

-- ---- how an item stands

-- whether the next item can be reached: with tabs an HT stands at the front
abbrev pub steps : Way → List KeptRow → Bool
steps by_letter rs = true
steps by_both rs = fronts 9 rs
steps by_tab rs = fronts 9 rs

abbrev pub stepped : Way → List KeptRow → List KeptRow
stepped by_letter rs = rs
stepped by_both rs = behind rs
stepped by_tab rs = behind rs

-- whether the word of the item with the letter c begins here: with its address, or without addresses with a digit or a sign
abbrev pub begins : Way → ℕ → List KeptRow → Bool
begins by_letter c rs = fronts c rs
begins by_both c rs = fronts c rs
begins by_tab c rs = figure_next rs

-- the rows behind the address, where words have one
abbrev pub past_address : Way → List KeptRow → List KeptRow
past_address by_letter rs = behind rs
past_address by_both rs = behind rs
past_address by_tab rs = rs

-- it can't be reached; its word is left out before these rows; or its word begins at a row, with its data at the front of these
pub data Standing : Type 0 where
  stops : Standing
  out : List KeptRow → Standing
  at : ℕ → List KeptRow → Standing

abbrev pub standing : Way → ℕ → List KeptRow → Standing
standing w c rs =
    cond (steps w rs) (cond (begins w c (stepped w rs)) (at (front_place (stepped w rs)) (past_address w (stepped w rs))) (out (stepped w rs))) stops

-- ---- which item is due

abbrev pub item_at : Format → ℕ → Item
item_at f k = get_or f.items k blank

abbrev pub letter_at : Format → ℕ → ℕ
letter_at f k = (item_at f k).letter

-- where a character leads
abbrev pub lead_of : List ℕ → ℕ → ℕ
lead_of leads c = get_or leads c 22

-- each of the 256 characters leads to the item with that letter, or to 22, where there is none
pub record Leads (f : Format) (leads : List ℕ) : Type 0 where
  pub all : 256 ≡ length leads
  pub own : (k : ℕ) → k < f.count → lead_of leads (letter_at f k) ≡ k
  pub others : (c : ℕ) → ((k : ℕ) → k < f.count → letter_at f k ≡ c → ⊥) → lead_of leads c ≡ 22

-- without tabs an item before item k is not due again
abbrev pub due_from : List ℕ → ℕ → List KeptRow → ℕ
due_from leads k [] = 22
due_from leads k (r ∷ rs) = cond (ltb (lead_of leads r.char) k) 22 (lead_of leads r.char)

-- the first item from item k on that may have a word at the front: with tabs item k itself, without them the one that the front leads to, or 22
unfoldable pub due_at : List ℕ → Bool → ℕ → List KeptRow → ℕ
due_at leads dots k rs = cond dots k (due_from leads k rs)

-- ---- a block without number

-- what an item's turn begins with: its HT, or without tabs its letter
abbrev pub turn : Way → Item → ℕ
turn by_letter it = it.letter
turn by_both it = 9
turn by_tab it = 9

abbrev pub any_turn : Way → List Item → List KeptRow → Bool
any_turn y [] rs = false
any_turn y (it ∷ its) rs = fronts (turn y it) rs || any_turn y its rs

-- LF, or CR before it
abbrev pub end_next : List KeptRow → Bool
end_next rs = fronts 10 rs || fronts 13 rs

-- where the Format allows it a block without number may begin with an item's turn; or with an end, which finds it empty
abbrev pub bare_in : Format → List KeptRow → Bool
bare_in f rs = f.unnumbered && (any_turn (way_of f) (items_of f) rs || end_next rs)

-- the same by what a step knows: with tabs the front is HT and there is an item, without them it leads to one
unfoldable pub bare_by : Rules → List ℕ → List KeptRow → Bool
bare_by u leads [] = false
bare_by u leads (r ∷ rs) =
    u.unnumbered && (((not u.dots || eqb r.char 9) && ltb (due_at leads u.dots 0 (r ∷ rs)) u.items) || end_next (r ∷ rs))

-- ---- what a step has to know of a Format

-- a further fact of a Format goes in here, and no loop over steps sees it
abbrev pub rules_of : Format → Rules
rules_of f = record { unnumbered = f.unnumbered; digits = f.sequence; dots = f.dots; addresses = f.addresses; items = f.count }
