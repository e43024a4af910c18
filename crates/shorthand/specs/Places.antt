-- What the answers of the code's private functions say: a place of the text stands for the text from there on.
use Rattle.std.specs.Prelude.{ℕ, ◌+◌, ◌≤◌, ◌<◌, max, ◌≡◌, Bool, List, [], ◌∷◌, length, drop, set, Option, Some, None, Result, Ok, Err}
use Rattle.rows.specs.Answer.{Answer, taken, refused, refusal}
use Rattle.rows.specs.declared.refusals.Refusal.{Refusal}
use Rattle.shorthand.specs.declared.Kind.{Kind}
use Rattle.shorthand.specs.declared.Item.{Item}
use Rattle.shorthand.specs.declared.Format.{Format}
use Rattle.shorthand.specs.declared.Digits.{Digits}
use Rattle.shorthand.specs.declared.Digits.TheVariants.{Empty, One, Two, Three, Many}
use Rattle.shorthand.specs.declared.Order.{Order}
use Rattle.shorthand.specs.declared.Edition.{Edition}
use Rattle.shorthand.specs.declared.Edition.TheVariants.{Iso2539}
use Rattle.shorthand.specs.declared.Draft.{Draft}
use Rattle.shorthand.specs.declared.Read.{Read}
use Rattle.shorthand.specs.declared.Seen.{Seen}
use Rattle.shorthand.specs.declared.Unmade.{Unmade}
use Rattle.shorthand.specs.declared.Unmade.TheVariants.{Short, Unfit}
use Rattle.shorthand.specs.Stand as stands
use Rattle.shorthand.specs.Spell.{starts}
use Rattle.shorthand.specs.Stand.{Made, made, more, wrong, Dots, Stand, whole, short, unfit, nothing, item, seen, stand, stand_n}
use Rattle.shorthand.specs.Parse.{beyond, leads}

-- ---- digits

-- the digits that the code holds; past three they make nothing, whatever they are
abbrev pub digits_in : Digits → List ℕ
digits_in Empty = []
digits_in (One a) = a ∷ []
digits_in (Two a b) = a ∷ b ∷ []
digits_in (Three a b c) = a ∷ b ∷ c ∷ []
digits_in Many = 0 ∷ 0 ∷ 0 ∷ 0 ∷ []

-- the same with one digit more
abbrev pub added : Digits → ℕ → Digits
added Empty d = One d
added (One a) d = Two a d
added (Two a b) d = Three a b d
added (Three a b c) d = Many
added Many d = Many

unfoldable pub added_all : Digits → List ℕ → Digits
added_all ds [] = ds
added_all ds (d ∷ r) = added_all (added ds d) r

-- ---- places

-- n is the place in t, from the place at on, where rest begins
pub record Begins (t : List ℕ) (at : ℕ) (rest : List ℕ) (n : ℕ) : Type 0 where
  pub there : drop n t ≡ rest
  pub behind : at ≤ n
  pub within : n ≤ max at (length t)

-- ---- what the code's answers say, in the definitions' words

-- digits make a kind, or could yet, or make none
abbrev pub making_by : {A B : Type 0} → (A → B) → Result A Unmade → Made B
making_by k (Ok a) = made (k a)
making_by k (Err Short) = more
making_by k (Err Unfit) = wrong

abbrev pub making : Result Kind Unmade → Made Kind
making r = making_by (λ k. k) r

-- an item's pieces, before rest
abbrev pub pieces_in : List ℕ → Draft → stands.Pieces
pieces_in rest d = record { letter = d.letter; mark = d.mark; digits = digits_in d.digits; rest = rest }

abbrev pub drafted : Bool → List ℕ → Option Draft → stands.Seen
drafted dot rest None = nothing dot
drafted dot rest (Some d) = item dot (pieces_in rest d)

abbrev pub seen_in : List ℕ → Seen → stands.Seen
seen_in t s = drafted s.dot (drop s.after t) s.draft

-- s is what stands in t from the place at on: every edition judges it alike, and it ends behind that place and within t
pub record Sees (t : List ℕ) (at : ℕ) (s : Seen) : Type 0 where
  pub dot : s.dot ≡ starts 46 (drop at t)
  pub stands : (e : Edition) (dots : Dots) (o : Order) → stand e dots o (seen_in t s) ≡ stand e dots o (seen (drop at t))
  pub behind : at < s.after
  pub within : s.after ≤ length t

-- of an item before rest
abbrev pub found : List ℕ → Result Item Unmade → Stand Item
found rest (Ok it) = whole it rest
found rest (Err Short) = short
found rest (Err Unfit) = unfit

-- the N item in the text t: its digit, with the place behind it, or the refusal that it leads to
abbrev pub Opens : Edition → List ℕ → Result (Read ℕ) Refusal → Type 0
Opens e t (Ok r) = (stand_n e t ≡ whole r.value (drop r.after t)) × (r.after ≤ length t)
Opens e t (Err r) = (k : ℕ → List ℕ → Answer Format) → leads 0 t (stand_n e t) (beyond (stand_n Iso2539 t)) k ≡ refusal r

-- ---- the Format

-- one item more, and the dots that it has
abbrev pub pushed : Format → Bool → Item → Format
pushed f dots it = record { unnumbered = f.unnumbered; sequence = f.sequence; dots = dots; addresses = f.addresses; count = f.count + 1; items = set f.items f.count it }

-- behind "*", at the place p
abbrev pub ending : Format → ℕ → List ℕ → Answer Format
ending f p [] = taken f
ending f p (b ∷ t) = refused 2 p
