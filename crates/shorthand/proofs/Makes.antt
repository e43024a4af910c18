-- What digits make: it goes by the first three and by there being more, and by the letter.
use Prim.Native.Nat.{ℕ}
use mathlib.Core.Path.{◌≡◌, refl}
use mathlib.Core.Logic.{◌⊎◌, inl, inr}
use mathlib.Core.Bool.{Bool, true, false, ◌&&◌, ◌||◌, cond}
use mathlib.Core.List.{List, [], ◌∷◌}
use lib.Dec.{eqb}
use borrow.Author.Tests.{ne_eqb}
use Rattle.shorthand.specs.declared.Edition.{Edition}
use Rattle.shorthand.specs.declared.Order.{Order}
use Rattle.shorthand.specs.declared.Kind.{Kind}
use Rattle.shorthand.specs.declared.Kind.TheVariants.{Speed}
use Rattle.shorthand.specs.declared.Mark.{Mark}
use Rattle.shorthand.specs.declared.Mark.TheVariants.{Unmarked, Plus, Delta}
use Rattle.shorthand.specs.declared.Digits.TheVariants.{Empty, Many}
use Rattle.shorthand.specs.Edition.{speed_least, allowed}
use Rattle.shorthand.specs.Lawful.{digit_in}
use Rattle.shorthand.specs.Order.{due_as_feed, due_as_dimension, due_in_turn}
use Rattle.shorthand.specs.Stand.{Pieces, Made, made, more, wrong, one_digit, dimensioned, unmarked, either, as_dimension, turn_made, in_turn, kind_made}
use Rattle.shorthand.specs.Places.{digits_in, added_all}

-- ---- the first three digits are enough

many : (ds : List ℕ) → added_all Many ds ≡ Many
unfolding added_all
many [] = refl
many (d ∷ ds) = many ds

-- what is the same for all digits past three is told by the digits that the code holds
enough : {A : Type 0} (f : List ℕ → A) → ((a b c d : ℕ) (ds : List ℕ) → f (0 ∷ 0 ∷ 0 ∷ 0 ∷ []) ≡ f (a ∷ b ∷ c ∷ d ∷ ds))
    → (ds : List ℕ) → f (digits_in (added_all Empty ds)) ≡ f ds
unfolding added_all
enough f past [] = refl
enough f past (a ∷ []) = refl
enough f past (a ∷ (b ∷ [])) = refl
enough f past (a ∷ (b ∷ (c ∷ []))) = refl
enough f past (a ∷ (b ∷ (c ∷ (d ∷ ds)))) = rw (many ds) (past a b c d ds)

pub one-enough : {A : Type 0} (lo hi : ℕ) (k : ℕ → A) (ds : List ℕ) → one_digit lo hi k (digits_in (added_all Empty ds)) ≡ one_digit lo hi k ds
one-enough lo hi k = enough (one_digit lo hi k) (λ a b c d ds. refl)

abbrev kind_of : Edition → Order → ℕ → Mark → List ℕ → Made Kind
kind_of e o c m ds = kind_made e o (record { letter = c; mark = m; digits = ds; rest = [] })

pub kind-enough : (e : Edition) (o : Order) (c : ℕ) (m : Mark) (ds : List ℕ) → kind_of e o c m (digits_in (added_all Empty ds)) ≡ kind_of e o c m ds
kind-enough e o c m = enough (kind_of e o c m) (λ x y z w ds. refl)

-- ---- by the letter

either-wrong : {A : Type 0} (x : Made A) → either x wrong ≡ x
either-wrong (made a) = refl
either-wrong more = refl
either-wrong wrong = refl

-- the first of two readings, unless it is wrong
abbrev pub unless : {A : Type 0} → Made A → Made A → Made A
unless (made a) y = made a
unless more y = more
unless wrong y = y

abbrev feed : ℕ → Bool → Mark → List ℕ → Made Kind
feed lo due m ds = cond due (unmarked m (one_digit lo 5 Speed ds)) wrong

-- of no digits a feed wants more and a dimension makes nothing; of any a feed wants no more
feed-else : (e : Edition) (lo : ℕ) (due b : Bool) (m : Mark) (ds : List ℕ) → either (feed lo due m ds) (cond b (dimensioned e m ds) wrong) ≡ unless (feed lo due m ds) (cond b (dimensioned e m ds) wrong)
feed-else e lo false b m ds = refl
feed-else e lo true b Plus ds = refl
feed-else e lo true b Delta ds = refl
feed-else e lo true true Unmarked [] = refl
feed-else e lo true false Unmarked [] = refl
feed-else e lo true b Unmarked (d ∷ []) = go (digit_in lo 5 d)
  where
    go : (x : Bool) → either (cond x (made (Speed d)) wrong) (cond b more wrong) ≡ unless (cond x (made (Speed d)) wrong) (cond b more wrong)
    go true = refl
    go false = refl
feed-else e lo true b Unmarked (d ∷ (x ∷ ds)) = refl

no-turn : (e : Edition) (o : Order) (p : Pieces) → turn_made e p.letter p.digits ≡ wrong → in_turn e o p ≡ wrong
no-turn e o p h = rw h (go (due_in_turn o p.letter) p.mark)
  where
    go : (b : Bool) (m : Mark) → ◌≡◌ {A = Made Kind} (cond b (unmarked m wrong) wrong) wrong
    go true Unmarked = refl
    go true Plus = refl
    go true Delta = refl
    go false m = refl

module _ (e : Edition) (o : Order) (p : Pieces) where
  -- F, E or D
  pub kind-feed : eqb p.letter 70 || eqb p.letter 69 || eqb p.letter 68 ≡ true → turn_made e p.letter p.digits ≡ wrong
      → kind_made e o p ≡ unless (feed (speed_least e p.letter) (due_as_feed o p.letter) p.mark p.digits) (as_dimension e o p)
  kind-feed f t = rw (f, no-turn e o p t, either-wrong) (feed-else e (speed_least e p.letter) (due_as_feed o p.letter) (allowed e p.letter && due_as_dimension o p.letter) p.mark p.digits)

  -- any other letter
  pub kind-dimension : eqb p.letter 70 || eqb p.letter 69 || eqb p.letter 68 ≡ false → turn_made e p.letter p.digits ≡ wrong → kind_made e o p ≡ as_dimension e o p
  kind-dimension f t = rw (f, no-turn e o p t, either-wrong)

pub turn-none : (e : Edition) {c : ℕ} (ds : List ℕ) → ((c ≡ 71) ⊎ (c ≡ 77) → ⊥) → (c ≡ 84 → ⊥) → (c ≡ 83 → ⊥) → turn_made e c ds ≡ wrong
turn-none e {c} ds p q r = rw (ne_eqb c 71 (λ h. p (inl h)), ne_eqb c 77 (λ h. p (inr h)), ne_eqb c 84 q, ne_eqb c 83 r)
