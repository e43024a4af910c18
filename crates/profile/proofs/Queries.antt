-- What std's words say of items, in the definitions' words.
use Prim.Native.Nat.{suc}
use mathlib.Core.Path.{◌≡◌, refl, ap}
use mathlib.Core.Bool.{Bool, true, false, ◌&&◌, ◌||◌, not, cond}
use mathlib.Core.List.{List, [], ◌∷◌}
use native.Mathlib.Omega.{arith}
use lib.Dec.{eqb}
use lib.ListN.{length}
use borrow.Author.Tests.{ne_eqb}
use Rattle.std.specs.List.{list_any, filter}
use Rattle.shorthand.specs.declared.Item.{Item}
use Rattle.profile.specs.Agreement.{is_dimension, is_increment, how_many}
use Rattle.profile.specs.Answers.{any_item, none}

abbrev pub step : Item → Bool
step it = is_increment it.kind

abbrev pub absolute : Item → Bool
absolute it = is_dimension it.kind && not (is_increment it.kind)

pub any-item : (f : Item → Bool) (its : List Item) → list_any f its ≡ any_item f its
any-item f [] = refl
any-item f (it ∷ its) = ap (λ b. f it || b) (any-item f its)

pub counted-items : (f : Item → Bool) (its : List Item) → length (filter f its) ≡ how_many f its
counted-items f [] = refl
counted-items f (it ∷ its) = by (f it) (counted-items f its)
  where
    by : (b : Bool) → length (filter f its) ≡ how_many f its → length (cond b (it ∷ filter f its) (filter f its)) ≡ cond b (suc (how_many f its)) (how_many f its)
    by true h = ap suc h
    by false h = h

pub no_items : (its : List Item) → eqb (length its) 0 ≡ none its
no_items [] = refl
no_items (it ∷ its) = ne_eqb (suc (length its)) 0 (λ e. omega arith)
