-- What settles how blocks move the axes, step by step: the "D" items of a letter, and the axes that have them.
use Prim.Native.Nat.{ℕ, ◌+◌, ◌≤◌, ◌<◌}
use native.Mathlib.Numerals.{add-one}
use native.Mathlib.Omega.{arith}
use mathlib.Core.Path.{◌≡◌, ◌∙◌}
use mathlib.Core.Bool.{Bool, ◌&&◌}
use mathlib.Core.List.{List, map}
use lib.Dec.{eqb}
use lib.ListN.{length, get_or, set, take, drop, length-set, get_or-map}
use lib.Seq.{take-suc, take-suc-set}
use Rattle.shorthand.specs.declared.Item.{Item}
use Rattle.profile.specs.Agreement.{is_increment}
use Rattle.profile.specs.Answers.{any_item}
use Rattle.slides.specs.Axes.{axes}

-- ---- a "D" item of a letter

abbrev pub delta_of : ℕ → Item → Bool
delta_of c it = eqb it.letter c && is_increment it.kind

-- of some items those before item k are none
abbrev pub Unmet : ℕ → List Item → ℕ → Type 0
Unmet c its k = any_item (delta_of c) its ≡ any_item (delta_of c) (drop k its)

-- ---- what is asked of each axis, stored at its place

module _ (g : ℕ → Bool) where
  -- the first a places
  pub record Filled (ds : List Bool) (a : ℕ) : Type 0 where
    pub long : length ds ≡ 14
    pub few : a ≤ 14
    pub same : take a ds ≡ take a (map g axes)

  module _ {ds : List Bool} {a : ℕ} (s : Filled ds a) where
    pub fill-goes-on : a < 14 → {b : Bool} → b ≡ g (get_or axes a 0) → Filled (set ds a b) (a + 1)
    fill-goes-on l {b} e =
        record {
          long = length-set ds a b ∙ s.long;
          few = omega arith;
          same =
              rw (add-one, take-suc-set ds a b (omega (arith, s.long)), take-suc (map g axes) a (g 0) l, s.same, get_or-map g axes a 0, e);
        }
