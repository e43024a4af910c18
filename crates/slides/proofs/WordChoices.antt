-- What the words of a block choose: G90 and G91, and no other word.
use Prim.Native.Nat.{ℕ, ◌+◌, ◌≤◌, ◌<◌}
use mathlib.Core.Path.{◌≡◌, sym, ◌∙◌}
use mathlib.Core.Bool.{Bool}
use mathlib.Core.List.{List}
use native.Mathlib.Numerals.{add-one}
use lib.ListN.{length, get_or, drop, drop_of_length-le}
use lib.Seq.{drop-cons}
use Rattle.words.specs.declared.Word.{Word}
use Rattle.slides.specs.Moves.{chosen_by, chosen_in}

-- ---- words, one behind another

module _ (ws : List Word) (first : Bool) where
  -- before word i this is chosen
  abbrev pub Choosing : ℕ → Bool → Type 0
  Choosing i old = chosen_in ws first ≡ chosen_in (drop i ws) old

  module _ {i : ℕ} (old : Bool) (h : Choosing i old) where
    pub choose-on : i < length ws → (d : Word) (new : Bool) → new ≡ chosen_by (get_or ws i d).letter (get_or ws i d).value old → Choosing (i + 1) new
    unfolding chosen_in
    choose-on l d new e = h ∙ rw (add-one, drop-cons ws i d l, e)

    pub choose-end : length ws ≤ i → old ≡ chosen_in ws first
    unfolding chosen_in
    choose-end l = sym (h ∙ rw (drop_of_length-le ws {i = i} l))
