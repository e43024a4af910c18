-- The answer: the Format under a profile, or 22 with its place, or 23 (document 02, 2/12).
use Rattle.std.specs.Prelude.{ℕ, suc, Bool, true, false, ◌&&◌, ◌||◌, not, cond, List, [], ◌∷◌, eqb, leb}
use Rattle.std.specs.Bool.{beq}
use Rattle.rows.specs.Answer.{Answer, taken, refused, ◌>>=◌}
use Rattle.rows.specs.Row.{among}
use Rattle.shorthand.specs.declared.Edition.{Edition}
use Rattle.shorthand.specs.declared.Edition.TheVariants.{Iso1057, Iso2539}
use Rattle.shorthand.specs.declared.Item.{Item}
use Rattle.shorthand.specs.declared.Format.{Format}
use Rattle.shorthand.specs.Layout.{items_of}
use Rattle.shorthand.specs.Edition.{number_of}
use Rattle.shorthand.specs.Parse.{parsed}
use Rattle.profile.specs.declared.General.{General}
use Rattle.profile.specs.Form.{Slot, form_of}
use Rattle.profile.specs.Agreement.{said_in, is_dimension, is_increment, is_rotary, is_counted, how_many, under}

abbrev pub then : ℕ → Answer (List ℕ) → Answer (List ℕ)
then b a = a >>= λ bs. taken (b ∷ bs)

-- the byte at each place of the form, 0 where none stands; 22 at the first wrong byte or the length, the text beginning at the place p
unfoldable pub filled : List Slot → ℕ → List ℕ → Answer (List ℕ)
filled [] p [] = taken []
filled [] p (b ∷ t) = refused 22 p
filled (s ∷ ss) p [] = cond s.must (refused 22 p) (then 0 (filled ss p []))
filled (s ∷ ss) p (b ∷ t) = cond (among b s.bytes) (then b (filled ss (suc p) t)) (cond s.must (refused 22 p) (then 0 (filled ss p (b ∷ t))))

-- ---- agreement

abbrev pub any_item : (Item → Bool) → List Item → Bool
any_item f [] = false
any_item f (it ∷ its) = f it || any_item f its

-- A: no dots; S and T: dots
abbrev pub dots_agree : ℕ → Bool → Bool
dots_agree way dots = not (eqb way 65 && dots) && not ((eqb way 83 || eqb way 84) && not dots)

abbrev pub none : List Item → Bool
none [] = true
none (it ∷ its) = false

-- last A: no "D" item; last I: no other dimension
abbrev pub moves_agree : ℕ → List Item → Bool
moves_agree moves its =
    not (eqb moves 65 && any_item (λ it. is_increment it.kind) its) && not (eqb moves 73 && any_item (λ it. is_dimension it.kind && not (is_increment it.kind)) its)

unfoldable pub agrees : Format → General → Bool
agrees f g =
    beq (eqb g.rotary 0) (not (any_item is_rotary (items_of f))) && (none (items_of f) || dots_agree g.way f.dots) && moves_agree g.moves (items_of f)
    && eqb (how_many is_counted (items_of f)) g.second && leb g.third g.second && leb g.second g.first

-- ---- a profile

-- 23 where the detailed shorthand does not agree
abbrev pub held_to : Format → General → Answer Format
held_to f g = cond (agrees f g) (taken (under g f)) (refused 23 0)

-- the Format under a profile; one of no bytes is none
unfoldable pub profiled : Edition → Format → List ℕ → Answer Format
profiled e f [] = taken f
profiled e f (b ∷ p) = filled (form_of e) 0 (b ∷ p) >>= λ bs. held_to f (said_in e bs)

-- the edition with the number n; where there is none, 1 comes before it is asked for
abbrev pub edition_of : ℕ → Edition
edition_of n = cond (eqb n (number_of Iso1057)) Iso1057 Iso2539

-- the Format of an edition, a detailed shorthand and a profile: 1, 2 and 3, and then 22 and 23
unfoldable pub agreed : ℕ → List ℕ → List ℕ → Answer Format
agreed n s p = parsed n s >>= λ f. profiled (edition_of n) f p
