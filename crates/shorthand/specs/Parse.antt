-- The answer: the Format of a shorthand under an edition, or refusal 1, 2 or 3 with its place (document 01, "The shorthand").
use Rattle.std.specs.Prelude.{ℕ, zero, suc, ◌+◌, ◌-◌, Bool, false, cond, List, [], ◌∷◌, ◌++◌, length, eqb, Some, None}
use Rattle.rows.specs.Answer.{Answer, taken, refused, ◌>>=◌}
use Rattle.shorthand.specs.declared.Item.{Item}
use Rattle.shorthand.specs.declared.Format.{Format}
use Rattle.shorthand.specs.declared.Order.{Order}
use Rattle.shorthand.specs.declared.Edition.{Edition}
use Rattle.shorthand.specs.declared.Edition.TheVariants.{Iso1057, Iso2539}
use Rattle.shorthand.specs.Layout.{format_of}
use Rattle.shorthand.specs.Edition.{number_of, later}
use Rattle.shorthand.specs.Order.{start, after}
use Rattle.shorthand.specs.Spell.{starts}
use Rattle.shorthand.specs.Stand.{Dots, Stand, whole, short, unfit, seen, stand, stand_n}

-- an item past mending is 2 where further bytes couldn't bring it into form, else 3: 2539 holds whatever is in form at all
abbrev pub beyond : {A : Type 0} → Stand A → ℕ
beyond (whole a rest) = 3
beyond short = 3
beyond unfit = 2

abbrev pub is_dotted : Dots → Bool
is_dotted None = false
is_dotted (Some dot) = dot

-- where the walk over the items stands: N's digits, the dots, what may still come, the items so far, and the place
pub record Here : Type 0 where
  pub sequence : ℕ
  pub dots : Dots
  pub order : Order
  pub items : List Item
  pub place : ℕ

-- behind one item more, which began with a dot or not and had so many bytes
abbrev pub onward : Here → Bool → Item → ℕ → Here
onward h dot it n = record { sequence = h.sequence; dots = Some dot; order = after h.order it; items = h.items ++ (it ∷ []); place = h.place + n }

-- after "*" nothing stands
abbrev pub after_star : Edition → Here → List ℕ → Answer Format
after_star e h [] = taken (format_of (later e) h.sequence (is_dotted h.dots) h.items)
after_star e h (b ∷ t) = refused 2 (h.place + 1)

-- an item that is whole leads on; a short one only lacks the end of the text, "*" with it; one past mending is refused at its first byte
abbrev pub leads : {A : Type 0} → ℕ → List ℕ → Stand A → ℕ → (A → List ℕ → Answer Format) → Answer Format
leads p t (whole a rest) n k = k a rest
leads p t short n k = refused 2 (p + length t)
leads p t unfit n k = refused n p

-- at the front of a text stands nothing, "*", or an item
abbrev pub at_front : Answer Format → (List ℕ → Answer Format) → Answer Format → List ℕ → Answer Format
at_front nothing star item [] = nothing
at_front nothing star item (b ∷ t) = cond (eqb b 42) (star t) item

-- the text t from here on; a missing "*" is 2 at the length. The first argument is at least the length of t
unfoldable pub items_from : ℕ → Edition → Here → List ℕ → Answer Format
items_from zero e h t = refused 2 h.place
items_from (suc n) e h t =
    at_front (refused 2 h.place) (after_star e h)
    (leads h.place t (stand e h.dots h.order (seen t)) (beyond (stand Iso2539 h.dots h.order (seen t)))
    (λ it rest. items_from n e (onward h (starts 46 t) it (length t - length rest)) rest))
    t

-- behind N
abbrev pub opening : ℕ → ℕ → Here
opening seq p = record { sequence = seq; dots = None; order = start; items = []; place = p }

-- 2 or 3 by an edition
unfoldable pub parsed_in : Edition → List ℕ → Answer Format
parsed_in e t = leads 0 t (stand_n e t) (beyond (stand_n Iso2539 t)) (λ seq rest. items_from (length t) e (opening seq (length t - length rest)) rest)

-- the edition that has a number; 1 where it is neither 1057 nor 2539
abbrev pub edition_by : ℕ → Answer Edition
edition_by n = cond (eqb n (number_of Iso1057)) (taken Iso1057) (cond (eqb n (number_of Iso2539)) (taken Iso2539) (refused 1 0))

-- 1, and then 2 or 3
unfoldable pub parsed : ℕ → List ℕ → Answer Format
parsed n t = edition_by n >>= λ e. parsed_in e t
