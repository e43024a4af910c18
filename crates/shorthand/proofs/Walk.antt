-- The walk over the word items: what it has at each item, and its answer where it ends.
use Prim.Native.Nat.{ℕ, zero, suc, ◌+◌, ◌-◌, ◌≤◌, ◌<◌}
use mathlib.Core.Path.{◌≡◌, refl, sym, ◌∙◌, ap}
use mathlib.Core.Bool.{Bool, false}
use mathlib.Core.List.{List, [], ◌∷◌, ◌++◌, append_assoc}
use native.Mathlib.Nat.{sub-zero}
use native.Mathlib.Numerals.{add-one}
use native.Mathlib.Omega.{arith}
use lib.ListN.{length, get_or, drop, length-drop, length-append, drop_of_length-le}
use lib.Dec.{T}
use borrow.Author.Tests.{ne_eqb}
use Rattle.std.specs.Prelude.{Some, None, Result, Ok, Err}
use Rattle.rows.specs.declared.refusals.Refusal.{Refusal}
use Rattle.rows.specs.Answer.{Answer, refused, refusal}
use Rattle.shorthand.specs.declared.Edition.{Edition}
use Rattle.shorthand.specs.declared.Edition.TheVariants.{Iso2539}
use Rattle.shorthand.specs.declared.Order.{Order}
use Rattle.shorthand.specs.declared.Item.{Item}
use Rattle.shorthand.specs.declared.Format.{Format}
use Rattle.shorthand.specs.declared.Read.{Read}
use Rattle.shorthand.specs.declared.Seen.{Seen}
use Rattle.shorthand.specs.declared.Unmade.{Unmade}
use Rattle.shorthand.specs.declared.Unmade.TheVariants.{Short, Unfit}
use Rattle.shorthand.specs.Layout.{blank, format_of}
use Rattle.shorthand.specs.Edition.{later}
use Rattle.shorthand.specs.Order.{start, due, after}
use Rattle.shorthand.specs.Spell.{starts}
use Rattle.shorthand.specs.Stand.{Dots, whole, seen, stand}
use Rattle.shorthand.specs.Parse.{beyond, is_dotted, Here, onward, after_star, leads, opening, items_from, parsed_in}
use Rattle.shorthand.specs.Places.{seen_in, Sees, found, Opens, pushed, ending}
use Rattle.shorthand.proofs.Padded.{padded-set}
use Rattle.shorthand.proofs.Grammar.{Items, done, next as then}
use Rattle.shorthand.proofs.Room.{room}
use Rattle.shorthand.proofs.Runs.{from_place}
use Rattle.shorthand.proofs.Standing.{whole-due}

from_nothing : (n : ℕ) (e : Edition) (h : Here) → items_from n e h [] ≡ refused 2 h.place
unfolding items_from
from_nothing zero e h = refl
from_nothing (suc n) e h = refl

ends : (e : Edition) (h : Here) (t : List ℕ) → after_star e h t ≡ ending (format_of (later e) h.sequence (is_dotted h.dots) h.items) (h.place + 1) t
ends e h [] = refl
ends e h (b ∷ t) = refl

pushed-format : (u : Bool) (seq : ℕ) (d b : Bool) (its : List Item) (it : Item) → length its < 22 → pushed (format_of u seq d its) b it ≡ format_of u seq (is_dotted (Some b)) (its ++ (it ∷ []))
pushed-format u seq d b its it h = rw (padded-set 22 blank it its h, length-append)

abbrev pub here_at : ℕ → Dots → Order → List Item → ℕ → Here
here_at seq dots o its at = record { sequence = seq; dots = dots; order = o; items = its; place = at }

-- behind the items its, each due, the text goes on at the place at, and the answer is a
pub record Walked (e : Edition) (seq : ℕ) (t : List ℕ) (a : Answer Format) (f : Format) (dots : Dots) (o : Order) (at : ℕ) : Type 0 where
  pub its : List Item
  pub holds : f ≡ format_of (later e) seq (is_dotted dots) its
  pub due_so_far : (more : List Item) → Items e o more → Items e start (its ++ more)
  pub passed : length its ≤ at
  pub answers : a ≡ items_from (length t - length its) e (here_at seq dots o its at) (drop at t)

pub walk-starts : (e : Edition) (seq : ℕ) (t : List ℕ) (at : ℕ) → Walked e seq t (items_from (length t) e (opening seq at) (drop at t)) (format_of (later e) seq false []) None start at
walk-starts e seq t at = record { its = []; holds = refl; due_so_far = λ more d. d; passed = omega arith; answers = rw sub-zero }

module _ {e : Edition} {seq : ℕ} {t : List ℕ} {a : Answer Format} {f : Format} {dots : Dots} {o : Order} {at : ℕ} (w : Walked e seq t a f dots o at) where
  pub walk-runs-out : length t ≤ at → a ≡ refused 2 at
  walk-runs-out h = w.answers ∙ rw (drop_of_length-le t h) (from_nothing (length t - length w.its) e (here_at seq dots o w.its at))

  module _ (h : at < length t) where
    -- one item of the walk: the fuel is what is left of the text's length
    step : a ≡ items_from (suc (length t - suc (length w.its))) e (here_at seq dots o w.its at) (drop at t)
    step =
        let n : length t - length w.its ≡ suc (length t - suc (length w.its)) = omega (arith, w.passed) in
        rw n at w.answers

    pub walk_ends : get_or t at 0 ≡ 42 → a ≡ ending f (at + 1) (drop (at + 1) t)
    unfolding items_from
    walk_ends s = step ∙ rw (from_place t at h, s, w.holds) (ends e (here_at seq dots o w.its at) (drop (at + 1) t))

    -- the next item as it is judged: the walk goes on behind a whole one, and ends at any other
    abbrev pub Met : Seen → Result Item Unmade → Type 0
    Met s (Ok it) = (f.count < 22) × Walked e seq t a (pushed f s.dot it) (Some s.dot) (after o it) s.after
    Met s (Err Short) = a ≡ refused 2 (length t)
    Met s (Err Unfit) = a ≡ refused (beyond (stand Iso2539 dots o (seen_in t s))) at

    module _ (n : get_or t at 0 ≡ 42 → ⊥) where
      item : a ≡ leads at (drop at t) (stand e dots o (seen (drop at t))) (beyond (stand Iso2539 dots o (seen (drop at t))))
          (λ it rest. items_from (length t - suc (length w.its)) e (onward (here_at seq dots o w.its at) (starts 46 (drop at t)) it (length (drop at t) - length rest)) rest)
      unfolding items_from
      item = step ∙ rw (from_place t at h, ne_eqb _ _ n)

      module _ (s : Seen) (v : Sees t at s) {it : Item} (r : whole it (drop s.after t) ≡ stand e dots o (seen (drop at t))) where
        next-due : T (due e o it)
        next-due = whole-due e dots o (drop at t) (sym r)

        few : length w.its < 22
        few = room w.its it (w.due_so_far (it ∷ []) (then next-due done))

        goes_on : Walked e seq t a (pushed f s.dot it) (Some s.dot) (after o it) s.after
        goes_on =
            let place : at + (length (drop at t) - length (drop s.after t)) ≡ s.after = rw (length-drop at t, length-drop s.after t) (omega (arith, v.behind, v.within)) in
            let more : length (w.its ++ (it ∷ [])) ≡ suc (length w.its) = rw (length-append, add-one) in
            record {
              its = w.its ++ (it ∷ []);
              holds = ap (λ g. pushed g s.dot it) w.holds ∙ pushed-format (later e) seq (is_dotted dots) s.dot w.its it few;
              due_so_far = λ rest d. rw (append_assoc w.its (it ∷ []) rest) (w.due_so_far (it ∷ rest) (then next-due d));
              passed = rw more (omega (arith, w.passed, v.behind));
              answers = item ∙ rw (← r, place, more, v.dot);
            }

      pub walk_meets : (s : Seen) → Sees t at s → (r : Result Item Unmade) → found (drop s.after t) r ≡ stand e dots o (seen_in t s) → Met s r
      walk_meets s v (Ok it) r =
          let q = r ∙ v.stands e dots o in
          (rw w.holds (few s v q), goes_on s v q)
      walk_meets s v (Err Short) r =
          let end : at + length (drop at t) ≡ length t = rw length-drop (omega arith) in
          item ∙ rw (← (v.stands e dots o), ← r, end)
      walk_meets s v (Err Unfit) r = item ∙ rw (← (v.stands e dots o), ← r, ← (v.stands Iso2539 dots o))

-- ---- the whole text

-- the answer by the N item as it is found
abbrev pub Opened : Edition → List ℕ → Result (Read ℕ) Refusal → Type 0
Opened e t (Ok r) = parsed_in e t ≡ items_from (length t) e (opening r.value r.after) (drop r.after t)
Opened e t (Err r) = parsed_in e t ≡ refusal r

pub parsed-opens : (e : Edition) (t : List ℕ) (r : Result (Read ℕ) Refusal) → Opens e t r → Opened e t r
unfolding parsed_in
parsed-opens e t (Ok r) o =
    let place : length t - length (drop r.after t) ≡ r.after = rw length-drop (omega (arith, o.1)) in
    rw (o.0, place)
parsed-opens e t (Err r) o = o _
