-- Laws of the line that a block's rows are composed in: one put behind another is the put of both, and a loop puts what is to come.
use Prim.Native.Nat.{ℕ, ◌+◌, ◌≤◌, ◌<◌}
use mathlib.Core.Path.{◌≡◌, refl, sym, ap, ◌∙◌}
use mathlib.Core.List.{List, [], ◌∷◌, ◌++◌, append-nil, append_assoc, map, map-append}
use mathlib.Core.Bool.{Bool, true, false, ◌&&◌, not, cond}
use native.Mathlib.Omega.{arith}
use lib.ListN.{length, take, length-append, length-map}
use lib.Seq.{sets, sets-eq, length-sets, take_at, take-length, length-take-le}
use Rattle.shorthand.specs.declared.Item.{Item}
use Rattle.shorthand.specs.Layout.{way_by}
use Rattle.reading.specs.Relation.{address, tab}
use Rattle.punching.specs.Rows.{row_of}
use Rattle.punching.specs.Line.{joined, Put}

pub joined-none : (p : List ℕ) → joined p [] ≡ p
joined-none p = append-nil p

pub joined-more : (p xs ys : List ℕ) → joined p (xs ++ ys) ≡ joined (joined p xs) ys
joined-more p xs ys = rw (map-append row_of xs ys, append_assoc)

pub put-none : (l : List ℕ) (at : ℕ) → Put l at [] l at
put-none l at = record { end = omega arith; rows = sym (joined-none (take at l)); same = refl }

pub put-more : {l₀ l l₂ : List ℕ} {at n m : ℕ} {xs ys : List ℕ} → Put l₀ at xs l n → Put l n ys l₂ m → Put l₀ at (xs ++ ys) l₂ m
put-more {l₀} {at = at} {xs = xs} {ys = ys} h g =
    record { end = omega (arith, h.end, g.end, length-append xs ys); rows = g.rows ∙ ap (λ p. joined p ys) h.rows ∙ sym (joined-more (take at l₀) xs ys); same = g.same ∙ h.same }

-- characters stored as rows from a place on
pub put-sets : (l : List ℕ) (at : ℕ) (cs : List ℕ) → at + length cs ≤ length l → Put l at cs (sets l at (map row_of cs)) (at + length cs)
put-sets l at cs h =
    let n = length-map cs row_of in
    let k : length (take at l ++ map row_of cs) ≡ at + length cs = omega (arith, length-append (take at l) (map row_of cs), length-take-le at l (omega arith)) in
    record { end = refl; rows = rw (sets-eq (map row_of cs) l at (omega arith)) (take_at (take at l ++ map row_of cs) _ (at + length cs) k); same = simp length-sets }

-- put from the first row to the last, they are the line
pub put_all : {l₀ l : List ℕ} {n : ℕ} {cs : List ℕ} → Put l₀ 0 cs l n → length l ≡ length (map row_of cs) → l ≡ map row_of cs
put_all {l = l} {n} {cs} g e = let k : length l ≡ n = omega (arith, g.end, length-map cs row_of) in sym (take-length l) ∙ ap (λ i. take i l) k ∙ g.rows

-- ---- a loop: what was to be put at first is what is to be put now

pub record Coming (l₀ : List ℕ) (start : ℕ) (all l : List ℕ) (at : ℕ) (rest : List ℕ) : Type 0 where
  pub rows : joined (take start l₀) all ≡ joined (take at l) rest
  pub end : at + length rest ≡ start + length all
  pub same : length l ≡ length l₀

-- at first all is to come
pub coming-all : (l : List ℕ) (at : ℕ) (all : List ℕ) → Coming l at all l at all
coming-all l at all = record { rows = refl; end = refl; same = refl }

-- what is put is to come no more
pub coming-turn : {l₀ l l₂ : List ℕ} {start at n : ℕ} {all rest xs ys : List ℕ} → rest ≡ xs ++ ys → Coming l₀ start all l at rest → Put l at xs l₂ n
    → Coming l₀ start all l₂ n ys
coming-turn {l₀} {l} {l₂} {start} {at} {n} {all} {rest} {xs} {ys} e h g =
    record {
      rows = h.rows ∙ ap (joined (take at l)) e ∙ joined-more (take at l) xs ys ∙ ap (λ p. joined p ys) (sym g.rows);
      end = omega (arith, h.end, g.end, ap length e, length-append xs ys);
      same = g.same ∙ h.same;
    }

-- where nothing is to come, all is put
pub coming-over : {l₀ l : List ℕ} {start at : ℕ} {all rest : List ℕ} → rest ≡ [] → Coming l₀ start all l at rest → Put l₀ start all l at
coming-over {l = l} {at = at} e h = record { end = omega (arith, h.end, ap length e); rows = sym (h.rows ∙ ap (joined (take at l)) e ∙ joined-none (take at l)); same = h.same }

-- what is still to come has room behind what stands, and a row more
pub coming-room : {l₀ l : List ℕ} {start at : ℕ} {all rest : List ℕ} → Coming l₀ start all l at rest → start + length all < length l₀ → at + length rest < length l
coming-room h r = omega (arith, h.end, h.same, r)

-- so there is a place for one row
pub coming-place : {l₀ l : List ℕ} {start at : ℕ} {all rest : List ℕ} → Coming l₀ start all l at rest → start + length all < length l₀ → at < length l
coming-place h r = omega (arith, coming-room h r)

-- ---- tabs and addresses

-- where the items have dots there are tabs, with addresses or without
pub tab-dots : (addresses : Bool) → tab (way_by true addresses) ≡ 9 ∷ []
tab-dots true = refl
tab-dots false = refl

-- a word has its letter, but where the items have dots and their words no addresses
pub address-by : (dots addresses : Bool) (it : Item) → address (way_by dots addresses) it ≡ cond (dots && not addresses) [] (it.letter ∷ [])
address-by false addresses it = refl
address-by true true it = refl
address-by true false it = refl
