-- The index stays right: one entry more for an appended block, and fewer blocks to an index that has more.
use Prim.Native.Nat.{ℕ, zero, suc, ◌≤◌, ◌<◌}
use mathlib.Core.Path.{◌≡◌, refl, sym, ap, ◌∙◌}
use mathlib.Core.Bool.{Bool, true, false, cond}
use mathlib.Core.List.{List, [], ◌∷◌, ◌++◌, map, map-append}
use native.Mathlib.Numerals.{add-one}
use lib.ListN.{length, take, set, length-append}
use lib.Seq.{length-take-le, take-suc-set, take-take}
use Rattle.reading.specs.declared.Block.{Block}
use Rattle.reading.specs.declared.Entry.{Entry}
use Rattle.punching.specs.Rows.{cleared}
use Rattle.index.specs.Index.{marked, number_in, Indexes}

-- what is cleared of a record is no part of its number
pub number-cleared : (b : Block) → number_in (cleared b) ≡ number_in b
number-cleared b = by b.numbered b.sequence
  where
    by : (x : Bool) (n : ℕ) → marked x (cond x n 0) ≡ marked x n
    by true n = refl
    by false n = refl

pub take-map : {A B : Type 0} (of : A → B) (n : ℕ) (l : List A) → take n (map of l) ≡ map of (take n l)
take-map of zero l = refl
take-map of (suc n) [] = refl
take-map of (suc n) (x ∷ l) = ap (λ v. of x ∷ v) (take-map of n l)

-- what an array holds of every block, by what it holds of one
module _ (of : Entry → ℕ) where
  one_more : (es : List Entry) (l : List ℕ) → take (length es) l ≡ map of es → length es < length l → (y : Entry) (v : ℕ) → v ≡ of y
      → take (length (es ++ (y ∷ []))) (set l (length es) v) ≡ map of (es ++ (y ∷ []))
  one_more es l h room y v e =
      let n : length (es ++ (y ∷ [])) ≡ suc (length es) = length-append es (y ∷ []) ∙ add-one (length es) in
      rw (n, take-suc-set l (length es) v room, h, e) (sym (map-append of es (y ∷ [])))

  fewer : (es : List Entry) (l : List ℕ) → take (length es) l ≡ map of es → (n : ℕ) → n ≤ length es → take (length (take n es)) l ≡ map of (take n es)
  fewer es l h n less = rw (length-take-le n es less) (sym (take-take n (length es) l less) ∙ ap (take n) h ∙ take-map of n es)

module _ {es : List Entry} {firsts numbers : List ℕ} (index : Indexes es firsts numbers) where
  pub index-more : length es < length firsts → length es < length numbers → (y : Entry) (n : ℕ) → n ≡ number_in y.block
      → Indexes (es ++ (y ∷ [])) (set firsts (length es) y.from) (set numbers (length es) n)
  index-more l m y n e =
      record {
        rows = one_more (λ x. x.from) es firsts index.rows l y y.from refl;
        marks = one_more (λ x. number_in x.block) es numbers index.marks m y n e;
      }

  pub index-fewer : (n : ℕ) → n ≤ length es → Indexes (take n es) firsts numbers
  index-fewer n l =
      record { rows = fewer (λ x. x.from) es firsts index.rows n l; marks = fewer (λ x. number_in x.block) es numbers index.marks n l }
