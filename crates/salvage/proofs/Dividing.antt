-- The pieces of a tape: together they are the tape, an LF row stands in a piece at its end alone, and the first piece ends where the first LF row does.
use Prim.Native.Nat.{ℕ, suc, ◌<◌, zero-le, suc-le-suc}
use mathlib.Core.Path.{◌≡◌, refl, sym, ap, ◌∙◌}
use mathlib.Core.Bool.{Bool, true, false, cond}
use mathlib.Core.List.{List, [], ◌∷◌, ◌++◌, flatten}
use native.Mathlib.Nat.{not-suc-le-zero}
use lib.Count.{ones}
use lib.Dec.{eqb}
use lib.ListN.{length, drop}
use Rattle.rows.specs.Row.{entry}
use Rattle.rows.specs.Passes.{Every}
use Rattle.rows.proofs.Tabulated.{tab-at}
use Rattle.salvage.specs.Pieces.{is_lf, on_first, divided, first_in, others_in, head_of, pieces_of}

-- an LF row stands at the end alone
abbrev pub LfLast : List ℕ → Type 0
LfLast [] = Unit {0}
LfLast (b ∷ []) = Unit {0}
LfLast (b ∷ c ∷ t) = (is_lf b ≡ false) × LfLast (c ∷ t)

-- a row before some pieces, by whether it is an LF row
module _ (b : ℕ) where
  abbrev onto : Bool → List (List ℕ) → List (List ℕ)
  onto x ps = cond x ((b ∷ []) ∷ ps) (on_first b ps)

  onto-whole : (x : Bool) (ps : List (List ℕ)) → flatten (onto x ps) ≡ b ∷ flatten ps
  unfolding flatten
  onto-whole true ps = refl
  onto-whole false [] = refl
  onto-whole false (r ∷ rs) = refl

  onto-last : (x : Bool) (ps : List (List ℕ)) → is_lf b ≡ x → Every LfLast ps → Every LfLast (onto x ps)
  onto-last true ps e all = (tt, all)
  onto-last false [] e all = (tt, tt)
  onto-last false ([] ∷ rs) e all = (tt, all.1)
  onto-last false ((c ∷ r) ∷ rs) e all = ((e, all.0), all.1)

  onto-first : (x : Bool) (ps : List (List ℕ)) → (onto x ps ≡ first_in (onto x ps) ∷ others_in (onto x ps)) × (0 < length (first_in (onto x ps)))
  onto-first true ps = (refl, suc-le-suc zero-le)
  onto-first false [] = (refl, suc-le-suc zero-le)
  onto-first false (r ∷ rs) = (refl, suc-le-suc zero-le)

  onto-front : (x : Bool) (ps : List (List ℕ)) (t : List ℕ) → first_in ps ++ drop (length (first_in ps)) t ≡ t → first_in (onto x ps) ++ drop (length (first_in (onto x ps))) (b ∷ t) ≡ b ∷ t
  onto-front true ps t h = refl
  onto-front false [] t h = refl
  onto-front false (r ∷ rs) t h = ap (λ l. b ∷ l) h

  onto-others : (x : Bool) (ps : List (List ℕ)) (t : List ℕ) → divided t ≡ ps → divided (drop (length (first_in ps)) t) ≡ others_in ps
      → divided (drop (length (first_in (onto x ps))) (b ∷ t)) ≡ others_in (onto x ps)
  onto-others true ps t e h = e
  onto-others false [] t e h = e
  onto-others false (r ∷ rs) t e h = h

  -- one that is none makes the first piece longer by itself
  pub first-longer : (ps : List (List ℕ)) → length (first_in (on_first b ps)) ≡ suc (length (first_in ps))
  first-longer [] = refl
  first-longer (r ∷ rs) = refl

-- together the pieces are the tape
pub whole : (t : List ℕ) → flatten (divided t) ≡ t
unfolding divided flatten
whole [] = refl
whole (b ∷ t) = onto-whole b (is_lf b) (divided t) ∙ ap (λ l. b ∷ l) (whole t)

-- an LF row stands in each at its end alone
pub pieces-last : (t : List ℕ) → Every LfLast (divided t)
unfolding divided
pieces-last [] = tt
pieces-last (b ∷ t) = onto-last b (is_lf b) (divided t) refl (pieces-last t)

-- a tape with a row has a first piece
pub first_piece : (t : List ℕ) → 0 < length t → divided t ≡ head_of t ∷ pieces_of t
unfolding divided
first_piece [] h = absurd (not-suc-le-zero h)
first_piece (b ∷ t) h = (onto-first b (is_lf b) (divided t)).0

-- which is not empty
pub first_some : (t : List ℕ) → 0 < length t → 0 < length (head_of t)
unfolding divided
first_some [] h = absurd (not-suc-le-zero h)
first_some (b ∷ t) h = (onto-first b (is_lf b) (divided t)).1

-- the tape is its first piece and what stands behind it
pub first-front : (t : List ℕ) → head_of t ++ drop (length (head_of t)) t ≡ t
unfolding divided
first-front [] = refl
first-front (b ∷ t) = onto-front b (is_lf b) (divided t) t (first-front t)

-- which is divided into the others
pub others-behind : (t : List ℕ) → divided (drop (length (head_of t)) t) ≡ pieces_of t
unfolding divided
others-behind [] = refl
others-behind (b ∷ t) = onto-others b (is_lf b) (divided t) t refl (others-behind t)

together : (rs : List (List ℕ)) → first_in rs ++ flatten (others_in rs) ≡ flatten rs
unfolding flatten
together [] = refl
together (r ∷ rs) = refl

-- the head and the pieces are the tape
pub head-whole : (t : List ℕ) → head_of t ++ flatten (pieces_of t) ≡ t
head-whole t = together (divided t) ∙ whole t

-- and an LF row stands in each of them at its end alone
pub parts_last : (t : List ℕ) → LfLast (head_of t) × Every LfLast (pieces_of t)
parts_last t = by (divided t) (pieces-last t)
  where
    by : (rs : List (List ℕ)) → Every LfLast rs → LfLast (first_in rs) × Every LfLast (others_in rs)
    by [] all = (tt, tt)
    by (r ∷ rs) all = all

-- a row below 256 is an LF row just where it is row 10
pub lf-row : (b : ℕ) → b < 256 → is_lf b ≡ eqb b 10
unfolding entry ones
lf-row b h = sym (tab-at is_lf 256 b false h) ∙ tab-at (λ c. eqb c 10) 256 b false h
