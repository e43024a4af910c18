-- Laws of looking for a byte: what is found between two places, by what was found between the first and the end of what is looked at.
use Rattle.std.proofs.Common.{◌≡◌, ℕ, ◌+◌, ◌-◌, ◌≤◌, ◌<◌, ◌==◌, Some, None, cond, Bool, true, false, not, List, length, min, drop, take_all, ltb, arith, refl, length-drop, length-take}
use Rattle.std.specs.Prelude.{position, slice_range}
use Rattle.std.proofs.lemmas.List.Sums.{prefix_len-le-length}
use borrow.Author.Tests.{ltb-false}
use Rattle.text.specs.Finding.{index_of}

-- no more is looked at than there is
looked : (xs : List ℕ) (from to : ℕ) → slice_range xs from (min to (length xs)) ≡ slice_range xs from to
looked xs from to = grind (arith, take_all, length-drop)

found : (xs : List ℕ) (b k : ℕ) → position (λ x. x == b) xs ≡ Some k → k ≡ index_of b xs
found xs b k e = by (ltb (index_of b xs) (length xs)) e
  where
    by : (t : Bool) → cond t (Some (index_of b xs)) None ≡ Some k → k ≡ index_of b xs
    by true q = cc
    by false q = cc

missed : (xs : List ℕ) (b : ℕ) → position (λ x. x == b) xs ≡ None → length xs ≡ index_of b xs
missed xs b e = by (ltb (index_of b xs) (length xs)) refl e
  where
    by : (t : Bool) → ltb (index_of b xs) (length xs) ≡ t → cond t (Some (index_of b xs)) None ≡ None → length xs ≡ index_of b xs
    by true r q = cc
    by false r q = omega (arith, ltb-false (index_of b xs) (length xs) r, prefix_len-le-length (λ x. not (x == b)) xs)

module _ (xs : List ℕ) (b from to : ℕ) where
  pub nothing_there : min to (length xs) ≤ from → from + index_of b (slice_range xs from to) ≡ from
  nothing_there h = let z : min to (length xs) - from ≡ 0 = omega arith in rw (← looked xs from to, z) (omega arith)

  pub found_there : (k : ℕ) → position (λ x. x == b) (slice_range xs from (min to (length xs))) ≡ Some k → k ≡ index_of b (slice_range xs from to)
  found_there k e = found _ b k (rw looked at e)

  pub found_nowhere : position (λ x. x == b) (slice_range xs from (min to (length xs))) ≡ None → from < min to (length xs) → min to (length xs) ≡ from + index_of b (slice_range xs from to)
  found_nowhere e h =
      let k = missed (slice_range xs from to) b (rw looked at e) in
      omega (arith, k, length-take (to - from) (drop from xs), length-drop from xs)
