-- An entry asked for by its place in a list, and in two lists one behind the other.
use Prim.Native.Nat.{ℕ, ◌+◌, ◌≤◌, ◌<◌}
use mathlib.Core.Path.{◌≡◌, refl}
use mathlib.Core.Bool.{Bool, true, false, cond}
use mathlib.Core.List.{List, ◌++◌}
use native.Mathlib.Omega.{arith}
use lib.Dec.{ltb}
use lib.ListN.{length, get_or, length-append, get_or-append}
use lib.Seq.{get_or-append-add}
use borrow.Author.Tests.{lt-ltb, le-ltb, ltb-true, ltb-false}
use Rattle.rows.specs.Answer.{Answer, taken, refused}
use Rattle.corrections.specs.declared.Named.{Named}
use Rattle.corrections.specs.Listing.{on_master}
use Rattle.corrections.specs.Answers.{nth_named}

-- a refusal of so many entries, counted behind others
abbrev pub counted_behind : ℕ → Answer Named → Answer Named
counted_behind k (taken x) = taken x
counted_behind k (refused n p) = refused n (k + p)

module _ (n : ℕ) (xs : List Named) where
  module _ (ys : List Named) where
    pub nth-first : n < length xs → nth_named n (xs ++ ys) ≡ taken (get_or xs n (on_master 0))
    nth-first l =
        let m : n < length (xs ++ ys) = omega (arith, l, length-append xs ys) in
        rw (lt-ltb n (length (xs ++ ys)) m, get_or-append xs ys (on_master 0) n l)

    pub nth-behind : nth_named (length xs + n) (xs ++ ys) ≡ counted_behind (length xs) (nth_named n ys)
    nth-behind = rw (length-append xs ys, get_or-append-add xs ys n (on_master 0)) (by (ltb n (length ys)) refl)
      where
        by : (b : Bool) → ltb n (length ys) ≡ b
            → cond (ltb (length xs + n) (length xs + length ys)) (taken (get_or ys n (on_master 0))) (refused 15 (length xs + length ys))
            ≡ counted_behind (length xs) (cond b (taken (get_or ys n (on_master 0))) (refused 15 (length ys)))
        by true e =
            let l : length xs + n < length xs + length ys = omega (arith, ltb-true n (length ys) e) in
            rw (lt-ltb (length xs + n) (length xs + length ys) l)
        by false e =
            let l : length xs + length ys ≤ length xs + n = omega (arith, ltb-false n (length ys) e) in
            rw (le-ltb (length xs + n) (length xs + length ys) l)
