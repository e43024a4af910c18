-- What is said of a tape by each test: the tape's refusals, 15, and then where the blocks leave the axes.
use Prim.Native.Nat.{ℕ, ◌<◌}
use mathlib.Core.Path.{◌≡◌, refl}
use mathlib.Core.Bool.{Bool, true, false, cond}
use mathlib.Core.List.{List, []}
use lib.Dec.{ltb}
use lib.ListN.{length, get_or}
use borrow.Author.Tests.{ltb-true, lt-ltb}
use Rattle.rows.specs.Answer.{Answer, taken, refused, value_or, ◌>>=◌, ◌>>◌}
use Rattle.shorthand.specs.declared.Format.{Format}
use Rattle.reading.specs.declared.Entry.{Entry}
use Rattle.reading.specs.Answers.{nowhere, read, size_of}
use Rattle.reading.specs.Front.{has_block}
use Rattle.index.specs.Index.{entries_of}
use Rattle.slides.specs.declared.Rule.{Rule}
use Rattle.slides.specs.Answers.{blocks_to, from_zero, after, followed_in}

module _ (r : Rule) (n : ℕ) where
  not-counted : (a : Answer (List Entry)) (m p : ℕ) → refused m p ≡ size_of a → refused m p ≡ (a >>= after r n)
  not-counted (taken es) m p e = cc
  not-counted (refused k q) m p e = cc

  past-counted : (a : Answer (List Entry)) (c m p : ℕ) → taken c ≡ size_of a → refused m p ≡ has_block n (taken c) → refused m p ≡ (a >>= after r n)
  past-counted (refused k q) c m p e h = cc
  past-counted (taken es) c m p e h = let same : c ≡ length es = cc in by (ltb n (length es)) (rw same at h)
    where
      by : (b : Bool) → ◌≡◌ {A = Answer (Unit {0})} (refused m p) (cond b (taken tt) (refused 15 (length es)))
          → refused m p ≡ (cond b (taken (get_or es n nowhere)) (refused 15 (length es)) >> from_zero r (blocks_to n es))
      by true q = cc
      by false q = cc

  counted-among : (a : Answer (List Entry)) (c : ℕ) → taken c ≡ size_of a → taken tt ≡ has_block n (taken c) → (a ≡ taken (value_or [] a)) × (n < length (value_or [] a))
  counted-among (refused k q) c e h = cc
  counted-among (taken es) c e h = let same : c ≡ length es = cc in (refl, by (ltb n (length es)) refl (rw same at h))
    where
      by : (b : Bool) → ltb n (length es) ≡ b → ◌≡◌ {A = Answer (Unit {0})} (taken tt) (cond b (taken tt) (refused 15 (length es))) → n < length es
      by true q z = ltb-true n (length es) q
      by false q z = cc

module _ (f : Format) (r : Rule) (t : List ℕ) (n : ℕ) where
  pub tape-refused : (m p : ℕ) → refused m p ≡ size_of (read f t) → refused m p ≡ followed_in f r t n
  unfolding followed_in
  tape-refused m p e = not-counted r n (read f t) m p e

  module _ (c : ℕ) (counted : taken c ≡ size_of (read f t)) where
    pub block-refused : (m p : ℕ) → refused m p ≡ has_block n (taken c) → refused m p ≡ followed_in f r t n
    unfolding followed_in
    block-refused m p h = past-counted r n (read f t) c m p counted h

    module _ (there : taken tt ≡ has_block n (taken c)) where
      pub tape-taken : read f t ≡ taken (entries_of f t)
      tape-taken = (counted-among r n (read f t) c counted there).0

      pub block_inside : n < length (entries_of f t)
      block_inside = (counted-among r n (read f t) c counted there).1

      pub tape-followed : from_zero r (blocks_to n (entries_of f t)) ≡ followed_in f r t n
      unfolding followed_in
      tape-followed = rw (tape-taken, lt-ltb n (length (entries_of f t)) block_inside)
