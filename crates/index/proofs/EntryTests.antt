-- What is found of an entry through an index: by each test, and where its rows stand.
use mathlib.Core.Path.{◌≡◌, refl, sym}
use mathlib.Core.Bool.{Bool, true, false, cond}
use mathlib.Core.List.{List}
use Prim.Native.Nat.{ℕ, ◌≤◌, ◌<◌}
use native.Mathlib.Omega.{arith}
use lib.Dec.{ltb}
use lib.ListN.{length, get_or, drop}
use borrow.Author.Tests.{lt-ltb, le-ltb}
use Rattle.rows.specs.Answer.{Answer, taken, refused, value_or, ◌>>=◌, ◌>>◌}
use Rattle.rows.specs.Kept.{kept_at}
use Rattle.rows.specs.Stages.{limit, judged}
use Rattle.shorthand.specs.declared.Format.{Format}
use Rattle.profile.specs.Answers.{agreed}
use Rattle.words.specs.Figures.{Behind}
use Rattle.reading.specs.declared.Entry.{Entry}
use Rattle.reading.specs.Parse.{BlockRead, entry, block_at}
use Rattle.reading.specs.Answers.{nowhere}
use Rattle.reading.specs.Survey.{entry_from}
use Rattle.reading.proofs.BlockWalk.{advances}
use Rattle.reading.proofs.Places.{rising-at}
use Rattle.index.specs.Finding.{shifted, up_to, own_entry, entry_by, entry_found}
use Rattle.index.proofs.OwnPart.{up-to-within}

-- ---- by the tests

module _ (f : Format) (t : List ℕ) where
  module _ (firsts : List ℕ) (n : ℕ) where
    pub entry-long : limit < length t → entry_by f t firsts n ≡ refused 4 limit
    unfolding entry_by
    entry-long l = rw (lt-ltb limit (length t) l)

    module _ (short : length t ≤ limit) where
      pub entry_past : length firsts ≤ n → entry_by f t firsts n ≡ refused 15 (length firsts)
      unfolding entry_by
      entry_past l = rw (le-ltb limit (length t) short, le-ltb n (length firsts) l)

      pub entry-own : n < length firsts → entry_by f t firsts n ≡ own_entry f (up_to t firsts n) (get_or firsts n 0)
      unfolding entry_by
      entry-own l = rw (le-ltb limit (length t) short, lt-ltb n (length firsts) l)

-- ---- its rows stand within the tape

abbrev Within : ℕ → Entry → Type 0
Within n x = (x.from ≤ x.to) × (x.to ≤ n)

block_within : (f : Format) (u : List ℕ) (i n : ℕ) → length u ≤ n → Within n (value_or nowhere (entry_from f u i))
unfolding entry_from
block_within f u i n l = by (block_at (length u) f (kept_at u i)) refl
  where
    by : (a : Answer (Behind BlockRead)) → block_at (length u) f (kept_at u i) ≡ a → Within n (value_or nowhere (a >>= λ b. taken (entry i b.value)))
    by (refused m p) q = (omega arith, omega arith)
    by (taken b) q = let w = advances f (length u) i (kept_at u i) b (rising-at u i) q in (omega (arith, w.from), omega (arith, w.within, l))

own-within : (f : Format) (u : List ℕ) (i n : ℕ) → length u ≤ n → Within n (value_or nowhere (own_entry f u i))
own-within f u i n l = by (judged (drop i u))
  where
    by : (a : Answer (Unit {0})) → Within n (value_or nowhere (shifted i a >> entry_from f u i))
    by (refused m p) = (omega arith, omega arith)
    by (taken x) = block_within f u i n l

module _ (f : Format) (t firsts : List ℕ) (n : ℕ) where
  entry-within : Within (length t) (value_or nowhere (entry_by f t firsts n))
  unfolding entry_by
  entry-within = by (ltb limit (length t)) (ltb n (length firsts))
    where
      by : (a b : Bool) → Within (length t) (value_or nowhere (◌>>◌ {A = Unit {0}} (cond a (refused 4 limit) (taken tt)) (cond b (own_entry f (up_to t firsts n) (get_or firsts n 0)) (refused 15 (length firsts)))))
      by true b = (omega arith, omega arith)
      by false true = own-within f (up_to t firsts n) (get_or firsts n 0) (length t) (up-to-within t firsts n)
      by false false = (omega arith, omega arith)

pub found_within : (e : ℕ) (s p t firsts : List ℕ) (n : ℕ) (x : Entry) → taken x ≡ entry_found e s p t firsts n → Within (length t) x
unfolding entry_found
found_within e s p t firsts n x h = rw (sym h) at (by (agreed e s p))
  where
    by : (a : Answer Format) → Within (length t) (value_or nowhere (a >>= λ f. entry_by f t firsts n))
    by (refused m k) = (omega arith, omega arith)
    by (taken f) = entry-within f t firsts n
