-- Laws of the listing's input: its header, by what the searches found.
use Prim.Native.Nat.{ℕ, ◌+◌, ◌-◌, ◌≤◌, ◌<◌, min}
use mathlib.Core.Path.{◌≡◌, sym, ap, ◌∙◌}
use mathlib.Core.Bool.{true}
use mathlib.Core.List.{List}
use native.Mathlib.Omega.{arith}
use lib.Dec.{ltb}
use lib.ListN.{length, take, drop, length-take, take-append-drop}
use lib.Seq.{take-append_seam}
use borrow.Author.Tests.{lt-ltb, le-ltb}
use Rattle.std.specs.Prelude.{slice_range}
use Rattle.rows.specs.Answer.{taken, refused}
use Rattle.text.specs.Finding.{index_of}
use Rattle.lines.specs.Listing.{edition_of, header_end, header_found}

module _ (input : List ℕ) where
  -- a search from the front on
  searched : (b to : ℕ) {n : ℕ} → n ≡ 0 + index_of b (slice_range input 0 to) → index_of b (take to input) ≡ n
  searched b to h = let e : to - 0 ≡ to = omega arith in omega (arith, rw e at h)

module _ (input : List ℕ) (most lf : ℕ) (m : most ≡ min 200 (length input)) (h : lf ≡ 0 + index_of 10 (slice_range input 0 most)) where
  long : most ≡ length (take 200 input)
  long = m ∙ sym (length-take 200 input)

  front : take most input ≡ take 200 input
  front = rw long (ap (take (length (take 200 input))) (sym (take-append-drop 200 input)) ∙ take-append_seam (take 200 input) (drop 200 input))

  end : header_end input ≡ lf
  end = ap (index_of 10) (sym front) ∙ searched input 10 most h

  pub no_lf : most ≤ lf → header_found input ≡ refused 1 0
  unfolding header_found
  no_lf l = rw (end, le-ltb lf (length (take 200 input)) (omega (arith, long, l)))

  module _ (space : ℕ) (b : lf < most) (g : space ≡ 0 + index_of 32 (slice_range input 0 lf)) where
    gap : index_of 32 (take lf input) ≡ space
    gap = searched input 32 lf g

    here : ltb lf (length (take 200 input)) ≡ true
    here = lt-ltb lf (length (take 200 input)) (omega (arith, long, b))

    pub no-space : lf ≤ space → header_found input ≡ refused 1 0
    unfolding header_found
    no-space l = rw (end, gap, here, le-ltb space lf l)

    pub found : space < lf → header_found input ≡ taken (record { edition = edition_of (take space input); from = space + 1; to = lf; rows = lf + 1 })
    unfolding header_found
    found l = rw (end, gap, here, lt-ltb space lf l)
