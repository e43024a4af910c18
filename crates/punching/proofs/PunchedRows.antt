-- The row of each character: punched, characters that stand in a block pass the first three stages and are all kept.
use Prim.Native.Nat.{ℕ, suc, ◌+◌, ◌≤◌, ◌<◌, zero-le}
use mathlib.Core.Path.{◌≡◌, refl, ap}
use mathlib.Core.Bool.{Bool, false, ◌&&◌}
use mathlib.Core.List.{List, [], ◌∷◌, map}
use native.Mathlib.Nat.{add-zero, add-suc, suc-add}
use native.Mathlib.Omega.{arith}
use lib.Count.{ones}
use lib.Dec.{T, eqb, eqb→eq, ltb, ltb→lt}
use lib.ListN.{length, length-map}
use Rattle.rows.specs.Row.{character, even, characters, among}
use Rattle.rows.specs.Kept.{kept_from}
use Rattle.rows.specs.ControlOut.{WellFormed, end, row}
use Rattle.rows.specs.Passes.{Every, Passes}
use Rattle.rows.specs.Stages.{limit}
use Rattle.rows.proofs.Formed.{not-among}
use Rattle.shorthand.proofs.Tests.{first, second, fails}
use Rattle.reading.specs.Relation.{chars}
use Rattle.reading.proofs.Ranges.{all_from, in-range}
use Rattle.reading.proofs.ReadBlocks.{Last, last, before}
use Rattle.reading.proofs.BareRows.{bare, Bare}
use Rattle.punching.specs.Rows.{row_of}

-- ---- one row

abbrev faithful : ℕ → Bool
faithful c = even (row_of c) && eqb (character (row_of c)) c

pub record RowFor (c : ℕ) : Type 0 where
  pub even : T (even (row_of c))
  pub same : character (row_of c) ≡ c

-- one computed test over the 128 characters
pub row-for : (c : ℕ) → c < 128 → RowFor c
unfolding all_from ones
row-for c h =
    let t = in-range faithful 0 128 c tt zero-le (omega arith) in
    record { even = first (even (row_of c)) _ t; same = eqb→eq _ c (second (even (row_of c)) _ t) }

-- what a bare character's row is to the first three stages
record Stays (c : ℕ) : Type 0 where
  punched : RowFor c
  known : T (among c characters)
  some : eqb c 0 ≡ false
  held : eqb c 127 ≡ false
  outside : among c (40 ∷ 41 ∷ []) ≡ false
  unopened : eqb c 40 ≡ false

bare-stays : (c : ℕ) → T (bare c) → Stays c
bare-stays c h =
    let r = second (ltb c 128) _ h in
    let none = not-among c 0 (127 ∷ 40 ∷ 41 ∷ []) (fails _ (second (among c characters) _ r)) in
    let more = not-among c 127 (40 ∷ 41 ∷ []) none.1 in
    record {
      punched = row-for c (ltb→lt c 128 (first (ltb c 128) _ h));
      known = first (among c characters) _ r;
      some = none.0;
      held = more.0;
      outside = more.1;
      unopened = (not-among c 40 (41 ∷ []) more.1).0;
    }

-- ---- the rows of bare characters

-- all of them are kept
pub punched-kept : (cs : List ℕ) → Bare cs → (i : ℕ) → chars (kept_from false i (map row_of cs)) ≡ cs
unfolding kept_from
punched-kept [] all i = refl
punched-kept (c ∷ cs) all i =
    let s = bare-stays c all.0 in
    rw (s.punched.same, s.some, s.held, s.unopened) (ap (λ l. c ∷ l) (punched-kept cs all.1 (suc i)))

-- the last of them at its place
pub punched-last : (c : ℕ) (cs : List ℕ) → Bare (c ∷ cs) → (i : ℕ) → Last (i + length cs) (kept_from false i (map row_of (c ∷ cs)))
unfolding kept_from
punched-last c [] all i =
    let s = bare-stays c all.0 in
    rw (s.punched.same, s.some, s.held, s.unopened, add-zero) (last refl)
punched-last c (d ∷ cs) all i =
    let s = bare-stays c all.0 in
    rw (s.punched.same, s.some, s.held, s.unopened, add-suc, ← suc-add) (before (punched-last d cs all.1 (suc i)))

pub punched-even : (cs : List ℕ) → Bare cs → Every (λ b. T (even b)) (map row_of cs)
punched-even [] all = tt
punched-even (c ∷ cs) all = ((bare-stays c all.0).punched.even, punched-even cs all.1)

pub punched-known : (cs : List ℕ) → Bare cs → Every (λ b. T (among (character b) characters)) (map row_of cs)
punched-known [] all = tt
punched-known (c ∷ cs) all = let s = bare-stays c all.0 in (rw s.punched.same s.known, punched-known cs all.1)

pub punched-formed : (cs : List ℕ) → Bare cs → WellFormed (map row_of cs)
punched-formed [] all = end
punched-formed (c ∷ cs) all = let s = bare-stays c all.0 in row {b = row_of c} (rw s.punched.same s.outside) (punched-formed cs all.1)

-- within the limit they pass
pub punched-pass : (cs : List ℕ) → Bare cs → length cs ≤ limit → Passes (map row_of cs)
punched-pass cs all h =
    record { short = rw length-map h; even = punched-even cs all; known = punched-known cs all; formed = punched-formed cs all }
