-- `index::indexed_rows`: where the block was found, its rows stand within the tape.
use Prim.Native.Nat.{◌≤◌}
use lib.ListN.{length}
use Rattle.index.proofs.EntryTests.{found_within}
use Rattle.index.proofs.indexed_rows.Goals as goal
use Rattle.index.proofs.indexed_rows.Goals.{In_ok-found}

within : (c : In_ok-found) →
    let found = c.in_ok-found.found in
    (found.from ≤ found.to) × (found.to ≤ length c.args.tape.now)
within c =
    let a = c.args in
    found_within a.terms.now.edition a.terms.now.shorthand.now a.terms.now.profile.now a.tape.now a.firsts.now a.n _ c.in_ok-found.ensures

pub slice_bounds-result-count : goal.slice_bounds-result-count
slice_bounds-result-count c = (within (goal.at.slice_bounds-result-count c).In_ok-found).0

pub slice_bounds-result-start : goal.slice_bounds-result-start
slice_bounds-result-start c = (within (goal.at.slice_bounds-result-start c).In_ok-found).0

pub slice_bounds-result-end : goal.slice_bounds-result-end
slice_bounds-result-end c = (within (goal.at.slice_bounds-result-end c).In_ok-found).1
