-- `corrections::corrected_rows`: the place that was found stands within its tape.
use Prim.Native.Nat.{◌≤◌}
use mathlib.Core.Path.{◌≡◌}
use lib.ListN.{length}
use Rattle.corrections.specs.declared.Tape.{Tape}
use Rattle.corrections.specs.Answers.{tape_of}
use Rattle.corrections.proofs.TwoTapes.{place-within}
use Rattle.corrections.proofs.corrected_rows.Goals as goal
use Rattle.corrections.proofs.corrected_rows.Goals.{In_ok-place}

within : (c : In_ok-place) (on : Tape) → c.in_ok-place.place.tape ≡ on →
    let part = c.in_ok-place.place.part in
    (part.from ≤ part.to) × (part.to ≤ length (tape_of c.args.correction.now c.args.master.now on))
within c on e =
    let a = c.args in
    rw e at (place-within a.correction.now a.master.now a.sequence a.terms.now.edition a.terms.now.shorthand.now a.terms.now.profile.now _ c.in_ok-place.ensures)

pub slice_bounds-result-count : goal.slice_bounds-result-count
slice_bounds-result-count c = (within (goal.at.slice_bounds-result-count c).In_ok-place _ c.in-Correction.is).0

pub slice_bounds-result-start : goal.slice_bounds-result-start
slice_bounds-result-start c = (within (goal.at.slice_bounds-result-start c).In_ok-place _ c.in-Correction.is).0

pub slice_bounds-result-end : goal.slice_bounds-result-end
slice_bounds-result-end c = (within (goal.at.slice_bounds-result-end c).In_ok-place _ c.in-Correction.is).1

pub slice_bounds-result-count-in-Master : goal.slice_bounds-result-count-in-Master
slice_bounds-result-count-in-Master c = (within (goal.at.slice_bounds-result-count-in-Master c).In_ok-place _ c.in-Master.is).0

pub slice_bounds-result-start-in-Master : goal.slice_bounds-result-start-in-Master
slice_bounds-result-start-in-Master c = (within (goal.at.slice_bounds-result-start-in-Master c).In_ok-place _ c.in-Master.is).0

pub slice_bounds-result-end-in-Master : goal.slice_bounds-result-end-in-Master
slice_bounds-result-end-in-Master c = (within (goal.at.slice_bounds-result-end-in-Master c).In_ok-place _ c.in-Master.is).1
