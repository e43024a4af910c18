-- `reading::block_rows`: where the part stands is known, and it stands within the tape.
use Prim.Native.Nat.{◌≤◌}
use mathlib.Core.Path.{◌∙◌, ap}
use lib.ListN.{length}
use Rattle.std.proofs.lemmas.Result.{err_from_is_err_and}
use Rattle.rows.specs.Answer.{Answer, ◌>>=◌}
use Rattle.reading.specs.declared.Part.{Part}
use Rattle.reading.proofs.Numbered.{part-within, rows_in, rows-found}
use Rattle.reading.proofs.block_rows.Goals as goal
use Rattle.reading.proofs.block_rows.Goals.{In_ok-rows}

-- the part stands within the tape
within : (c : In_ok-rows) → (c.in_ok-rows.rows.from ≤ c.in_ok-rows.rows.to) × (c.in_ok-rows.rows.to ≤ length c.args.tape.now)
within c = part-within _ _ _ _ c.in_ok-rows.ensures

pub returns-in_err-rows : goal.returns-in_err-rows
returns-in_err-rows c =
    let a = c.args in
    let p = err_from_is_err_and c.from_residual-in_err-rows.result c.from_residual-in_err-rows.ensures.1 in
    rw (p.1, p.2) (ap (λ (x : Answer Part). x >>= rows_in a.tape.now) c.in_err-rows.ensures ∙ rows-found _ _ _ _ c.in_ok-parse.ensures a.tape.now a.n)

pub slice_bounds-result-count : goal.slice_bounds-result-count
slice_bounds-result-count c = (within (goal.at.slice_bounds-result-count c).In_ok-rows).0

pub slice_bounds-result-start : goal.slice_bounds-result-start
slice_bounds-result-start c = (within (goal.at.slice_bounds-result-start c).In_ok-rows).0

pub slice_bounds-result-end : goal.slice_bounds-result-end
slice_bounds-result-end c = (within (goal.at.slice_bounds-result-end c).In_ok-rows).1

pub returns : goal.returns
returns c = let a = c.args in ap (λ (x : Answer Part). x >>= rows_in a.tape.now) c.in_ok-rows.ensures ∙ rows-found _ _ _ _ c.in_ok-parse.ensures a.tape.now a.n
