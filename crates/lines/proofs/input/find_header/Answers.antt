-- `lines::input::find_header` meets its contract: by what the searches found.
use Rattle.std.proofs.Common.{◌≡◌, sym}
use Rattle.rows.specs.Answer.{refused}
use Rattle.lines.specs.Listing.{header_found}
use Rattle.lines.proofs.Headers.{no_lf, no-space, found}
use Rattle.lines.proofs.input.find_header.Goals as goal
use Rattle.lines.proofs.input.find_header.Goals.{then-most-lf-via-then-most-lf, then-most-lf-via-else-most-lf+then-lf-space}

pub returns-then-most-lf-clause-header : goal.returns-then-most-lf-clause-header
returns-then-most-lf-clause-header c =
    let most = c.min-most.ensures in
    let lf = c.find_byte-lf.ensures.found in
    let none : header_found c.args.input.now ≡ refused 1 0 =
    elim c.then-most-lf.branch [
      | then-most-lf-via-then-most-lf w ↦ no_lf _ _ _ most lf w.if-most-lf.true
      | then-most-lf-via-else-most-lf+then-lf-space w ↦ no-space _ _ _ most lf _ w.if-most-lf.false c.find_byte-space.ensures.found w.if-lf-space.true
    ] in
    rw c.at.ensures (sym none)

pub returns-clause-header : goal.returns-clause-header
returns-clause-header c =
    rw c.edition_of.ensures
    (sym (found _ _ _ c.min-most.ensures c.find_byte-lf.ensures.found _ c.if-most-lf.false c.find_byte-space.ensures.found c.if-lf-space.false))
