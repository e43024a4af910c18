-- `listing::write_pages`: blocks are left behind each page, and each page lists at least one of those that are still to be written.
use Rattle.std.proofs.Common.{List}
use Rattle.reading.specs.declared.Entry.{Entry}
use Rattle.reading.specs.Remains.{Remains}
use Rattle.listing.proofs.write_pages.Given as goal

abbrev pub invariant-loop-left : goal.invariant-loop-left
invariant-loop-left g l = (es : List Entry) × Remains l.usable.format l.tape l.from es

abbrev pub decreases-loop-left : goal.decreases-loop-left
decreases-loop-left g l = l.left
