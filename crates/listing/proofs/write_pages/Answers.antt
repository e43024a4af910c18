-- `listing::write_pages` is safe: the blocks behind a page are left.
use Rattle.pages.proofs.PageAfterPage.{left_behind}
use Rattle.listing.proofs.write_pages.Goals as goal

pub loop-left-preserved : goal.loop-left-preserved
loop-left-preserved g c = left_behind _ _ _ c.loop-left.invariant _ c.in-Ok.ensures.page
