-- `profile::items::count_counted`: as many items as `filter` leaves.
use mathlib.Core.Path.{◌∙◌}
use Rattle.std.proofs.Common.{rules, tests}
use Rattle.std.proofs.lemmas.Iterator.{YieldsList-from_slice}
use Rattle.std.proofs.lemmas.Iterator.Consumers.{count_from_yields_List, YieldsList-from_filter}
use Rattle.profile.specs.Agreement.{is_counted}
use Rattle.profile.proofs.Queries.{counted-items}
use Rattle.profile.proofs.items.count_counted.Goals as goal

pub returns : goal.returns
returns c =
    let items = c.args.items.now in
    count_from_yields_List c.filter.result _ c.count.ensures.ran
    (YieldsList-from_filter _ is_counted (YieldsList-from_slice items cc) c.filter.ensures.closure (λ x b q k. search (rules, tests)))
    ∙ counted-items is_counted items
