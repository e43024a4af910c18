-- `profile::items::any_rotary`: the answer of `any` is that of `any_item`.
use mathlib.Core.Path.{◌∙◌}
use Rattle.std.proofs.Common.{rules, tests}
use Rattle.std.proofs.lemmas.Iterator.{YieldsList-from_slice}
use Rattle.std.proofs.lemmas.Iterator.Search.{any_from_yields_List}
use Rattle.profile.specs.Agreement.{is_rotary}
use Rattle.profile.proofs.Queries.{any-item}
use Rattle.profile.proofs.items.any_rotary.Goals as goal

pub returns : goal.returns
returns c = any_from_yields_List is_rotary _ _ _ c.any.ensures.ran (YieldsList-from_slice c.args.items.now cc) (λ x b q k. search (rules, tests)) ∙ any-item is_rotary c.args.items.now
