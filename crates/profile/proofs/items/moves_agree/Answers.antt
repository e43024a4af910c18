-- `profile::items::moves_agree`: the answers of `any` are those of `any_item`.
use mathlib.Core.Path.{◌≡◌, sym, ◌∙◌}
use mathlib.Core.Bool.{and-true}
use Rattle.std.proofs.Common.{rules, tests}
use Rattle.std.proofs.lemmas.Iterator.{YieldsList-from_slice}
use Rattle.std.proofs.lemmas.Iterator.Search.{any_from_yields_List}
use Rattle.profile.specs.Answers.{any_item}
use Rattle.profile.proofs.Queries.{any-item, step, absolute}
use Rattle.profile.proofs.items.moves_agree.Goals as goal

pub returns-in-65 : goal.returns-in-65
returns-in-65 c =
    let items = c.args.items.now in
    let any : c.any.result ≡ any_item step items =
    any_from_yields_List step _ _ c.any.result c.any.ensures.ran (YieldsList-from_slice items cc) (λ x b q k. search (rules, tests)) ∙ any-item step items in
    rw (c.in-65.is, any) (sym (and-true _))

pub returns-in-73 : goal.returns-in-73
returns-in-73 c =
    let items = c.args.items.now in
    let any : c.any-in-73.result ≡ any_item absolute items =
    any_from_yields_List absolute _ _ c.any-in-73.result c.any-in-73.ensures.ran (YieldsList-from_slice items cc) (λ x b q k. search (rules, tests)) ∙ any-item absolute items in
    rw (c.in-73.is, any)
