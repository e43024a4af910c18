-- The record has room for every item that may come.
use Prim.Native.Nat.{◌<◌}
use mathlib.Core.List.{List, [], ◌∷◌, ◌++◌}
use native.Mathlib.Omega.{arith}
use lib.ListN.{length, length-append}
use Rattle.shorthand.specs.declared.Item.{Item}
use Rattle.shorthand.specs.declared.Edition.{Edition}
use Rattle.shorthand.specs.Order.{start}
use Rattle.shorthand.proofs.Grammar.{Items, items-few}

pub room : {e : Edition} (its : List Item) (it : Item) → Items e start (its ++ (it ∷ [])) → length its < 22
room its it h = omega (arith, items-few h, length-append its (it ∷ []))
