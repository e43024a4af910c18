-- `text::finding::find_byte` meets its contract: a byte that is found stands where it is first, and one that is not ends what is looked at.
use Rattle.std.proofs.Common.{◌+◌, ◌∙◌, sym, ap}
use Rattle.text.proofs.Searches.{nothing_there, found_there, found_nowhere}
use Rattle.text.proofs.finding.find_byte.Goals as goal

pub returns-then-end-from-clause-found : goal.returns-then-end-from-clause-found
returns-then-end-from-clause-found c = let a = c.args in sym (nothing_there a.text.now a.byte a.from a.to (rw c.min-end.ensures at c.if-end-from.true))

pub returns-in-Some-clause-found : goal.returns-in-Some-clause-found
returns-in-Some-clause-found c =
    let a = c.args in ap (λ k. a.from + k) (found_there a.text.now a.byte a.from a.to _ (rw c.min-end.ensures at (sym c.place_of.ensures ∙ c.in-Some.is)))

pub returns-in-None-clause-found : goal.returns-in-None-clause-found
returns-in-None-clause-found c =
    let a = c.args in
    c.min-end.ensures ∙ found_nowhere a.text.now a.byte a.from a.to (rw c.min-end.ensures at (sym c.place_of.ensures ∙ c.in-None.is)) (rw c.min-end.ensures at c.if-end-from.false)
