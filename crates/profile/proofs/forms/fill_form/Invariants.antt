-- `profile::forms::fill_form`: the walk over the places keeps `Walked`, and each way out of it is an end of `filled`.
use mathlib.Core.Path.{◌≡◌}
use lib.ListN.{length}
use Rattle.profile.specs.Form.{form_of}
use Rattle.profile.proofs.Walks.{Walked}
use Rattle.profile.proofs.forms.fill_form.Given as goal

abbrev pub invariant-loop-k : goal.invariant-loop-k
invariant-loop-k l = (l.places ≡ length (form_of l.edition)) × Walked l.edition l.text l.bytes l.at l.k
