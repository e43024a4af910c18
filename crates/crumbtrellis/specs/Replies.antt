-- What the door hands back for an answer: document 01's number, the place, and the value, or what stands for none.
use Rattle.std.specs.Prelude.{◌≡◌}
use Rattle.rows.specs.Answer.{Answer, number_of, place_of, value_or}
use Rattle.crumbtrellis.specs.declared.Reply.{Reply}

pub record Says {A : Type 0} (none : A) (a : Answer A) (r : Reply A) : Type 0 where
  pub number : r.number ≡ number_of a
  pub place : r.place ≡ place_of a
  pub value : r.value ≡ value_or none a
