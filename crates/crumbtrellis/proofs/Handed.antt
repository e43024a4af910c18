-- What a reply says of the answer beneath, it says of the definition that the answer is proved to be; and what is no speed has no code.
use Prim.Native.Nat.{ℕ, ◌≤◌}
use mathlib.Core.Path.{◌≡◌, ◌∙◌, ap}
use lib.Dec.{lit≤}
use Rattle.rows.specs.Answer.{Answer, refused, number_of, place_of, value_or}
use Rattle.speeds.specs.Coding.{code_for}
use Rattle.speeds.proofs.Answers.{code-beyond}
use Rattle.crumbtrellis.specs.declared.Reply.{Reply}
use Rattle.crumbtrellis.specs.Crossing.{beyond}
use Rattle.crumbtrellis.specs.Replies.{Says}

pub handed : {A : Type 0} {none : A} {a b : Answer A} {r : Reply A} → Says none a r → a ≡ b → (r.number ≡ number_of b) × ((r.place ≡ place_of b) × (r.value ≡ value_or none b))
handed {none = none} s e = (s.number ∙ ap number_of e, (s.place ∙ ap place_of e, s.value ∙ ap (value_or none) e))

-- a kind over 2, or units with stop or rapid, is refused by 20 in any length of a code
pub beyond-refused : (k : ℕ) → 2 ≤ k → k ≤ 5 → code_for k beyond ≡ refused 20 0
beyond-refused k two five = code-beyond k _ two five (lit≤ tt)
