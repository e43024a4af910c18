-- `images::sites::has_blanks`: so many rows are there, and all blank, or there are fewer.
use Prim.Native.Nat.{◌-◌}
use mathlib.Core.Path.{◌≡◌, sym, ap, ◌∙◌}
use mathlib.Core.Logic.{inl, inr}
use native.Mathlib.Omega.{arith}
use lib.Dec.{leb}
use lib.ListN.{take, drop, length-drop}
use Rattle.std.proofs.lemmas.List.{take_all}
use Rattle.std.specs.List.{list_all}
use Rattle.images.specs.Images.{is_blank, blanks}
use Rattle.images.proofs.BlankRows.{blanks-all, blanks-few, blanks-past}
use Rattle.images.proofs.sites.has_blanks.Goals as goal
use Rattle.images.proofs.sites.has_blanks.Goals.{In-Some}

-- the rows behind are all from the place on
behind : (c : In-Some) → c.in-Some.behind.now ≡ drop c.args.from c.args.tape.now
behind c = c.in-Some.ensures.lookup.0.2 ∙ take_all _ _ (omega (arith, length-drop c.args.from c.args.tape.now))

pub returns-in_default : goal.returns-in_default
returns-in_default c =
    let many = length-drop c.args.from c.args.tape.now in
    elim c.in_default.ensures.lookup.0 [
      | inl h ↦ blanks-past c.args.n (drop c.args.from c.args.tape.now) (omega (arith, h, many))
      | inr h ↦ absurd (omega (arith, h))
    ]

pub returns-in-Some-get : goal.returns-in-Some-get
returns-in-Some-get c =
    let k = c.in-Some-get.ensures.lookup.0 in
    let n : c.args.n - 0 ≡ c.args.n = omega arith in
    c.are_blank.ensures ∙ ap (list_all is_blank) k.2 ∙ ap (λ m. list_all is_blank (take m c.in-Some.behind.now)) n ∙ blanks-all c.args.n c.in-Some.behind.now (omega (arith, k.1))
    ∙ ap (λ t. leb c.args.n (blanks t)) (behind (goal.at.returns-in-Some-get c).In-Some)

pub returns-in-None : goal.returns-in-None
returns-in-None c =
    elim c.in-None.ensures.lookup.0 [
      | inl h ↦ absurd (omega (arith, h))
      | inr h ↦ blanks-few c.args.n c.in-Some.behind.now (omega (arith, h)) ∙ ap (λ t. leb c.args.n (blanks t)) (behind (goal.at.returns-in-None c).In-Some)
    ]
