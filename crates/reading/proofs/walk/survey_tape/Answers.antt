-- `reading::walk::survey_tape`: by what the head answered.
use mathlib.Core.Path.{◌∙◌, sym, ap}
use native.Mathlib.Omega.{arith}
use Rattle.std.proofs.lemmas.Result.{err_from_is_err_and}
use Rattle.reading.specs.Answers.{size_of}
use Rattle.reading.specs.Front.{part_in}
use Rattle.reading.specs.Survey.{last_in}
use Rattle.reading.proofs.BlockWalk.{not_entered, enters-at, enters, survey-refused, survey-enters}
use Rattle.reading.proofs.walk.survey_tape.Goals as goal

pub returns-in_err-head : goal.returns-in_err-head
returns-in_err-head c =
    let p = err_from_is_err_and c.from_residual.result c.from_residual.ensures.1 in
    let q = sym c.in_err-head.ensures in
    let e = not_entered _ c.args.usable.format _ _ q in
    rw (p.1, p.2) (record {
      count = sym (ap size_of e);
      part = sym (ap (part_in c.args.n) e);
      last = sym (ap last_in (survey-refused _ _ _ _ q));
    })

pub overflow_add-head : goal.overflow_add-head
overflow_add-head c = omega (arith, (enters-at c.args.tape.now _ _ (sym c.in_ok-head.ensures)).0)

pub survey_blocks-requires : goal.survey_blocks-requires
survey_blocks-requires c = record { rising = (enters-at c.args.tape.now _ _ (sym c.in_ok-head.ensures)).1 }

pub returns : goal.returns
returns c =
    let q = sym c.in_ok-head.ensures in
    let e = enters _ c.args.usable.format _ _ q in
    let s = c.survey_blocks.ensures in
    record {
      count = s.count ∙ sym (ap size_of e);
      part = s.part ∙ sym (ap (part_in c.args.n) e);
      last = s.last ∙ sym (ap last_in (survey-enters _ _ _ _ q));
    }
