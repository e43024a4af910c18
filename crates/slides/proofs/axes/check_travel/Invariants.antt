-- `slides::axes::check_travel`: a loop over the axes to the first that can't be followed.
use Rattle.slides.proofs.AxisLetters.{Trodden}
use Rattle.slides.proofs.axes.check_travel.Given as goal

abbrev pub invariant-loop-a : goal.invariant-loop-a
invariant-loop-a l = Trodden l.travel l.places l.a
