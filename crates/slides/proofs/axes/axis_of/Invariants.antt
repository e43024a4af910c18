-- `slides::axes::axis_of`: a loop over the letters of the axes to the one asked for.
use Rattle.slides.proofs.AxisLetters.{Sought}
use Rattle.slides.proofs.axes.axis_of.Given as goal

abbrev pub invariant-loop-a : goal.invariant-loop-a
invariant-loop-a l = Sought l.letter l.a
