-- `slides::axes::axis_of`: a loop over the letters of the axes to the one asked for.
use Rattle.slides.proofs.AxisLetters.{seek-ends, seek-goes-on, seek-fails}
use Rattle.slides.proofs.axes.axis_of.Goals as goal

pub returns-then-axis-letter : goal.returns-then-axis-letter
returns-then-axis-letter c = seek-ends c.loop-a.invariant c.loop-a-test.true c.if-axis-letter.true

pub loop-a-preserved : goal.loop-a-preserved
loop-a-preserved c = seek-goes-on c.loop-a.invariant c.loop-a-test.true c.if-axis-letter.false

pub returns : goal.returns
returns c = seek-fails c.loop-a.invariant c.loop-a-test.false
