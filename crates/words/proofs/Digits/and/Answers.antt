-- `words::Digits::and`: one digit more behind fewer than 18 stays below ten to the 18th.
use native.Mathlib.Omega.{arith}
use Rattle.words.proofs.DigitRun.{one-more-fits}
use Rattle.words.proofs.Digits.and.Goals as goal

pub overflow_mul-result : goal.overflow_mul-result
overflow_mul-result c = omega (arith, one-more-fits _ 0 _ c.args.self.small (omega arith) c.requires.0)

pub overflow_add-result : goal.overflow_add-result
overflow_add-result c = omega (arith, one-more-fits _ 9 _ c.args.self.small (omega arith) c.requires.0)
