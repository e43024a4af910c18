-- `corrections::choosing::entry_of`: a loop over the correction's blocks that counts the new ones down to the one wanted.
use Prim.Native.Nat.{◌-◌}
use lib.ListN.{length}
use Rattle.corrections.proofs.NewEntries.{Seen}
use Rattle.corrections.proofs.choosing.entry_of.Given as goal

abbrev pub invariant-loop-block : goal.invariant-loop-block
invariant-loop-block g l =
    let cs = g.N.Numbers.numbers l.correction in
    let ms = g.N.Numbers.numbers l.master in
    Seen cs ms (length cs) (l.n - length ms) l.left l.block
