-- Blocks behind blocks, and behind a program.
use mathlib.Core.List.{List, ◌++◌, append_assoc}
use Prim.Native.Nat.{ℕ}
use Rattle.shorthand.specs.declared.Format.{Format}
use Rattle.reading.specs.declared.Block.{Block}
use Rattle.reading.specs.Relation.{Blocks, none, more, Program, program}

pub blocks-append : {f : Format} {bs cs : List Block} {r s : List ℕ} → Blocks f bs r → Blocks f cs s → Blocks f (bs ++ cs) (r ++ s)
blocks-append none q = q
blocks-append {s = s} (more {r = r} {s = u} b p) q = rw (append_assoc r u s) (more b (blocks-append p q))

pub program-append : {f : Format} {bs cs : List Block} {r s : List ℕ} → Program f bs r → Blocks f cs s → Program f (bs ++ cs) (r ++ s)
program-append {s = s} (program {e = e} {r = r} x p) q = rw (append_assoc e r s) (program x (blocks-append p q))
