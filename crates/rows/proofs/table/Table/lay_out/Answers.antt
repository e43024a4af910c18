-- `rows::table::Table::lay_out` meets its contract: the constant is the table that antt computes of `entry`, row by row.
use Rattle.rows.proofs.Tabulated.{tab-at}
use Rattle.rows.specs.Row.{entry}
use lib.Count.{ones}
use mathlib.Core.Path.{refl}
use Rattle.rows.proofs.table.Table.lay_out.Goals as goal

pub invariant_of-result : goal.invariant_of-result
unfolding entry ones
invariant_of-result c = record { tabulated = record { long = refl; entries = λ b h. tab-at entry 256 b 0 h } }
