-- `tables::word` meets its contract: an element of a slice of u16 has 16 bits, and past the end the word is zero. Assumes nothing.
use native.Mathlib.Omega.{arith}
use mathlib.Core.Path.{refl, sym}
use lib.ListN.{get_or-eq_default}
use Rattle.tables.proofs.word.Goals as goal

pub returns-then-i-table : goal.returns-then-i-table
returns-then-i-table c = record { is = refl; small = omega (arith, c.type_inv.table c.args.i) }

pub returns-else-i-table : goal.returns-else-i-table
returns-else-i-table c =
    record { is = sym (get_or-eq_default c.args.table.now 0 c.if-i-table.false); small = omega arith }
