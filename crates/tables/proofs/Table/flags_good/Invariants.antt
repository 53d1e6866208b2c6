-- `tables::Table::flags_good` meets its contract: the loop tests the flags of one state after the other. Assumes nothing.
use mathlib.Core.Bool.{true}
use Rattle.basics.proofs.Scans.{Scan}
use Rattle.tables.specs.Table.{n_of, flag_good}
use Rattle.tables.proofs.Table.flags_good.Given as goal

abbrev pub invariant-loop-q : goal.invariant-loop-q
invariant-loop-q l = Scan true (flag_good l.self.words.now) (n_of l.self.words.now) l.q
