-- `tables::Table::records_good` meets its contract: the loop tests letter and target of one record after the other. Assumes nothing.
use mathlib.Core.Bool.{true}
use Rattle.basics.proofs.Scans.{Scan}
use Rattle.tables.specs.Table.{m_of, record_good}
use Rattle.tables.proofs.Table.records_good.Given as goal

abbrev pub invariant-loop-i : goal.invariant-loop-i
invariant-loop-i l = Scan true (record_good l.self.words.now) (m_of l.self.words.now) l.i
