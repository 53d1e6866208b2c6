-- `tables::Table::name_nexts` meets its contract: the loop tests and marks the next of one record after the other. Assumes nothing.
use mathlib.Core.Bool.{true}
use Prim.Native.Nat.{suc}
use Rattle.basics.proofs.Scans.{Scan}
use Rattle.tables.specs.Marks.{mark_words, Marked}
use Rattle.tables.specs.Table.{m_of, next_of, next_good}
use Rattle.tables.proofs.Table.name_nexts.Given as goal

abbrev pub invariant-loop-i : goal.invariant-loop-i
invariant-loop-i l =
    Scan true (next_good l.self.words.now) (m_of l.self.words.now) l.i
    × Marked mark_words (λ j. next_of l.self.words.now (suc j)) l.i (m_of l.self.words.now) l.names l.initial.seen l.seen
