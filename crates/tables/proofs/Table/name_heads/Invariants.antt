-- `tables::Table::name_heads` meets its contract: the loop tests and marks the head of one state after the other. Assumes nothing.
use mathlib.Core.Bool.{true}
use Rattle.basics.proofs.Scans.{Scan}
use Rattle.tables.specs.Marks.{mark_words, Marked}
use Rattle.tables.specs.Table.{n_of, m_of, head_of, head_good}
use Rattle.tables.proofs.Table.name_heads.Given as goal

abbrev pub invariant-loop-q : goal.invariant-loop-q
invariant-loop-q l =
    Scan true (head_good l.self.words.now) (n_of l.self.words.now) l.q
    × Marked mark_words (head_of l.self.words.now) l.q (m_of l.self.words.now) l.names l.initial.seen l.seen
