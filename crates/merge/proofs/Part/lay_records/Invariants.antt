-- The loop of `Part::lay_records`: the rows of the records passed are laid out.
use Rattle.basics.proofs.Laying.{Laying}
use Rattle.tables.specs.Table.{m_of}
use Rattle.merge.specs.Merged.{record_row}
use Rattle.merge.proofs.Part.lay_records.Given as goal

abbrev pub invariant-loop-i : goal.invariant-loop-i
invariant-loop-i l =
    Laying (record_row l.self.states_before l.self.records_before l.self.table.words.now) (m_of l.self.table.words.now) l.initial.words l.at l.words l.i
