-- The loop of `reader::count_records`: the reader is over the table passed, and what is counted and what is left make up the whole.
use Rattle.std.proofs.Common.{◌≡◌, ◌+◌, ◌-◌}
use Rattle.tables.specs.Table.{m_of}
use Rattle.reader.specs.Chain.{chain_length, records_in_chain}
use Rattle.reader.proofs.count_records.Given as goal

abbrev pub invariant-loop-count : goal.invariant-loop-count
invariant-loop-count l = record {
  same : l.reader.table.now ≡ l.table;
  whole : l.count + chain_length (m_of l.table - l.count) l.table l.reader.number ≡ records_in_chain l.table l.state;
}
