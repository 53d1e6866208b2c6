-- `Pattern::row` meets its contract. The invariant: the sets so far, with what the rest of the chain has, are the state's edges.
-- Assumes nothing.
use Rattle.tables.specs.Table.{m_of}
use Rattle.tables.proofs.Chains.{left}
use Rattle.patterns.proofs.Walks.{Walked}
use Rattle.patterns.proofs.Pattern.row.Given as goal

abbrev pub invariant-loop-at : goal.invariant-loop-at
invariant-loop-at l = Walked l.self.table.words.now l.state l.row l.at

abbrev pub decreases-loop-at : goal.decreases-loop-at
decreases-loop-at l = left (m_of l.self.table.words.now) l.at
