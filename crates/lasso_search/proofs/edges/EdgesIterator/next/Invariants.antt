-- The next target of `lasso_search::edges::Edges`. The invariant: no target was passed by. The measure is how many records can follow.
-- Assumes nothing.
use Rattle.lasso_search.specs.Walks.{records_ahead}
use Rattle.lasso_search.proofs.Walks.{Skipping}
use Rattle.lasso_search.proofs.edges.EdgesIterator.next.Given as goal

abbrev pub invariant-loop-self : goal.invariant-loop-self
invariant-loop-self l = Skipping l.initial.self l.self

abbrev pub decreases-loop-self : goal.decreases-loop-self
decreases-loop-self l = records_ahead l.self
