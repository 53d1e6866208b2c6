-- `lasso_search::edges::Edges::next_white` meets its contract. The invariant: what was passed by is visited. The measure is how many
-- records can follow. Assumes nothing.
use Rattle.lasso_search.specs.Walks.{records_ahead}
use Rattle.lasso_search.specs.Width.{width_16}
use Rattle.lasso_search.proofs.Walks.{Passing}
use Rattle.lasso_search.proofs.edges.Edges.next_white.Given as goal

abbrev pub invariant-loop-target : goal.invariant-loop-target
invariant-loop-target l = Passing width_16 l.work l.initial.self l.self

abbrev pub decreases-loop-target : goal.decreases-loop-target
decreases-loop-target l = records_ahead l.self
