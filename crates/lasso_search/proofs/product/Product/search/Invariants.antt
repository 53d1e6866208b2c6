-- `lasso_search::product::Product::search` meets its contract. The invariant: the stack is empty, and the initial states so far are visited.
-- Assumes nothing.
use Rattle.lasso_search.specs.Walks.{graph}
use Rattle.lasso_search.specs.Width.{width_16}
use Rattle.lasso_search.proofs.Explores.{Trying}
use Rattle.lasso_search.proofs.product.Product.search.Given as goal

abbrev pub invariant-loop-state : goal.invariant-loop-state
invariant-loop-state l = Trying width_16 (graph l.self) l.initial.work l.work l.state
