-- `lasso_search::product::Product::spread` meets its contract. The invariant: the edges followed so far turned their black targets red.
-- Assumes nothing.
use Rattle.lasso_search.specs.Walks.{graph}
use Rattle.lasso_search.specs.Width.{width_16}
use Rattle.lasso_search.proofs.Follows.{Spreading}
use Rattle.lasso_search.proofs.product.Product.spread.Given as goal

abbrev pub invariant-loop-target : goal.invariant-loop-target
invariant-loop-target l = Spreading width_16 (graph l.self) l.initial.work l.node l.waiting l.target-iterator l.work l.count
