-- `lasso_search::product::Product::explore` meets its contract. The invariant is that of the search. The measure falls: a node that enters
-- the stack is no longer white, and one that leaves it makes it shorter. Assumes nothing.
use Prim.Native.Nat.{◌+◌, ◌*◌}
use Rattle.lasso_search.specs.Search.{whites}
use Rattle.lasso_search.specs.Walks.{graph}
use Rattle.lasso_search.specs.Width.{width_16}
use Rattle.lasso_search.proofs.Explores.{Exploring}
use Rattle.lasso_search.proofs.product.Product.explore.Given as goal

abbrev pub invariant-loop-depth : goal.invariant-loop-depth
invariant-loop-depth l = Exploring width_16 (graph l.self) l.initial.work l.work l.depth

abbrev pub decreases-loop-depth : goal.decreases-loop-depth
decreases-loop-depth l = 2 * whites width_16 l.self.size l.work + l.depth
