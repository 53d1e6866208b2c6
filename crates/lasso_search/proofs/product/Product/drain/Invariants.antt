-- `lasso_search::product::Product::drain` meets its contract. The invariant: the edges of every red node that does not wait lead to red nodes.
-- The measure falls: a node that begins to wait is no longer black. Assumes nothing.
use Prim.Native.Nat.{◌+◌, ◌*◌}
use Rattle.lasso_search.specs.Search.{blacks}
use Rattle.lasso_search.specs.Walks.{graph}
use Rattle.lasso_search.specs.Width.{width_16}
use Rattle.lasso_search.proofs.Drains.{Draining}
use Rattle.lasso_search.proofs.product.Product.drain.Given as goal

abbrev pub invariant-loop-count : goal.invariant-loop-count
invariant-loop-count l = Draining width_16 (graph l.self) l.initial.work l.waiting l.work l.count

abbrev pub decreases-loop-count : goal.decreases-loop-count
decreases-loop-count l = 2 * blacks width_16 l.self.size l.work + l.count
