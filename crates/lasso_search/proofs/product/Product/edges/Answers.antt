-- `lasso_search::product::Product::edges` meets its contract: the first record of a node is that of its state. Assumes nothing.
use native.Mathlib.Omega.{arith}
use Rattle.lasso_search.proofs.Given.{given_first}
use Rattle.lasso_search.proofs.product.Product.edges.Goals as goal

pub edges_from-requires-clause-number_to : goal.edges_from-requires-clause-number_to
edges_from-requires-clause-number_to c =
    let sized = c.args.self.given.sized in
    let inside = c.requires in given_first c.args.self.given (omega arith) c.head.ensures.is
