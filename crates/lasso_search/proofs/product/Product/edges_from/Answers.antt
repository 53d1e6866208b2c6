-- `lasso_search::product::Product::edges_from` meets its contract: the next position lies among the nodes. Assumes nothing.
use native.Mathlib.Omega.{arith}
use Rattle.lasso_search.proofs.Given.{base_fits}
use Rattle.lasso_search.proofs.product.Product.edges_from.Goals as goal

pub invariant_of-result : goal.invariant_of-result
invariant_of-result c =
    let sized = c.args.self.given.sized in
    let inside = c.requires.inside in
    record {
      fits = base_fits c.args.self.given (omega arith) c.letter.ensures c.base.ensures;
      number_to = c.requires.number_to;
    }
