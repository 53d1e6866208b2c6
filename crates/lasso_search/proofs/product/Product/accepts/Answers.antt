-- `lasso_search::product::Product::accepts` meets its contract. Assumes nothing.
use Rattle.lasso_search.proofs.Given.{given_accepts}
use Rattle.lasso_search.proofs.product.Product.accepts.Goals as goal

pub returns : goal.returns
returns c = given_accepts c.args.self.given _ c.flags.ensures.is
