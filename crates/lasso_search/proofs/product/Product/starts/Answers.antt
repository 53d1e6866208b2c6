-- `lasso_search::product::Product::starts` meets its contract. Assumes nothing.
use Rattle.lasso_search.proofs.Given.{given_starts}
use Rattle.lasso_search.proofs.product.Product.starts.Goals as goal

pub returns : goal.returns
returns c = given_starts c.args.self.given c.requires c.flags.ensures.is
