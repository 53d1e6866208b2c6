-- `lasso_search::product::Product::enter` meets its contract. Assumes nothing.
use Rattle.lasso_search.proofs.Descends.{entered_is}
use Rattle.lasso_search.proofs.product.Product.enter.Goals as goal

pub returns : goal.returns
returns c = entered_is c.requires c.turn.ensures
