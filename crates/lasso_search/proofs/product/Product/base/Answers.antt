-- `lasso_search::product::Product::base` meets its contract: no product is larger than the number of nodes. Assumes nothing.
use Rattle.lasso_search.proofs.Places.{base_next, base_back}
use Rattle.lasso_search.proofs.product.Product.base.Goals as goal

pub returns-then-next-self : goal.returns-then-next-self
returns-then-next-self c = base_next _ _ _ _ c.if-next-self.true

pub returns : goal.returns
returns c = base_back _ _ _ _ c.if-next-self.false
