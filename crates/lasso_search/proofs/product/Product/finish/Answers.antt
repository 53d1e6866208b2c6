-- `lasso_search::product::Product::finish` meets its contract. Assumes nothing.
use Rattle.lasso_search.proofs.Explores.{finish_black, finish_closes, finish_red}
use Rattle.lasso_search.proofs.product.Product.finish.Goals as goal

pub returns-then-not-accepts : goal.returns-then-not-accepts
returns-then-not-accepts c = finish_black c.accepts.ensures c.if-not-accepts.true c.turn.ensures

pub returns-then-meets_grey : goal.returns-then-meets_grey
returns-then-meets_grey c =
    finish_closes c.accepts.ensures c.if-not-accepts.false c.meets_grey.ensures c.if-meets_grey.true

pub returns : goal.returns
returns c = finish_red c.meets_grey.auto.work c.meets_grey.ensures c.if-meets_grey.false c.turn-2.ensures
