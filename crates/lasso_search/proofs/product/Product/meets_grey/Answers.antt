-- `lasso_search::product::Product::meets_grey` meets its contract: first the node's own edges, then those of the nodes that wait.
-- Assumes nothing.
use Rattle.lasso_search.proofs.Drains.{meets_asks, meets_at_once, meets_drain, meets_end}
use Rattle.lasso_search.proofs.product.Product.meets_grey.Goals as goal

pub spread-requires : goal.spread-requires
spread-requires c = meets_asks c.args.self.given c.requires

pub drain-requires : goal.drain-requires
drain-requires c = meets_drain c.args.self.given c.requires c.spread.ensures c.in-Some.is c.spread.auto.work

pub returns-in-Some : goal.returns-in-Some
returns-in-Some c =
    meets_end c.args.self.given c.requires c.spread.ensures c.in-Some.is c.spread.auto.work c.drain.ensures

pub returns-in-None : goal.returns-in-None
returns-in-None c = meets_at_once c.args.self.given c.requires c.spread.ensures c.in-None.is
