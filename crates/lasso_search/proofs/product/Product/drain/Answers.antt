use Rattle.lasso_search.proofs.Drains.{draining_start, last_asks, draining_met, draining_turn, draining_less, draining_end}
use Rattle.lasso_search.proofs.product.Product.drain.Goals as goal

pub loop-count-init : goal.loop-count-init
loop-count-init c = draining_start c.requires

pub spread-requires : goal.spread-requires
spread-requires c = last_asks c.args.self.given c.loop-count.invariant c.loop-count-test.true

pub returns-in_default : goal.returns-in_default
returns-in_default c =
    draining_met c.args.self.given c.loop-count.invariant c.loop-count-test.true c.spread.ensures c.in_default.is

pub loop-count-smaller : goal.loop-count-smaller
loop-count-smaller c =
    draining_less c.args.self.given c.loop-count.invariant c.loop-count-test.true c.spread.ensures c.in-Some.is c.spread.auto.work

pub loop-count-preserved : goal.loop-count-preserved
loop-count-preserved c =
    draining_turn c.args.self.given c.loop-count.invariant c.loop-count-test.true c.spread.ensures c.in-Some.is c.spread.auto.work

pub returns : goal.returns
returns c = draining_end c.args.self.given c.loop-count.invariant c.loop-count-test.false
