use Rattle.lasso_search.proofs.Follows.{spreading_start, spreading_follow, spreading_met, spreading_turn, spreading_end}
use Rattle.lasso_search.proofs.Given.{given_bounded}
use Rattle.lasso_search.proofs.product.Product.spread.Goals as goal

pub loop-target-init : goal.loop-target-init
loop-target-init c =
    rw c.into_iter-target-iterator.ensures.into_iter_gives (spreading_start c.args.self c.edges-target-items.ensures)

pub follow-requires : goal.follow-requires
follow-requires c =
    rw c.args.self.given.sized
    (spreading_follow (given_bounded c.args.self.given) c.requires c.loop-target.invariant c.in-Some.ensures.steps)

pub returns-in_err-count : goal.returns-in_err-count
returns-in_err-count c =
    rw c.from_residual.ensures
    (spreading_met (given_bounded c.args.self.given) c.requires c.loop-target.invariant c.in-Some.ensures.steps
    (rw c.args.self.given.sized at c.follow.ensures)
    c.in_err-count.was)

pub loop-target-preserved : goal.loop-target-preserved
loop-target-preserved c =
    spreading_turn (given_bounded c.args.self.given) c.requires c.loop-target.invariant c.in-Some.ensures.steps c.follow.auto.work
    (rw c.args.self.given.sized at c.follow.ensures)
    c.in_ok-count.was

pub returns : goal.returns
returns c =
    spreading_end (given_bounded c.args.self.given) c.requires c.loop-target.invariant c.in-None.ensures.steps
