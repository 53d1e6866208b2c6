use Rattle.lasso_search.proofs.Explores.{trying_found, trying_turn, trying_end}
use Rattle.lasso_search.proofs.product.Product.search.Goals as goal

pub returns-then-try_state : goal.returns-then-try_state
returns-then-try_state c =
    trying_found c.args.self.given c.loop-state.invariant c.try_state.ensures c.if-try_state.true

pub loop-state-preserved : goal.loop-state-preserved
loop-state-preserved c =
    trying_turn c.args.self.given c.loop-state.invariant c.try_state.ensures
    c.if-try_state.false

pub returns : goal.returns
returns c = trying_end c.args.self.given c.loop-state.invariant c.loop-state-test.false
