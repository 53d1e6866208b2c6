-- `lasso_search::product::Product::descend` meets its contract. Assumes nothing.
use native.Mathlib.Omega.{arith}
use Rattle.lasso_search.proofs.Descends.{cursor_to, none_white, white_some, to_state, to_asks, next_deeper}
use Rattle.lasso_search.proofs.product.Product.descend.Goals as goal

pub edges_from-edges-requires-clause-number_to : goal.edges_from-edges-requires-clause-number_to
edges_from-edges-requires-clause-number_to c = cursor_to c.args.self.given c.requires

pub returns-in_default : goal.returns-in_default
returns-in_default c = none_white c.args.self c.requires c.edges_from-edges.ensures c.next_white.ensures c.in_default.is

pub overflow_sub-target : goal.overflow_sub-target
overflow_sub-target c =
    let white = white_some c.next_white.ensures c.in-Some.is in
    let base = white.step.goes_on.base in let from = white.step.from_base in omega arith

pub head-first-requires : goal.head-first-requires
head-first-requires c =
    to_state c.args.self c.requires c.edges_from-edges.ensures (white_some c.next_white.ensures c.in-Some.is)

pub enter-requires : goal.enter-requires
enter-requires c =
    to_asks c.args.self c.requires c.edges_from-edges.ensures (white_some c.next_white.ensures c.in-Some.is)
    (let k = c.head-first.ensures.small in omega arith)

pub returns : goal.returns
returns c =
    next_deeper c.args.self c.requires c.edges_from-edges.ensures (white_some c.next_white.ensures c.in-Some.is)
    c.head-first.ensures.is
    c.enter.ensures
