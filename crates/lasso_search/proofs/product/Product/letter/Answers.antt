-- `lasso_search::product::Product::letter` meets its contract: the position of a node of the product is one of the lasso's. Assumes nothing.
use native.Mathlib.Omega.{arith}
use Rattle.lasso_search.proofs.Given.{given_position}
use Rattle.lasso_search.proofs.Places.{letter_prefix, letter_loop}
use Rattle.lasso_search.proofs.product.Product.letter.Goals as goal

pub returns-then-position-self : goal.returns-then-position-self
returns-then-position-self c = letter_prefix _ _ _ _ c.if-position-self.true

pub bounds-self-position-2 : goal.bounds-self-position-2
bounds-self-position-2 c = omega (arith, given_position c.args.self.given c.requires)

pub returns : goal.returns
returns c = letter_loop _ _ _ _ c.if-position-self.false
