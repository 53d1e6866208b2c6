-- `lasso_search::product::Product::try_state` meets its contract. Assumes nothing.
use mathlib.Core.Path.{◌≡◌, ap}
use borrow.Author.Rules.{rules}
use native.Mathlib.Omega.{arith}
use Rattle.lasso_search.specs.Shades.{shade}
use Rattle.lasso_search.specs.declared.colouring.Colour.TheVariants.{White}
use Rattle.lasso_search.proofs.Explores.{try_word, not_initial, not_white, try_enter, try_search, try_end}
use Rattle.lasso_search.proofs.Shades.{shade_white}
use Rattle.lasso_search.proofs.product.Product.try_state.Goals as goal
use Rattle.lasso_search.proofs.product.Product.try_state.Goals.{Else-ne}

pub returns-then-not-starts : goal.returns-then-not-starts
returns-then-not-starts c = not_initial c.args.self.given c.requires c.starts.ensures c.if-not-starts.true

pub colour_of-requires : goal.colour_of-requires
colour_of-requires c = try_word c.args.self.given c.requires

pub returns-then-ne : goal.returns-then-ne
returns-then-ne c =
    let other : c.colour_of.result ≡ White → ⊥ = search rules in
    not_white c.args.self.given c.requires c.colour_of.ensures (λ z. other (shade_white _ z))

-- the colour is white
module _ (c : Else-ne) where
  is_white : shade c.colour_of.result ≡ 0
  is_white = let same : c.colour_of.result ≡ White = search rules in ap shade same

pub enter-requires : goal.enter-requires
enter-requires c =
    try_enter c.args.self.given c.requires c.colour_of.ensures (is_white (goal.at.enter-requires c).Else-ne)
    (let k = c.head.ensures.small in omega arith)

pub explore-requires : goal.explore-requires
explore-requires c =
    try_search c.args.self.given c.requires c.colour_of.ensures (is_white (goal.at.explore-requires c).Else-ne)
    c.starts.ensures
    c.if-not-starts.false
    c.head.ensures.is
    c.enter.ensures

pub returns : goal.returns
returns c =
    try_end c.args.self.given c.requires c.colour_of.ensures (is_white (goal.at.returns c).Else-ne)
    c.starts.ensures
    c.if-not-starts.false
    c.head.ensures.is
    c.enter.ensures
    c.explore.ensures
