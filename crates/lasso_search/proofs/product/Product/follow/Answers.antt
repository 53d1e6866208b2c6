-- `lasso_search::product::Product::follow` meets its contract: a black target has room to wait. Assumes nothing.
use mathlib.Core.Path.{sym, ◌∙◌, ap}
use mathlib.Core.Logic.{inl, inr}
use native.Mathlib.Omega.{arith}
use Rattle.lasso_search.specs.Shades.{shade}
use Rattle.lasso_search.proofs.Follows.{follow_room, follow_grey, follow_black, follow_other}
use Rattle.lasso_search.proofs.product.Product.follow.Goals as goal

pub bounds-work-self : goal.bounds-work-self
bounds-work-self c =
    let room = follow_room c.requires (sym c.colour_of.ensures ∙ ap shade c.in-Black.is) in
    let long = c.requires.long in omega (arith, c.turn.auto.work)

pub returns-in-Grey : goal.returns-in-Grey
returns-in-Grey c = follow_grey (sym c.colour_of.ensures ∙ ap shade c.in-Grey.is)

pub returns-in-Black : goal.returns-in-Black
returns-in-Black c = follow_black (sym c.colour_of.ensures ∙ ap shade c.in-Black.is) c.turn.ensures

pub returns-in-White : goal.returns-in-White
returns-in-White c =
    follow_other
    (elim c.in-White.is [
      | inl s ↦ inl (sym c.colour_of.ensures ∙ ap shade s)
      | inr s ↦ inr (sym c.colour_of.ensures ∙ ap shade s)
    ])
