use mathlib.Core.Path.{◌≡◌, ap}
use borrow.Author.Rules.{rules}
use Rattle.lasso_search.specs.Shades.{shade}
use Rattle.lasso_search.specs.Walks.{white_at}
use Rattle.lasso_search.specs.declared.colouring.Colour.TheVariants.{White}
use Rattle.lasso_search.proofs.Walks.{pass_white, pass_end}
use Rattle.lasso_search.proofs.edges.Edges.next_white.Goals as goal

pub returns-then-eq : goal.returns-then-eq
returns-then-eq c =
    let same : c.colour_of.result ≡ White = search rules in
    white_at (pass_white c.loop-target.invariant c.in-Some.ensures.steps c.colour_of.ensures (ap shade same))

pub returns : goal.returns
returns c = pass_end c.loop-target.invariant c.in_default.ensures.steps
