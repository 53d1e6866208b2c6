-- `lassos::takes` meets its contract: an accepting node that is reached lies on a cycle of the product exactly where the
-- automaton takes the lasso. Assumes nothing.
use mathlib.Core.Path.{◌≡◌, sym, ◌∙◌, ap}
use Prim.Native.Nat.{◌+◌, ◌/◌, ◌≤◌}
use native.Mathlib.Omega.{arith}
use lib.ListN.{length}
use lib.Seq.{length-take-le}
use Rattle.basics.specs.Buffers.{zeros}
use Rattle.lasso_search.specs.Product.{product_graph}
use Rattle.lasso_search.specs.Width.{width_16, word_colours}
use Rattle.lasso_search.proofs.Width.{width_16_fits}
use Rattle.lassos.proofs.Decides.{not_refused, takes_small, colours_inside, takes_explore, takes_end}
use Rattle.lassos.proofs.takes.Goals as goal
use Rattle.lassos.proofs.takes.Goals.{After-new-product}

pub new-product-requires-clause-valid : goal.new-product-requires-clause-valid
new-product-requires-clause-valid c = (not_refused width_16_fits c.requires).valid

pub new-product-requires-clause-endless : goal.new-product-requires-clause-endless
new-product-requires-clause-endless c = (not_refused width_16_fits c.requires).lasso.endless

pub new-product-requires-clause-small : goal.new-product-requires-clause-small
new-product-requires-clause-small c = takes_small width_16_fits c.requires

-- the product is that of the table and the lasso
module _ (c : After-new-product) where
  product_is :
      product_graph c.new-product.result.table.words.now c.new-product.result.prefix.now c.new-product.result.cycle.now
      ≡ product_graph c.args.wide.table.words.now c.args.prefix.now c.args.cycle.now
  product_is = rw (c.new-product.ensures.table, c.new-product.ensures.prefix, c.new-product.ensures.cycle)

  size_same : c.new-product.result.size ≡ (product_graph c.args.wide.table.words.now c.args.prefix.now c.args.cycle.now).size
  size_same = c.new-product.result.given.sized ∙ ap (λ g. g.size) product_is

  colours_fit : c.new-product.result.size / word_colours width_16 + 1 ≤ length c.args.work.now
  colours_fit = colours_inside width_16_fits c.requires size_same

pub slice_bounds-fill-end : goal.slice_bounds-fill-end
slice_bounds-fill-end c = omega (arith, colours_fit (goal.at.slice_bounds-fill-end c).After-new-product)

pub slice_bounds-fill-end-2 : goal.slice_bounds-fill-end-2
slice_bounds-fill-end-2 c =
    sym (length-take-le _ _ (omega (arith, colours_fit (goal.at.slice_bounds-fill-end-2 c).After-new-product)))

pub search-requires : goal.search-requires
unfolding zeros
search-requires c =
    let e = product_is (goal.at.search-requires c).After-new-product in
    rw e (takes_explore width_16_fits c.requires (size_same (goal.at.search-requires c).After-new-product) c.fill.ensures)

pub returns : goal.returns
returns c =
    let e = product_is (goal.at.returns c).After-new-product in takes_end width_16_fits c.requires (rw e at c.search.ensures)
