-- `lasso_search::colouring::colour_of` meets its contract: a shift by as many bits as the colours below it take divides by a
-- power of their number. Assumes nothing.
use mathlib.Core.Path.{◌∙◌}
use Rattle.lasso_search.specs.Width.{width_16}
use Rattle.lasso_search.proofs.Stores.{colour_read}
use Rattle.lasso_search.proofs.colouring.colour_of.Goals as goal

pub returns : goal.returns
returns c = c.of_bits.ensures ∙ colour_read width_16 _ _
