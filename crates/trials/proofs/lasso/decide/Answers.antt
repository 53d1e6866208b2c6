-- `trials::lasso::decide` is safe. The length of the work words is told by a law, since to count them out is slow. Assumes nothing.
use Rattle.std.proofs.Common.{ℕ, sym}
use lib.ListN.{length-replicate}
use Rattle.trials.proofs.lasso.decide.Goals as goal

pub slice_bounds-get_mut-end : goal.slice_bounds-get_mut-end
slice_bounds-get_mut-end g c = sym (length-replicate {A = ℕ} 524280 7)
