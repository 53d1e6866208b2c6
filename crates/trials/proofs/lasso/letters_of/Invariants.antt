-- `trials::lasso::letters_of` is safe and ends. The measure is what is left of the text. Assumes nothing.
use Rattle.std.proofs.Common.{length}
use Rattle.trials.proofs.lasso.letters_of.Given as goal

abbrev pub decreases-loop-left : goal.decreases-loop-left
decreases-loop-left l = length l.left
