-- `trials::script::run` is safe and ends. The measure is what is left of the text. Assumes nothing.
use Rattle.std.proofs.Common.{length}
use Rattle.trials.proofs.script.run.Given as goal

abbrev pub decreases-loop-left : goal.decreases-loop-left
decreases-loop-left g l = length l.left
