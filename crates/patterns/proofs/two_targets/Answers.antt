-- `patterns::two_targets` meets its contract: the ones of a set are its members. Assumes nothing.
use Rattle.patterns.proofs.Forks.{two_ones}
use Rattle.patterns.proofs.two_targets.Goals as goal

pub returns : goal.returns
returns c = two_ones c.args.set c.ranges.set.fits
