-- `sets::without` meets its contract: a & !b takes away from a what is in b. Assumes nothing.
use Rattle.sets.specs.Sets.{set_states}
use Rattle.sets.proofs.Walk.{flip_without}
use Rattle.sets.proofs.without.Goals as goal

pub returns : goal.returns
returns c = flip_without set_states c.args.a c.args.b c.ranges.a.fits c.ranges.b.fits
