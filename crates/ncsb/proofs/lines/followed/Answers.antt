-- `lines::followed` meets its contract: the set is that of line 6. Assumes nothing.
use Rattle.ncsb.specs.Array.{from_array}
use Rattle.ncsb.specs.Lines.{followed, targets}
use Rattle.ncsb.proofs.lines.followed.Goals as goal

pub returns : goal.returns
unfolding from_array followed targets
returns c = c.targets.ensures
