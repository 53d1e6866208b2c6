-- `lines::safe_stays` meets its contract: the set is that of line 3. Assumes nothing.
use Rattle.ncsb.specs.Array.{from_array}
use Rattle.ncsb.specs.Lines.{safe_stays, targets}
use Rattle.ncsb.proofs.lines.safe_stays.Goals as goal

pub returns : goal.returns
unfolding from_array safe_stays targets
returns c = c.targets.ensures
