-- `lines::not_leaving` meets its contract: the set is that of line 4. Assumes nothing.
use Rattle.ncsb.specs.Array.{from_array}
use Rattle.ncsb.specs.Lines.{not_leaving, targets}
use Rattle.ncsb.proofs.lines.not_leaving.Goals as goal

pub returns : goal.returns
unfolding from_array not_leaving targets
returns c = rw c.without.ensures at c.targets.ensures
