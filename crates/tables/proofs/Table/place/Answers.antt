use Rattle.std.proofs.Common.{arith}
use Rattle.tables.specs.Table.{record_at}
use Rattle.tables.proofs.Table.place.Goals as goal

pub returns : goal.returns
unfolding record_at
returns c = (rw c.args.self.counted, omega arith)
