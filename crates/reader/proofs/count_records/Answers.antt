-- `reader::count_records` meets its contract: each turn asks what stands at the reader, and steps on. Assumes nothing.
use Rattle.std.proofs.Common.{arith}
use Rattle.std.proofs.lemmas.Grind.{common_steps}
use Rattle.reader.proofs.Counting.{length_none, edge_read, count_more, count_spent}
use Rattle.reader.specs.Chain.{records_in_chain}
use Rattle.reader.proofs.count_records.Goals as goal

pub loop-count-init : goal.loop-count-init
unfolding records_in_chain
loop-count-init c = grind (arith, common_steps)

pub returns-then-is_none : goal.returns-then-is_none
returns-then-is_none c = grind (arith, common_steps, length_none, edge_read)

pub loop-count-preserved : goal.loop-count-preserved
loop-count-preserved c = grind (arith, common_steps, count_more, edge_read)

pub returns : goal.returns
returns c = grind (arith, common_steps, count_spent)
