use Rattle.std.proofs.Common.{arith}
use Rattle.basics.proofs.Clears.{filling_start, filling_turn, filling_end}
use Rattle.basics.proofs.fill.Goals as goal

pub loop-i-init : goal.loop-i-init
loop-i-init g c = filling_start c.args.value c.args.items.now

pub loop-i-preserved : goal.loop-i-preserved
loop-i-preserved g c = filling_turn c.loop-i.invariant (omega arith)

pub returns : goal.returns
returns g c = filling_end c.loop-i.invariant (omega arith)
