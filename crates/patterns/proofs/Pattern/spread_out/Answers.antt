use Rattle.patterns.proofs.Masks.{filled_start, filled_turn, filled_end}
use Rattle.patterns.proofs.Pattern.spread_out.Goals as goal

pub loop-state-init : goal.loop-state-init
loop-state-init c = filled_start _ c.args.self.passed

pub loop-state-preserved : goal.loop-state-preserved
loop-state-preserved c =
    filled_turn _ c.args.self.passed _ _ _ _ c.args.self.table.counted c.loop-state-test.true c.row.ensures c.loop-state.invariant

pub returns : goal.returns
returns c = filled_end _ c.args.self.passed _ _ _ c.args.self.table.counted c.loop-state-test.false c.loop-state.invariant
