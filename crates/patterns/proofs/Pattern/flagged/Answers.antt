use Rattle.patterns.proofs.Flags.{gathered_start, initial_turn, accepting_turn, initial_end, accepting_end}
use Rattle.patterns.proofs.Pattern.flagged.Goals as goal

pub loop-state-init : goal.loop-state-init
loop-state-init c = (gathered_start _ _, gathered_start _ _)

pub loop-state-preserved : goal.loop-state-preserved
loop-state-preserved c =
    let is = c.args.self.table.counted in
    let inv = c.loop-state.invariant in (
      initial_turn _ c.args.self.passed _ _ is _ c.flags-flags.ensures.is c.loop-state-test.true _ inv.0,
      accepting_turn _ c.args.self.passed _ _ is _ c.flags-flags.ensures.is c.loop-state-test.true _ inv.1,
    )

pub returns : goal.returns
returns c =
    let is = c.args.self.table.counted in
    let inv = c.loop-state.invariant in
    record {
      initial = initial_end _ c.args.self.passed _ _ is _ c.loop-state-test.false inv.0;
      accepting = accepting_end _ c.args.self.passed _ _ is _ c.loop-state-test.false inv.1;
    }
