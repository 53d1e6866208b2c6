-- `Part::lay_states` meets its contract: a turn lays out the row of one state. Assumes nothing.
use native.Mathlib.Omega.{arith}
use Rattle.basics.proofs.Laying.{laying_start}
use Rattle.tables.proofs.Laws.{valid}
use Rattle.merge.proofs.Turns.{state_turn}
use Rattle.merge.proofs.Part.lay_states.Goals as goal

pub loop-state-init : goal.loop-state-init
loop-state-init c = laying_start _ _ _ _

pub link_on-requires : goal.link_on-requires
link_on-requires c = let head = (valid _ _ c.args.self.valid).head c.loop-state.state (omega arith) in omega arith

pub loop-state-preserved : goal.loop-state-preserved
loop-state-preserved c =
    state_turn _ _ c.loop-state.invariant c.loop-state-test.true c.flags.ensures.is c.head.ensures.is c.link_on.ensures
