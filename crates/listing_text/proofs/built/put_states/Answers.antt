use native.Mathlib.Omega.{arith}
use Rattle.basics.specs.Rows.{rows}
use Rattle.decimal.proofs.Placing.{nothing_appended, row_appended}
use Rattle.listing_text.specs.Output.{state_bytes}
use Rattle.listing_text.proofs.Printing.{row_room}
use Rattle.listing_text.proofs.built.put_states.Goals as goal

pub loop-state-init : goal.loop-state-init
unfolding rows
loop-state-init c = nothing_appended _ (omega (arith, c.requires.room))

pub put_state-requires-clause-room : goal.put_state-requires-clause-room
put_state-requires-clause-room c = row_room state_bytes c.requires.room c.loop-state-test.true c.loop-state.invariant

pub loop-state-preserved : goal.loop-state-preserved
loop-state-preserved c = row_appended _ c.loop-state.state c.loop-state.invariant c.put_state.ensures
