-- `put_states` writes one state behind the other. The invariant: the states passed are written. Assumes nothing.
use Rattle.std.proofs.Common.{◌*◌}
use Rattle.basics.specs.Rows.{rows}
use Rattle.decimal.specs.Lines.{Appended}
use Rattle.listing_text.specs.Built.{built_state}
use Rattle.listing_text.specs.Output.{state_bytes}
use Rattle.listing_text.proofs.built.put_states.Given as goal

abbrev pub invariant-loop-state : goal.invariant-loop-state
invariant-loop-state l = Appended l.initial.output (state_bytes * l.state) (rows l.state (built_state l.table.words.now l.sets)) l.output
