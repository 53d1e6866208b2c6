-- The loop of `Part::lay_states`: the rows of the states passed are laid out.
use Rattle.basics.proofs.Laying.{Laying}
use Rattle.merge.specs.Merged.{state_row}
use Rattle.merge.proofs.Part.lay_states.Given as goal

abbrev pub invariant-loop-state : goal.invariant-loop-state
invariant-loop-state l = Laying (state_row l.self.records_before l.self.table.words.now) l.self.table.states l.initial.words l.at l.words l.state
