-- `Pattern::flagged` meets its contract. The invariant: the sets so far are those of the initial and of the accepting states below
-- `state`. Assumes nothing.
use Rattle.tables.specs.Table.{meaning, n_of}
use Rattle.patterns.proofs.Flags.{Gathered}
use Rattle.patterns.proofs.Pattern.flagged.Given as goal

abbrev pub invariant-loop-state : goal.invariant-loop-state
invariant-loop-state l =
    Gathered (meaning l.self.table.words.now).initial (n_of l.self.table.words.now) l.initial' l.state
    × Gathered (meaning l.self.table.words.now).accepting (n_of l.self.table.words.now) l.accepting l.state
