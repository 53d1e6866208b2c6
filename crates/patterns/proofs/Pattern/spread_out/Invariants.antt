-- `Pattern::spread_out` meets its contract. The invariant: the rows below `state` are filled, and the others are empty. Assumes nothing.
use Rattle.patterns.proofs.Masks.{Filled}
use Rattle.patterns.proofs.Pattern.spread_out.Given as goal

abbrev pub invariant-loop-state : goal.invariant-loop-state
invariant-loop-state l = Filled l.self.table.words.now l.masks l.state
