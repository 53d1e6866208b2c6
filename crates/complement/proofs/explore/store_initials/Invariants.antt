-- `store_initials` stores the initial quadruples, by rising choice. The invariant: so many are stored. Assumes nothing.
use Rattle.tables.specs.Table.{wide_range}
use Rattle.complement.proofs.Starting.{Storing}
use Rattle.complement.proofs.explore.store_initials.Given as goal

abbrev pub invariant-loop-choice : goal.invariant-loop-choice
invariant-loop-choice l = Storing wide_range l.shape l.initial.sets l.sets l.choice
