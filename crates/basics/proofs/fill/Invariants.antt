-- `fill` makes every item the value. The invariant: the items so far are the value. Assumes nothing.
use Rattle.basics.proofs.Clears.{Filling}
use Rattle.basics.proofs.fill.Given as goal

abbrev pub invariant-loop-i : goal.invariant-loop-i
invariant-loop-i g l = Filling l.fn.value l.initial.items l.items l.i
