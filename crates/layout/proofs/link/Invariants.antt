-- The loop of `layout::link`: the edges that it has passed are linked.
use Rattle.layout.specs.Steps.{Linked}
use Rattle.layout.proofs.link.Given as goal

abbrev pub invariant-loop-r : goal.invariant-loop-r
invariant-loop-r l = Linked l.r l.initial.states l.initial.edges l.states l.edges
