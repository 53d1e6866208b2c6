-- `patterns::closure` meets its contract. The invariant: what is reached in so many rounds. Assumes nothing.
use mathlib.Core.Path.{◌≡◌}
use Rattle.patterns.specs.Masks.{joined_in}
use Rattle.patterns.proofs.closure.Given as goal

abbrev pub invariant-loop : goal.invariant-loop
invariant-loop l = l.reached ≡ joined_in l.counter l.letters l.masks l.set
