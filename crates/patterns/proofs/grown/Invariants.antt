-- `patterns::grown` meets its contract. The invariant: the set, joined with its targets on the letters below `letter`. Assumes nothing.
use mathlib.Core.Path.{◌≡◌}
use Rattle.patterns.specs.Masks.{joined}
use Rattle.patterns.proofs.grown.Given as goal

abbrev pub invariant-loop-letter : goal.invariant-loop-letter
invariant-loop-letter l = l.all ≡ joined l.letter l.masks l.set
