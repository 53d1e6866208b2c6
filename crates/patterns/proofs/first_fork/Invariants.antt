-- `patterns::first_fork` meets its contract. The invariants: no state below `state` forks on any letter, and this state on no letter below
-- `letter`. Assumes nothing.
use mathlib.Core.Bool.{false}
use Rattle.basics.proofs.Scans.{Scan}
use Rattle.patterns.specs.Shape.{mask_forks}
use Rattle.patterns.proofs.Pairs.{row}
use Rattle.patterns.proofs.first_fork.Given as goal

abbrev pub invariant-loop-state : goal.invariant-loop-state
invariant-loop-state l = Scan false (row l.shape.letters (mask_forks l.masks l.shape.inner)) l.shape.states l.state

abbrev pub invariant-loop-letter : goal.invariant-loop-letter
invariant-loop-letter l = Scan false (mask_forks l.masks l.shape.inner l.state) l.shape.letters l.letter
