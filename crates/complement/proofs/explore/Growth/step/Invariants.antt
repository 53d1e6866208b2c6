-- `step` adds the edges of a state, by rising letter. The invariant: so many letters are done. Assumes nothing.
use Rattle.automata.specs.System.{by_letters}
use Rattle.ncsb.specs.Successors.{ncsb}
use Rattle.complement.specs.Found.{wide_quadruples, array_moves}
use Rattle.complement.proofs.Reaching.{Reaching}
use Rattle.complement.proofs.explore.Growth.step.Given as goal

abbrev pub invariant-loop-letter : goal.invariant-loop-letter
invariant-loop-letter l =
    Reaching wide_quadruples (λ k. by_letters (ncsb (array_moves l.masks l.shape)) k l.source l.x) l.initial.self l.self l.letter
