-- `add_successors` meets the successors on a letter, by rising choice. The invariant: so many choices were met. Assumes nothing.
use Rattle.basics.specs.Tabulate.{tabulate}
use Rattle.automata.specs.System.{add_all}
use Rattle.ncsb.specs.Array.{nth_successor}
use Rattle.ncsb.specs.Successors.{same}
use Rattle.complement.specs.Found.{wide_quadruples}
use Rattle.complement.proofs.Reaching.{Reaching}
use Rattle.complement.proofs.explore.Growth.add_successors.Given as goal

abbrev pub invariant-loop-choice : goal.invariant-loop-choice
invariant-loop-choice l =
    Reaching wide_quadruples (λ n. add_all same l.source l.letter (tabulate n (nth_successor l.x l.asked))) l.initial.self l.self l.choice
