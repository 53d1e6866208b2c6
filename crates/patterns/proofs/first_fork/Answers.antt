use Rattle.basics.proofs.Scans.{scan_start, scan_more, scan_none}
use Rattle.patterns.specs.Shape.{masks_place}
use Rattle.patterns.proofs.Forks.{outer_even, inner_forks}
use Rattle.patterns.proofs.Pairs.{search_found, search_ended}
use Rattle.patterns.proofs.first_fork.Goals as goal
use Rattle.patterns.proofs.first_fork.Goals.{then-shape-state-eq1+else-loop-letter-test, else-shape-state-eq1}

pub loop-letter-init : goal.loop-letter-init
loop-letter-init c = scan_start

-- whether the state forks on the letter is whether its targets are two
pub loop-letter-preserved : goal.loop-letter-preserved
loop-letter-preserved c =
    scan_more c.loop-letter.invariant c.loop-letter-test.true
    (inner_forks _ _ _ _ c.if-shape-state-eq1.true c.two_targets.ensures c.if-two_targets.false)

-- a state that is passed forks on no letter
pub loop-state-preserved : goal.loop-state-preserved
loop-state-preserved c =
    scan_more c.loop-state.invariant c.loop-state-test.true
    (elim c.if-shape-state-eq1.branch [
      | then-shape-state-eq1+else-loop-letter-test w ↦ scan_none w.loop-letter.invariant w.loop-letter-test.false
      | else-shape-state-eq1 w ↦ outer_even _ _ _ _ w.if-shape-state-eq1.false
    ])

pub returns-after-loop-state : goal.returns-after-loop-state
unfolding masks_place
returns-after-loop-state c = search_ended _ _ _ _ c.loop-state-test.false c.loop-state.invariant

pub returns-then-two_targets : goal.returns-then-two_targets
unfolding masks_place
returns-then-two_targets c =
    search_found _ _ _ _ _ c.loop-state-test.true c.loop-letter-test.true c.loop-state.invariant c.loop-letter.invariant
    (inner_forks _ _ _ _ c.if-shape-state-eq1.true c.two_targets.ensures c.if-two_targets.true)
