use native.Mathlib.Omega.{arith}
use Rattle.sets.specs.Sets.{set_states, nth_subset}
use Rattle.sets.proofs.Subsets.{spread_none, spread_zero}
use Rattle.sets.proofs.Walk.{clear_lt, leave_turn, take_fits, take_turn, choose_end}
use Rattle.sets.proofs.nth_subset.Goals as goal
use Rattle.sets.proofs.nth_subset.Goals.{then-digits-eq1, else-digits-eq1}

pub loop-members-init : goal.loop-members-init
loop-members-init c = (c.ranges.set.fits, omega arith)

pub loop-members-preserved : goal.loop-members-preserved
loop-members-preserved c =
    let at = c.loop-members in
    let args = c.args in
    let n = c.loop-members-test.true in (
      clear_lt set_states at.members at.invariant.0,
      elim c.if-digits-eq1.branch [
        | then-digits-eq1 w ↦
            take_turn set_states at.members at.digits at.part args.set args.choice at.invariant.0 n at.invariant.1
            c.if-digits-eq1.part w.if-digits-eq1.true w.part-is
        | else-digits-eq1 w ↦
            leave_turn set_states at.members at.digits at.part args.set args.choice at.invariant.0 n at.invariant.1
            c.if-digits-eq1.part w.if-digits-eq1.false w.part-is
      ],
    )

pub overflow_add-part : goal.overflow_add-part
overflow_add-part c =
    let at = c.loop-members in
    let args = c.args in
    record {
      fits =
          take_fits set_states at.members at.digits at.part args.set args.choice at.invariant.0
          c.loop-members-test.true at.invariant.1 c.if-digits-eq1.true;
    }

-- no member is left
pub returns-after-loop-members : goal.returns-after-loop-members
unfolding nth_subset
returns-after-loop-members c =
    let at = c.loop-members in
    let args = c.args in
    choose_end set_states at.members at.digits at.part args.set args.choice
    (rw c.loop-members-test.false (spread_zero set_states at.digits)) at.invariant.1

-- no digit is left
pub returns-else-digits-ne0 : goal.returns-else-digits-ne0
unfolding nth_subset
returns-else-digits-ne0 c =
    let at = c.loop-members in
    let args = c.args in
    choose_end set_states at.members at.digits at.part args.set args.choice
    (rw c.if-digits-ne0.false (spread_none set_states at.members)) at.invariant.1
