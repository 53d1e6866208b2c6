use Rattle.std.proofs.Common.{ℕ, [], get_or, refl}
use Rattle.sets.specs.Sets.{set_states, union}
use Rattle.sets.proofs.Walk.{clear_lt, join_end, join_turn}
use Rattle.sets.proofs.targets.Goals as goal

pub loop-left-init : goal.loop-left-init
loop-left-init c = (c.ranges.set.fits, refl)

pub loop-left-preserved : goal.loop-left-preserved
loop-left-preserved c =
    let at = c.loop-left in
    let args = c.args in
    let row = λ (q : ℕ). get_or (get_or args.moves.now q []) args.letter 0 in (
      clear_lt set_states at.left at.invariant.0,
      rw c.targets_of-all.ensures
          (join_turn set_states row at.all at.left (union set_states args.set row) at.invariant.0 c.loop-left-test.true at.invariant.1),
    )

pub returns : goal.returns
returns c =
    let at = c.loop-left in
    let args = c.args in
    let row = λ (q : ℕ). get_or (get_or args.moves.now q []) args.letter 0 in
    join_end set_states row at.all at.left (union set_states args.set row) c.loop-left-test.false at.invariant.1
