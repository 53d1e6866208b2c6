use Rattle.std.proofs.Common.{arith}
use Rattle.patterns.proofs.Walks.{walk_letter, walk_target, walk_start, walk_turn, walk_less, walk_end}
use Rattle.patterns.proofs.Pattern.row.Goals as goal

pub loop-at-init : goal.loop-at-init
loop-at-init c = walk_start _ c.args.self.passed _ _ (omega arith) c.head-at.ensures.is

pub bounds-row-letter : goal.bounds-row-letter
bounds-row-letter c =
    walk_letter _ c.args.self.passed _ _ _ _ c.loop-at-test.true c.loop-at.invariant c.letter-letter.ensures.is

pub overflow_shl-row : goal.overflow_shl-row
overflow_shl-row c =
    walk_target _ c.args.self.passed _ _ _ _ c.loop-at-test.true c.loop-at.invariant c.target-target.ensures.is

pub bounds-row-letter-in-loop-at : goal.bounds-row-letter-in-loop-at
bounds-row-letter-in-loop-at c =
    walk_letter _ c.args.self.passed _ _ _ _ c.loop-at-test.true c.loop-at.invariant c.letter-letter.ensures.is

pub loop-at-smaller : goal.loop-at-smaller
loop-at-smaller c =
    walk_less _ c.args.self.passed _ _ _ _ c.loop-at-test.true c.loop-at.invariant c.next-at.ensures.is

pub loop-at-preserved : goal.loop-at-preserved
loop-at-preserved c =
    walk_turn _ c.args.self.passed _ _ _ _ _ _ c.loop-at-test.true c.loop-at.invariant
    c.letter-letter.ensures.is c.target-target.ensures.is c.next-at.ensures.is

pub returns : goal.returns
returns c = walk_end _ c.args.self.passed _ _ _ (omega arith) c.loop-at-test.false c.loop-at.invariant
