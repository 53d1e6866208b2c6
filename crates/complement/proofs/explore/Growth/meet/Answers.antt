-- `meet` adds an edge to a successor, and the successor if it is new. Assumes nothing.
use Rattle.std.proofs.Common.{arith}
use Rattle.tables.specs.Table.{wide_range}
use Rattle.complement.proofs.Kept.{shows_limit}
use Rattle.complement.proofs.Meeting.{placed_few, meet_full, meet_kept}
use Rattle.complement.proofs.explore.Growth.meet.Goals as goal

pub returns-in_err-target : goal.returns-in_err-target
returns-in_err-target c = rw c.from_residual.ensures (meet_full wide_range _ _ _ c.in_err-target.ensures.same c.in_err-target.ensures.placed)

pub overflow_cast-source : goal.overflow_cast-source
unfolding wide_range
overflow_cast-source c = let inside = c.requires.inside in let most = shows_limit c.requires.shows in omega arith

pub overflow_cast-target : goal.overflow_cast-target
unfolding wide_range
overflow_cast-target c = let few = placed_few wide_range c.args.source c.args.letter _ _ c.requires.shows c.in_ok-target.ensures.placed in omega arith

pub returns : goal.returns
returns c =
    let placed = c.in_ok-target.ensures in
    meet_kept wide_range _ _ _ placed.same placed.words placed.placed c.keep_edge.ensures.same c.keep_edge.ensures.added
