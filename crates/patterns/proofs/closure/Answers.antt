use Rattle.std.proofs.Common.{arith}
use Rattle.patterns.proofs.Rounds.{round_turn, rounds_stop}
use Rattle.patterns.proofs.closure.Goals as goal

pub returns-then-next-reached : goal.returns-then-next-reached
returns-then-next-reached c =
    rounds_stop _ _ _ _ _ _ _ (omega arith) c.loop.invariant c.grown-next.ensures c.if-next-reached.true

pub loop-preserved : goal.loop-preserved
loop-preserved c = round_turn _ _ _ _ _ _ c.loop.invariant c.grown-next.ensures
