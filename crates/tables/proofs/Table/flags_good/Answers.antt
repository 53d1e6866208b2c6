use native.Mathlib.Omega.{arith}
use mathlib.Core.Path.{refl}
use Rattle.basics.proofs.Scans.{scan_done, scan_fails, read_gt}
use Rattle.tables.specs.Table.{flag_good, flags_good}
use Rattle.tables.proofs.Table.flags_good.Goals as goal

pub returns-then-flags-gt3 : goal.returns-then-flags-gt3
unfolding flags_good
returns-then-flags-gt3 c =
    scan_fails (flag_good c.args.self.words.now) _ c.loop-q.q (omega arith)
    (read_gt c.flags.ensures.is refl c.if-flags-gt3.true)

pub returns : goal.returns
unfolding flags_good
returns c = scan_done c.loop-q.invariant (omega arith)
