-- `lines::disjoint` meets its contract: C' is what line 2 says. Assumes nothing.
use Rattle.std.proofs.Common.{◌≡◌, ℕ}
use Rattle.sets.specs.Sets.{without}
use Rattle.ncsb.specs.Lines.{disjoint}
use Rattle.ncsb.proofs.lines.disjoint.Goals as goal

rest : (tracked safe : ℕ) {r : ℕ} → r ≡ without tracked safe → r ≡ disjoint tracked safe
unfolding disjoint
rest tracked safe e = e

pub returns : goal.returns
returns c = rest c.args.tracked c.args.safe c.without.ensures
