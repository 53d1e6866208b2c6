-- `initial_count` is the number of initial quadruples. Assumes nothing.
use Rattle.complement.proofs.Starting.{start_counted}
use Rattle.complement.proofs.explore.initial_count.Goals as goal

pub returns : goal.returns
returns c = start_counted c.args.shape c.without.ensures c.choices.ensures.number
