-- `tables::states_of` meets its contract: it reads word 0. Assumes nothing.
use Rattle.tables.specs.Table.{n_of}
use Rattle.tables.proofs.states_of.Goals as goal

pub returns : goal.returns
unfolding n_of
returns c = c.word.ensures
