-- `tables::letters_of` meets its contract: it reads word 1. Assumes nothing.
use Rattle.tables.specs.Table.{k_of}
use Rattle.tables.proofs.letters_of.Goals as goal

pub returns : goal.returns
unfolding k_of
returns c = c.word.ensures
