-- `tables::records_of` meets its contract: it reads word 2. Assumes nothing.
use Rattle.tables.specs.Table.{m_of}
use Rattle.tables.proofs.records_of.Goals as goal

pub returns : goal.returns
unfolding m_of
returns c = c.word.ensures
