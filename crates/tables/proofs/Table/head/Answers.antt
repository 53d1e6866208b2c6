use Rattle.tables.specs.Table.{head_of}
use Rattle.tables.proofs.Table.head.Goals as goal

pub returns : goal.returns
unfolding head_of
returns c = c.word_at.ensures
