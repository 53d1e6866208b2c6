use Rattle.tables.specs.Table.{flags_of}
use Rattle.tables.proofs.Table.flags.Goals as goal

pub returns : goal.returns
unfolding flags_of
returns c = c.word_at.ensures
