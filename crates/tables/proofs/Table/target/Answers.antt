use Rattle.tables.specs.Table.{target_of}
use Rattle.tables.proofs.Table.target.Goals as goal

pub returns : goal.returns
unfolding target_of
returns c = rw c.place.ensures.0 at c.word_at.ensures
