use Rattle.tables.specs.Table.{next_of}
use Rattle.tables.proofs.Table.next.Goals as goal

pub returns : goal.returns
unfolding next_of
returns c = rw c.place.ensures.0 at c.word_at.ensures
