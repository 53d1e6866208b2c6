use Rattle.tables.specs.Table.{letter_of}
use Rattle.tables.proofs.Table.letter.Goals as goal

pub returns : goal.returns
unfolding letter_of
returns c = rw c.place.ensures.0 at c.word_at.ensures
