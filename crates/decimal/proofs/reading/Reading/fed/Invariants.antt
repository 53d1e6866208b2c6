-- `Reading::fed` feeds the chunk's bytes one after the other. The invariant: the bytes passed have been fed. Assumes nothing.
use lib.ListN.{take}
use Rattle.decimal.specs.Reading.{Fed}
use Rattle.decimal.proofs.reading.Reading.fed.Given as goal

abbrev pub invariant-loop-byte : goal.invariant-loop-byte
invariant-loop-byte l = Fed l.initial.reading l.initial.words (take l.byte-index l.chunk) l.reading l.words
