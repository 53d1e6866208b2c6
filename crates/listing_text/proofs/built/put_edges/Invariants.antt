-- `put_edges` writes one record behind the other. The invariant: the records before `number` are written, and `next` is the source
-- of this one. Assumes nothing.
use Rattle.std.proofs.Common.{◌-◌}
use Rattle.listing_text.proofs.Printing.{Sourcing}
use Rattle.listing_text.proofs.built.put_edges.Given as goal

abbrev pub invariant-loop-number : goal.invariant-loop-number
invariant-loop-number l = Sourcing l.table.words.now l.initial.output (l.number - 1) l.next l.output
