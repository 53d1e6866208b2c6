-- `read_all` is safe and ends. The invariant: there is room for what is still to be read. Assumes nothing.
use Rattle.decimal.specs.Reading.{Ready}
use Rattle.listing.proofs.read_all.Given as goal

abbrev pub invariant-loop : goal.invariant-loop
invariant-loop g l = Ready l.reading l.table
