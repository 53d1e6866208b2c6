-- The loop of `records::fill`: the run holds the records that are laid down so far (`laid`), and the rest is as it was.
use Rattle.std.proofs.Common.{◌≡◌}
use Rattle.records.specs.Records.{records_in}
use Rattle.records.proofs.Laid.{laid}
use Rattle.records.proofs.fill.Given as goal

abbrev pub invariant-loop-number : goal.invariant-loop-number
invariant-loop-number l = l.records ≡ laid (records_in l.sets) l.initial.records l.number
