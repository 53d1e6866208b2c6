-- `find` is a scan of the first records. The invariant: none of those passed is x. Assumes nothing.
use Rattle.std.proofs.Common.{false}
use Rattle.basics.proofs.Scans.{Scan}
use Rattle.ncsb.specs.Successors.{same}
use Rattle.record_words.specs.Record.{quadruple_at}
use Rattle.complement.proofs.records.find.Given as goal

abbrev pub invariant-loop-number : goal.invariant-loop-number
invariant-loop-number l = Scan false (λ i. same l.x (quadruple_at l.sets i)) l.count l.number
