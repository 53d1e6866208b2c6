use Rattle.automata.proofs.Members.{number_met}
use Rattle.ncsb.specs.Successors.{same}
use Rattle.ncsb.proofs.Same.{equals_same}
use Rattle.record_words.specs.Record.{quadruple_at, records_of}
use Rattle.complement.specs.Records.{looked_up}
use Rattle.complement.proofs.records.find.Goals as goal

pub returns-then-eq-clause-number : goal.returns-then-eq-clause-number
unfolding looked_up records_of
returns-then-eq-clause-number c =
    let args = c.args in
    let e = equals_same args.x c.load.result in
    number_met same args.x _ _ (quadruple_at args.sets.now) c.loop-number-test.true c.loop-number.invariant.passed (cc)
