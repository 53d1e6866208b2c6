use Rattle.std.proofs.Common.{arith}
use Rattle.basics.proofs.Scans.{scan_done}
use Rattle.tables.specs.Table.{records_good}
use Rattle.tables.proofs.Checks.{letter_bad, target_bad}
use Rattle.tables.proofs.Table.records_good.Goals as goal
use Rattle.tables.proofs.Table.records_good.Goals.{then-letter-k-via-then-letter-k, then-letter-k-via-else-letter-k+then-target-self}

pub returns-then-letter-k : goal.returns-then-letter-k
returns-then-letter-k c =
    elim c.then-letter-k.branch [
      | then-letter-k-via-then-letter-k w ↦
          letter_bad c.args.self.words.now c.loop-i.i c.args.self.counted c.letters-k.ensures.is
          c.letter.ensures.is
          (omega arith)
          w.if-letter-k.true
      | then-letter-k-via-else-letter-k+then-target-self w ↦
          target_bad c.args.self.words.now c.loop-i.i c.args.self.counted c.letters-k.ensures.is
          c.letter.ensures.is
          (omega arith)
          w.target.ensures.is
          w.if-target-self.true
    ]

pub returns : goal.returns
unfolding records_good
returns c = scan_done c.loop-i.invariant (omega arith)
