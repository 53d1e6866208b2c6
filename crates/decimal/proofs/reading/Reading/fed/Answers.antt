use Rattle.decimal.specs.Reading.{scan}
use Rattle.decimal.proofs.Scanning.{unchanged, fed_more}
use Rattle.decimal.proofs.reading.Reading.fed.Goals as goal

pub loop-byte-init : goal.loop-byte-init
unfolding scan
loop-byte-init c = unchanged c.requires

pub loop-byte-preserved : goal.loop-byte-preserved
loop-byte-preserved c = fed_more c.args.self _ c.loop-byte.byte-index c.loop-byte-test.true c.loop-byte.invariant c.with_byte-reading.ensures
