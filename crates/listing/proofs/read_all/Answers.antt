-- At the start there is room for what is still to be read. Assumes nothing.
use Rattle.decimal.proofs.Scanning.{ready_start}
use Rattle.listing.proofs.read_all.Goals as goal

pub loop-init : goal.loop-init
loop-init g c = ready_start _ c.start-reading.ensures
