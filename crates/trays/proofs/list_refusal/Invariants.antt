-- `list_refusal` meets its contract. The invariant: the lassos that were passed are counted. Assumes nothing.
use lib.ListN.{length}
use Rattle.trays.specs.Tray.{tray}
use Rattle.trays.proofs.Walking.{Counting}
use Rattle.trays.proofs.list_refusal.Given as goal

abbrev pub invariant-loop-count : goal.invariant-loop-count
invariant-loop-count l = Counting l.list l.lassos.list.now l.count

abbrev pub decreases-loop-count : goal.decreases-loop-count
decreases-loop-count l = length (tray l.lassos.list.now).lassos
