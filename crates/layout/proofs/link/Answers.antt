-- `layout::link` meets its contract: a turn links one edge (Linking). Assumes nothing.
use Rattle.layout.proofs.Linking.{linked_none, link_turn}
use Rattle.layout.proofs.link.Goals as goal

pub loop-r-init : goal.loop-r-init
loop-r-init c = linked_none c.requires

pub loop-r-preserved : goal.loop-r-preserved
loop-r-preserved c =
    link_turn c.requires c.loop-r.auto.edges c.loop-r.auto.states c.loop-r.invariant c.loop-r-test.true c.next_number.ensures c.set_head.ensures
