use native.Mathlib.Omega.{arith}
use Rattle.std.proofs.Common.{◌≡◌, ◌+◌, ◌-◌}
use Rattle.listing_text.specs.Output.{edge_bytes}
use Rattle.listing_text.proofs.Printing.{sourcing_start, sourcing_small, row_room, sourcing_turn, sourcing_end}
use Rattle.listing_text.proofs.built.put_edges.Goals as goal

pub loop-number-init : goal.loop-number-init
loop-number-init c = sourcing_start _ (omega (arith, c.requires.room)) c.first_source-next.ensures

pub put_edge-requires-clause-source_lt_most_states : goal.put_edge-requires-clause-source_lt_most_states
put_edge-requires-clause-source_lt_most_states c =
    let few = c.requires.sourced.few in
    let small = sourcing_small c.loop-number.invariant c.unwrap-source.ensures in omega arith

pub put_edge-requires-clause-room : goal.put_edge-requires-clause-room
put_edge-requires-clause-room c =
    let edges = c.records-number-end.ensures.is in
    row_room edge_bytes c.requires.room (omega arith) c.loop-number.invariant.written

pub source_behind-next-requires-clause-source_lt_states : goal.source_behind-next-requires-clause-source_lt_states
source_behind-next-requires-clause-source_lt_states c =
    let small = sourcing_small c.loop-number.invariant c.unwrap-source.ensures in omega arith

pub loop-number-preserved : goal.loop-number-preserved
loop-number-preserved c =
    let edges = c.records-number-end.ensures.is in
    let e : (c.loop-number.number + 1) - 1 ≡ c.loop-number.number = omega arith in
    rw e
    (sourcing_turn c.loop-number.invariant c.unwrap-source.ensures (omega arith) (omega arith) c.put_edge.ensures
    c.source_behind-next.ensures)

pub returns : goal.returns
returns c = let edges = c.records-number-end.ensures.is in sourcing_end c.loop-number.invariant (omega arith)

pub returns-2 : goal.returns-2
returns-2 c =
    let edges = c.records-number-end.ensures.is in
    sourcing_end
    (sourcing_turn c.loop-number.invariant c.unwrap-source.ensures (omega arith) (omega arith) c.put_edge.ensures
    c.source_behind-next.ensures)
    (omega arith)
