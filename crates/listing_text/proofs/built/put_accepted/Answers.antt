-- `put_accepted` writes both counts, the states, and the edges. Assumes nothing.
use Rattle.listing_text.proofs.Printing.{states_room, edges_room, text_appended}
use Rattle.listing_text.proofs.built.put_accepted.Goals as goal

pub put_states-requires-clause-room : goal.put_states-requires-clause-room
put_states-requires-clause-room c =
    states_room c.args.table.counted c.records.ensures.is c.requires.printable c.put_counts.ensures c.requires.room

pub put_edges-requires-clause-room : goal.put_edges-requires-clause-room
put_edges-requires-clause-room c =
    edges_room c.args.table.counted c.records.ensures.is c.requires.printable c.put_counts.ensures c.put_states.ensures
    c.requires.room

pub returns : goal.returns
returns c =
    text_appended c.args.table.counted c.records.ensures.is c.requires.printable c.put_counts.ensures c.put_states.ensures
    c.put_edges.ensures
