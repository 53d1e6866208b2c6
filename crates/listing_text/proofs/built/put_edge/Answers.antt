-- `put_edge` writes an edge's source, letter and target. Assumes nothing.
use Rattle.listing_text.proofs.Printing.{edge_appended}
use Rattle.listing_text.proofs.built.put_edge.Goals as goal

pub returns : goal.returns
returns c =
    edge_appended _ c.args.source c.args.number c.letter-letter.ensures.is c.target-target.ensures.is c.line.ensures
