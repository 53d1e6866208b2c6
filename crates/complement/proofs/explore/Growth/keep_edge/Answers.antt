-- `keep_edge` stores an edge where there is room, and counts it. Assumes nothing.
use Rattle.std.proofs.Common.{refl}
use Rattle.tables.specs.Table.{wide_range}
use Rattle.complement.proofs.Stored.{edge_stored, count_more}
use Rattle.complement.proofs.explore.Growth.keep_edge.Goals as goal

pub returns-then-at-self-clause-added : goal.returns-then-at-self-clause-added
unfolding wide_range
returns-then-at-self-clause-added c =
    record {
      words = edge_stored wide_range _ _ _ _ _ c.if-edges-ge-WIDE_RECORDS.false c.if-at-self.true;
      sets = refl;
      states = refl;
      edges = count_more wide_range _ c.if-edges-ge-WIDE_RECORDS.false;
    }
