-- All demands are met, as one fact over the width: for tables of every range whose numbers fit their words and that allows what a pattern may
-- have. Assumes nothing.
use Prim.Native.Nat.{ℕ}
use Rattle.basics.specs.Words.{word_bits}
use Rattle.tables.specs.Table.{Limits, Wider, RangeFits, pattern_range, wide_range}
use Rattle.tables.proofs.Laws.{wide_fits, wide_patterns}
use Rattle.tubochre.specs.Demands.{Demands}
use Rattle.tubochre.proofs.Answers.{lasso_demand}
use Rattle.tubochre.proofs.Checks.{check_demand}
use Rattle.tubochre.proofs.Demand.{second_demand, refused_builds, third_demand}
use Rattle.tubochre.proofs.Merges.{merge_demand, merged_demand}
use Rattle.tubochre.proofs.Trays.{tray_demand, third_tray}

-- ALL OF THEM
pub demands : {bits : ℕ} {range : Limits} → RangeFits bits range → Wider pattern_range range → Demands bits range
demands {range} fits wider =
    record {
      check = check_demand;
      merge = merge_demand;
      second = second_demand fits;
      refused = refused_builds range;
      lassos = lasso_demand range;
      trays = tray_demand range;
      third = third_demand range wider;
      third_tray = third_tray range wider (third_demand range wider);
      merged = merged_demand range wider;
    }

-- and for wide tables of 16-bit words
pub wide_demands : Demands word_bits wide_range
wide_demands = demands wide_fits wide_patterns
