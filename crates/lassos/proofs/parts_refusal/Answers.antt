-- `parts_refusal` meets its contract: the words that are needed can be counted. Assumes nothing.
use mathlib.Core.Path.{sym}
use Prim.Native.Nat.{◌^◌}
use native.Mathlib.Omega.{arith}
use Rattle.tables.specs.Table.{wide_range}
use Rattle.tables.proofs.Laws.{valid}
use Rattle.lasso_search.specs.Width.{width_16}
use Rattle.lassos.proofs.Parts.{lengths_past, needed_fits}
use Rattle.lassos.proofs.parts_refusal.Goals as goal

pub overflow_mul-wide-2 : goal.overflow_mul-wide-2
unfolding wide_range
overflow_mul-wide-2 c =
    let few = (valid wide_range _ c.args.wide.passed).states_to in
    let short = lengths_past _ _ (sym c.in_ok-lengths_refusal.ensures) in
    record {
      fits =
          needed_fits (2 ^ width_16.work_bits) _ _ _ (omega arith) (omega (arith, c.args.wide.table.counted)) short.prefix short.loop;
    }
