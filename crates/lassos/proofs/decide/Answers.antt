-- `decide` meets its contract: the table's refusals come before the decision on a table that passed. Assumes nothing.
use lib.ListN.{length}
use Rattle.std.proofs.Common.{rules}
use Rattle.tables.specs.Table.{wide_range}
use Rattle.lassos.proofs.Decides.{table_decides}
use Rattle.lassos.proofs.decide.Goals as goal

pub returns-in_err-check : goal.returns-in_err-check
returns-in_err-check c =
    let e = table_decides wide_range _ c.args.prefix.now c.args.cycle.now (length c.args.work.now) _ c.in_err-check.ensures.refusal in
    search rules
