-- `decide_listed` meets its contract: its lengths, its letters, then the decision on the copied letters. Assumes nothing.
use mathlib.Core.Path.{sym}
use native.Mathlib.Omega.{arith}
use lib.ListN.{length}
use Rattle.std.proofs.Common.{rules}
use Rattle.tables.specs.Table.{wide_range}
use Rattle.tables.proofs.Laws.{valid}
use Rattle.lassos.proofs.Parts.{lengths_past}
use Rattle.trays.proofs.Bytes.{listed_lengths, listed_prefix, listed_loop}
use Rattle.trays.proofs.decide_listed.Goals as goal

pub returns-in_err-lengths_refusal : goal.returns-in_err-lengths_refusal
returns-in_err-lengths_refusal c =
    let e = listed_lengths wide_range _ _ _ (length c.args.work.now) c.args.wide.passed _ c.in_err-lengths_refusal.ensures in
    search rules

pub copy_letters-requires-clause-long : goal.copy_letters-requires-clause-long
copy_letters-requires-clause-long c =
    let short = (lengths_past _ _ (sym c.in_ok-lengths_refusal.ensures)).prefix in omega arith

pub copy_letters-requires-clause-narrow : goal.copy_letters-requires-clause-narrow
copy_letters-requires-clause-narrow c =
    let few = (valid wide_range _ c.args.wide.passed).letters_to in omega (arith, c.letters-k.ensures.is)

pub returns-in_err-prefix : goal.returns-in_err-prefix
returns-in_err-prefix c =
    let e =
    listed_prefix wide_range _ _ c.args.lasso.cycle.now (length c.args.work.now) c.args.wide.passed c.in_ok-lengths_refusal.ensures _
    (rw c.letters-k.ensures.is at c.in_err-prefix.ensures.refusal) in
    search rules

pub copy_letters-requires-2-clause-long : goal.copy_letters-requires-2-clause-long
copy_letters-requires-2-clause-long c =
    let short = (lengths_past _ _ (sym c.in_ok-lengths_refusal.ensures)).loop in omega arith

pub copy_letters-requires-2-clause-narrow : goal.copy_letters-requires-2-clause-narrow
copy_letters-requires-2-clause-narrow c =
    let few = (valid wide_range _ c.args.wide.passed).letters_to in omega (arith, c.letters-k.ensures.is)

pub returns-in_err-cycle : goal.returns-in_err-cycle
returns-in_err-cycle c =
    let e =
    listed_loop wide_range _ c.args.lasso.prefix.now _ (length c.args.work.now) c.args.wide.passed c.in_ok-lengths_refusal.ensures _
    (rw c.letters-k.ensures.is at c.in_err-cycle.ensures.refusal) in
    search rules
