-- `decide_checked` meets its contract: the lasso's refusals, then the search. Assumes nothing.
use mathlib.Core.Path.{refl, sym}
use Rattle.std.proofs.Common.{rules}
use Rattle.tables.specs.Table.{wide_range}
use Rattle.lassos.proofs.Decides.{parts_decide, decided_found}
use Rattle.lassos.proofs.Parts.{parts_then}
use Rattle.lassos.proofs.decide_checked.Goals as goal

pub returns-in_err-parts_refusal : goal.returns-in_err-parts_refusal
returns-in_err-parts_refusal c =
    let e = parts_decide wide_range _ _ _ _ _ c.args.wide.passed refl refl c.in_err-parts_refusal.ensures in search rules

pub takes-requires : goal.takes-requires
takes-requires c =
    let none = parts_then wide_range _ _ _ _ c.args.wide.passed refl refl c.in_ok-parts_refusal.ensures in
    record { accepted = sym none }

pub returns : goal.returns
returns c =
    decided_found wide_range _ _ _ _ (parts_then wide_range _ _ _ _ c.args.wide.passed refl refl c.in_ok-parts_refusal.ensures) refl
    c.takes.ensures
