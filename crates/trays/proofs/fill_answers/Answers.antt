-- `fill_answers` meets its contract: 17 and 18 first, then the table's refusals, then each lasso. Assumes nothing.
use mathlib.Core.Path.{sym}
use Rattle.tables.specs.Table.{wide_range}
use Rattle.trays.specs.Answers.{as_byte}
use Rattle.trays.proofs.Refusals.{answers_list, answers_table, answers_each}
use Rattle.trays.proofs.fill_answers.Goals as goal

pub returns-in-Err : goal.returns-in-Err
returns-in-Err c = answers_list wide_range _ _ _ _ _ c.in-Err.ensures c.fill.ensures

pub returns-in-Err-check : goal.returns-in-Err-check
unfolding as_byte
returns-in-Err-check c =
    answers_table wide_range _ _ _ _ (sym c.in_default.ensures) _ c.in-Err-check.ensures.refusal
    (rw c.in_byte.ensures at c.fill-in-Err-check.ensures)

pub returns : goal.returns
returns c =
    answers_each wide_range _ _ _ _ (sym c.in_default.ensures) (sym c.in-Ok.ensures.refusal)
    (rw c.in-Ok.ensures.table at c.decide_each.ensures) c.decide_each.auto.answers
