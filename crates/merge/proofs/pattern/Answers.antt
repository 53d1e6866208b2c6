-- `pattern` meets its contract: a table that passes has all its words. Assumes nothing.
use mathlib.Core.Path.{sym}
use native.Mathlib.Omega.{arith}
use Rattle.tables.proofs.Laws.{valid}
use Rattle.patterns.proofs.Answers.{reading_passed}
use Rattle.patterns.proofs.Passed.{checked_table}
use Rattle.merge.proofs.pattern.Goals as goal

pub invariant_of-result : goal.invariant_of-result
invariant_of-result c =
    let whole = (valid _ _ (checked_table _ (sym (reading_passed _ _ c.in_ok-read_pattern.ensures.told)))).whole in
    record { counted = omega arith; sized = omega arith }
