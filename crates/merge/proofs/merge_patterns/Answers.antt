-- `merge_patterns` meets its contract: a refusal clears the words; else they are laid out, and those behind them are cleared
-- (Answers). Assumes nothing.
use mathlib.Core.Path.{sym, ◌∙◌}
use Rattle.merge.proofs.Answers.{says_refused, says_merged}
use Rattle.merge.proofs.Refusals.{refused_pair}
use Rattle.merge.proofs.merge_patterns.Goals as goal

pub returns-in-Err : goal.returns-in-Err
returns-in-Err c = says_refused _ _ _ _ c.in-Err.ensures.refusal c.fill-in-Err.ensures

pub lay_merged-end-requires : goal.lay_merged-end-requires
lay_merged-end-requires c =
    let (first, second) = c.in-Ok.ensures.pair in
    refused_pair _ _ _ c.in-Ok.pair.first_passed c.in-Ok.pair.second_passed ∙ rw (first, second) (sym c.in-Ok.ensures.refusal)

pub returns-in-Ok : goal.returns-in-Ok
returns-in-Ok c =
    let (first, second) = c.in-Ok.ensures.pair in
    says_merged _ _ _ c.in-Ok.ensures.refusal (rw (first, second) at c.lay_merged-end.ensures.end)
    (rw (first, second) at c.lay_merged-end.ensures.laid)
    c.fill.ensures
