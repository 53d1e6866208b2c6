-- `next` gives the first lasso of the list, by its two lengths, or none. Assumes nothing.
use mathlib.Core.Path.{refl}
use native.Mathlib.Omega.{arith}
use Rattle.std.proofs.Common.{rules}
use Rattle.trays.proofs.Walking.{few_words, cut_first, whole_first, fewer}
use Rattle.trays.proofs.list.LassosIterator.next.Goals as goal

pub returns-in_default-clause-steps : goal.returns-in_default-clause-steps
returns-in_default-clause-steps c = (few_words _ (omega arith), refl)

pub returns-in_err-prefix-clause-steps : goal.returns-in_err-prefix-clause-steps
returns-in_err-prefix-clause-steps c =
    let short = c.in_err-prefix.ensures.cases in
    rw c.from_residual.ensures (cut_first _ (omega arith) (omega arith), refl)

pub returns-in_err-cycle-clause-steps : goal.returns-in_err-cycle-clause-steps
returns-in_err-cycle-clause-steps c =
    let (fits, front, back, longer, more) = c.in_ok-prefix.ensures.cases in
    let short = c.in_err-cycle.ensures.cases in
    rw c.from_residual-in_err-cycle.ensures (cut_first _ (omega arith) (omega arith), refl)

pub returns-clause-steps : goal.returns-clause-steps
returns-clause-steps c = whole_first _ _ _ _ _ (omega arith) c.in_ok-prefix.ensures.cases c.in_ok-cycle.ensures.cases

pub returns-clause-goes : goal.returns-clause-goes
returns-clause-goes c =
    let less =
    fewer _ _ _ (whole_first c.args.self.now.list.now _ _ _ _ (omega arith) c.in_ok-prefix.ensures.cases c.in_ok-cycle.ensures.cases) in
    record { on = λ h. (tt, tt, less); keeps = search rules; rests = search rules }
