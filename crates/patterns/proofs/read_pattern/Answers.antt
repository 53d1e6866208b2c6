-- `patterns::read_pattern` leaves the masks as they were where one of refusals 2 to 9 is met. Assumes nothing.
use Rattle.patterns.proofs.Answers.{masks_kept}
use Rattle.patterns.proofs.read_pattern.Goals as goal

pub returns-in_err-pattern-clause-spread : goal.returns-in_err-pattern-clause-spread
returns-in_err-pattern-clause-spread c = masks_kept _ _ c.in_err-pattern.ensures.refusal _
