-- `try_build` is a try of the table: what its one reading of the table refuses, or what is built from what it read. Assumes nothing.
use Rattle.complement.proofs.Answers.{read_off}
use Rattle.complement.proofs.try_build.Goals as goal

pub returns : goal.returns
returns c = c.build_pattern.ensures.says _ (read_off _ _ _ _ c.in_ok-shape.ensures.told c.in_ok-shape.ensures.spread)
