-- `place` looks a quadruple up, and stores it behind the others where it is new and there is room. Assumes nothing.
use Rattle.std.proofs.Common.{refl}
use Rattle.complement.specs.Found.{known}
use Rattle.complement.proofs.explore.Growth.place.Goals as goal

pub returns-in-Some-clause-placed : goal.returns-in-Some-clause-placed
returns-in-Some-clause-placed c = known _ refl c.in-Some.ensures.inside c.in-Some.ensures.number refl refl
