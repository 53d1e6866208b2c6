-- `try_lasso` meets its contract: what its four calls ensure, put together. Assumes nothing.
use Rattle.tubochre.proofs.Inside.{used_inside}
use Rattle.tubochre.proofs.Trying.{trial_says}
use Rattle.tubochre.proofs.try_lasso.Goals as goal

pub decide_built-complement-requires : goal.decide_built-complement-requires
decide_built-complement-requires c = used_inside c.build_complement-built.ensures

pub returns : goal.returns
returns c =
    trial_says _ c.check_pattern-checked.ensures c.build_complement-built.ensures c.decide_lasso-pattern.ensures
    c.decide_built-complement.ensures
