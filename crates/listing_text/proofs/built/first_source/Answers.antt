use mathlib.Core.Path.{refl}
use native.Mathlib.Omega.{arith}
use Rattle.listing_text.specs.Built.{first_source}
use Rattle.listing_text.proofs.Sources.{source_found, source_turn, source_none}
use Rattle.listing_text.proofs.built.first_source.Goals as goal

pub loop-state-init : goal.loop-state-init
unfolding first_source
loop-state-init c = refl

pub returns-then-head-ne0 : goal.returns-then-head-ne0
returns-then-head-ne0 c =
    source_found _ c.args.from (omega arith) c.head.ensures.is c.if-head-ne0.true c.loop-state.invariant

pub loop-state-preserved : goal.loop-state-preserved
loop-state-preserved c =
    source_turn _ c.args.from (omega arith) c.head.ensures.is c.if-head-ne0.false c.loop-state.invariant

pub returns : goal.returns
returns c = source_none _ c.args.from (omega arith) c.loop-state.invariant
