-- `source_behind` goes on to the next state with a chain where a chain ends. Assumes nothing.
use native.Mathlib.Omega.{arith}
use Rattle.listing_text.proofs.Sources.{behind_same, behind_next}
use Rattle.listing_text.proofs.built.source_behind.Goals as goal

pub returns-then-next-ne0 : goal.returns-then-next-ne0
returns-then-next-ne0 c = behind_same _ c.args.source c.args.number (omega arith) c.next.ensures.is c.if-next-ne0.true

pub returns : goal.returns
returns c = behind_next _ c.args.source c.args.number _ c.next.ensures.is c.if-next-ne0.false c.first_source.ensures
