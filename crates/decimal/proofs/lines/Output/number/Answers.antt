use mathlib.Core.Path.{refl}
use Rattle.decimal.proofs.Placing.{writing_start, writing_turn, writing_end}
use Rattle.decimal.proofs.lines.Output.number.Goals as goal

pub loop-i-init : goal.loop-i-init
loop-i-init c = record { writing = writing_start _ _ c.places.ensures; same_buffer = refl }

pub loop-i-preserved : goal.loop-i-preserved
loop-i-preserved c =
    record {
      writing = writing_turn c.loop-i-test.true c.loop-i.invariant.writing;
      same_buffer = c.loop-i.invariant.same_buffer;
    }

pub returns : goal.returns
returns c =
    record {
      put = writing_end c.places.ensures c.requires c.loop-i-test.false c.loop-i.invariant.writing;
      same_buffer = c.loop-i.invariant.same_buffer;
    }
