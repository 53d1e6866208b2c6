use Rattle.std.proofs.Common.{arith}
use Rattle.tables.specs.Table.{wide_range}
use Rattle.complement.proofs.Starting.{start_fits, store_start, store_asks, store_turn, store_end}
use Rattle.complement.proofs.explore.store_initials.Goals as goal

pub loop-choice-init : goal.loop-choice-init
loop-choice-init c = store_start wide_range c.args.shape c.initial_count-choices.ensures c.requires

pub overflow_cast-choice : goal.overflow_cast-choice
overflow_cast-choice c =
    record {
      fits =
          start_fits wide_range c.args.shape c.initial_count-choices.ensures c.loop-choice.choice
          c.loop-choice-test.true;
    }

pub store-requires : goal.store-requires
store-requires c =
    store_asks wide_range c.args.shape c.initial_count-choices.ensures c.loop-choice.invariant c.loop-choice-test.true
    c.room.ensures (omega arith)

pub loop-choice-preserved : goal.loop-choice-preserved
loop-choice-preserved c =
    store_turn wide_range c.args.shape c.initial_count-choices.ensures c.loop-choice.invariant c.loop-choice-test.true
    c.room.ensures (omega arith) c.initial-x.ensures c.store.ensures c.store.auto.words

pub returns : goal.returns
returns c = store_end wide_range c.args.shape c.initial_count-choices.ensures c.loop-choice.invariant (omega arith)
