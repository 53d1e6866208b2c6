-- `Part::lay_records` meets its contract: a turn lays out the row of one record. Assumes nothing.
use Prim.Native.Nat.{◌+◌}
use native.Mathlib.Omega.{arith}
use Rattle.basics.proofs.Laying.{laying_start}
use Rattle.tables.proofs.Laws.{valid}
use Rattle.merge.proofs.Turns.{record_turn}
use Rattle.merge.proofs.Part.lay_records.Goals as goal

pub loop-i-init : goal.loop-i-init
loop-i-init c = laying_start _ _ _ _

pub overflow_cast-words-in-loop-i : goal.overflow_cast-words-in-loop-i
overflow_cast-words-in-loop-i c =
    let target = (valid _ _ c.args.self.valid).target (c.loop-i.i + 1) (omega arith) (omega arith) in omega arith

pub link_on-requires : goal.link_on-requires
link_on-requires c =
    let next = (valid _ _ c.args.self.valid).next (c.loop-i.i + 1) (omega arith) (omega arith) in omega arith

pub loop-i-preserved : goal.loop-i-preserved
loop-i-preserved c =
    record_turn _ _ _ c.loop-i.invariant (omega arith) c.letter.ensures.is c.target.ensures.is c.next.ensures.is c.link_on.ensures
