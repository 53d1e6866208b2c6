use mathlib.Core.Path.{refl, ◌∙◌, ap}
use mathlib.Core.Logic.{inl}
use native.Mathlib.Omega.{arith}
use lib.ListN.{length, set}
use Rattle.tables.specs.Table.{wide_range}
use Rattle.trays.specs.Answers.{as_byte, byte_of}
use Rattle.trays.proofs.Refusals.{list_fits}
use Rattle.trays.proofs.Walking.{Deciding, deciding_start, deciding_turn, deciding_end}
use Rattle.trays.proofs.decide_each.Goals as goal
use Rattle.trays.proofs.decide_each.Goals.{After-into_iter-i-iterator, After-in_byte}

-- before the first lasso
start :
    (c : After-into_iter-i-iterator) →
    Deciding (byte_of wide_range c.args.wide.table.words.now (length c.args.work.now)) c.args.list.now c.args.answers.now (length c.args.work.now)
    c.args.answers.now c.args.work.now c.into_iter-i-iterator.result.iter.list.now c.into_iter-i-iterator.result.count
start c =
    rw (c.into_iter-i-iterator.ensures.into_iter_gives, c.enumerate-i-items.ensures.source, c.enumerate-i-items.ensures.count)
    (deciding_start refl (list_fits _ _ c.requires).counted)

-- behind one more
turn :
    (c : After-in_byte) →
    Deciding (byte_of wide_range c.args.wide.table.words.now (length c.args.work.now)) c.args.list.now c.args.answers.now (length c.args.work.now)
    (set c.loop-i.answers c.in-Some.i c.in_byte.result) c.decide_listed.new.work c.next.new.self.iter.list.now c.next.new.self.count
unfolding byte_of
turn c =
    let (first, place, further, fits) = c.in-Some.ensures.steps in
    let byte = c.in_byte.ensures ∙ ap as_byte c.decide_listed.ensures in
    rw (place, further) (deciding_turn c.loop-i.invariant.2 _ _ first c.decide_listed.auto.work (rw c.loop-i.invariant.2.room at byte))

pub loop-i-init-derived : goal.loop-i-init-derived
loop-i-init-derived c = ((tt, tt, inl (let count = (start c).count in omega arith)), tt)

pub loop-i-init : goal.loop-i-init
loop-i-init c = ((tt, tt, inl (let count = (start (goal.at.loop-i-init c).After-into_iter-i-iterator).count in omega arith)), tt, start (goal.at.loop-i-init c).After-into_iter-i-iterator)

pub loop-i-preserved : goal.loop-i-preserved
loop-i-preserved c = ((tt, tt, inl (let count = (turn c).count in omega arith)), tt, turn c)

pub returns : goal.returns
returns c = let s = c.in-None.ensures.steps in deciding_end c.loop-i.invariant.2 s.0.0
